-- Programs of several tasks worked by computation: what their runs write. Above each stand its package's declarations and bodies.
use Rattle.std.proofs.Common.{◌≡◌, [], ◌∷◌, Some, false, refl}
use Rattle.std.specs.Prelude.{pos, codes}
use Rattle.std.specs.Fmt.{digits}
use Rattle.ada_tree.specs.declared.expression.BinaryOperator.TheVariants as binary
use Rattle.ada_tree.specs.ExpressionTree.{Binary, Value}
use Rattle.ada_tree.specs.StatementTree.{LocalObject, Forever, For, stmts_of, Null, DelayUntil, Loop, NoHandlers}
use Rattle.ada_tree.specs.ProgramTree.{ProgramTree, SubprogramBody, TaskBody, OfTask}
use Rattle.meaning.specs.Programs.{program_of}
use Rattle.meaning.specs.Source.{text_of}
use Rattle.meaning.proofs.Trees.{num, v, named, args, range_of, object, procedure, task, id, body, put, app}

-- task A with Priority => 5; task B with Priority => 5; task body A is begin for I in 1 .. 3 loop Put ("n", I); delay until Clock; end loop; end A; task body
-- B is begin for I in 1 .. 3 loop Put ("n", I); delay until Clock; end loop; end B; procedure Run is begin null; end Run;
abbrev tasks_take_turns_tree : ProgramTree
tasks_take_turns_tree = app (OfTask (task "A" (num 5)) ∷ OfTask (task "B" (num 5)) ∷ []) (TaskBody (id "A") (body ([]) (stmts_of ((Loop 0 (For (id "I") false
    (range_of (num 1) (num 3))) (stmts_of ((put "n" (v "I")) ∷ (DelayUntil 0 (v "CLOCK")) ∷ []))) ∷ [])) NoHandlers) ∷ TaskBody (id "B") (body ([]) (stmts_of
    ((Loop 0 (For (id "I") false (range_of (num 1) (num 3))) (stmts_of ((put "n" (v "I")) ∷ (DelayUntil 0 (v "CLOCK")) ∷ []))) ∷ [])) NoHandlers) ∷
    SubprogramBody (procedure "RUN" []) (body ([]) (stmts_of ((Null 0) ∷ [])) NoHandlers) ∷ [])

tasks_take_turns : text_of (program_of tasks_take_turns_tree) ([]) 80 ≡ codes "0 A n 1\n0 B n 1\n0 A n 2\n0 B n 2\n0 A n 3\n0 B n 3\nended at 0\n"
unfolding digits
tasks_take_turns = refl

-- task A with Priority => 5; task B with Priority => 5; task C with Priority => 5; task body A is begin delay until Clock; delay until Clock + Milliseconds
-- (1); Put ("w", 1); end A; task body B is begin delay until Clock + Milliseconds (1); Put ("w", 1); end B; task body C is begin delay until Clock +
-- Milliseconds (1); Put ("w", 1); end C; procedure Run is begin null; end Run;
abbrev sleepers_wake_in_the_order_of_waiting_tree : ProgramTree
sleepers_wake_in_the_order_of_waiting_tree = app (OfTask (task "A" (num 5)) ∷ OfTask (task "B" (num 5)) ∷ OfTask (task "C" (num 5)) ∷ []) (TaskBody (id "A")
    (body ([]) (stmts_of ((DelayUntil 0 (v "CLOCK")) ∷ (DelayUntil 0 (Binary binary.Add (v "CLOCK") (named "MILLISECONDS" (args (Value (num 1) ∷ []) ∷ []))))
    ∷ (put "w" (num 1)) ∷ [])) NoHandlers) ∷ TaskBody (id "B") (body ([]) (stmts_of ((DelayUntil 0 (Binary binary.Add (v "CLOCK") (named "MILLISECONDS" (args
    (Value (num 1) ∷ []) ∷ [])))) ∷ (put "w" (num 1)) ∷ [])) NoHandlers) ∷ TaskBody (id "C") (body ([]) (stmts_of ((DelayUntil 0 (Binary binary.Add (v
    "CLOCK") (named "MILLISECONDS" (args (Value (num 1) ∷ []) ∷ [])))) ∷ (put "w" (num 1)) ∷ [])) NoHandlers) ∷ SubprogramBody (procedure "RUN" []) (body ([])
    (stmts_of ((Null 0) ∷ [])) NoHandlers) ∷ [])

sleepers_wake_in_the_order_of_waiting : text_of (program_of sleepers_wake_in_the_order_of_waiting_tree) ([]) 60 ≡ codes "1000 B w 1\n1000 C w 1\n1000 A w 1\nended at 1000\n"
unfolding digits
sleepers_wake_in_the_order_of_waiting = refl

-- task Spin with Priority => 5; task body Spin is begin Put ("go", 1); loop null; end loop; end Spin; procedure Run is begin null; end Run;
abbrev a_task_that_spins_tree : ProgramTree
a_task_that_spins_tree = app (OfTask (task "SPIN" (num 5)) ∷ []) (TaskBody (id "SPIN") (body ([]) (stmts_of ((put "go" (num 1)) ∷ (Loop 0 Forever (stmts_of
    ((Null 0) ∷ []))) ∷ [])) NoHandlers) ∷ SubprogramBody (procedure "RUN" []) (body ([]) (stmts_of ((Null 0) ∷ [])) NoHandlers) ∷ [])

a_task_that_spins : text_of (program_of a_task_that_spins_tree) ([]) 60 ≡ codes "0 SPIN go 1\nstep limit at 0\n"
unfolding digits
a_task_that_spins = refl

-- task A with Priority => 5; task B with Priority => 5; task body A is begin Put ("a", 1); delay until Clock + Microseconds (3); Put ("a", 2); end A; task
-- body B is V : Integer := 0; begin delay until Clock + Microseconds (3); Put ("b", 1 / V); end B; procedure Run is begin null; end Run;
abbrev an_exception_stops_all_tasks_tree : ProgramTree
an_exception_stops_all_tasks_tree = app (OfTask (task "A" (num 5)) ∷ OfTask (task "B" (num 5)) ∷ []) (TaskBody (id "A") (body ([]) (stmts_of ((put "a" (num
    1)) ∷ (DelayUntil 0 (Binary binary.Add (v "CLOCK") (named "MICROSECONDS" (args (Value (num 3) ∷ []) ∷ [])))) ∷ (put "a" (num 2)) ∷ [])) NoHandlers) ∷
    TaskBody (id "B") (body (LocalObject (object "V" "INTEGER" (Some (num 0))) ∷ []) (stmts_of ((DelayUntil 0 (Binary binary.Add (v "CLOCK") (named
    "MICROSECONDS" (args (Value (num 3) ∷ []) ∷ [])))) ∷ (put "b" (Binary binary.Divide (num 1) (v "V"))) ∷ [])) NoHandlers) ∷ SubprogramBody (procedure "RUN"
    []) (body ([]) (stmts_of ((Null 0) ∷ [])) NoHandlers) ∷ [])

an_exception_stops_all_tasks : text_of (program_of an_exception_stops_all_tasks_tree) ([]) 60 ≡ codes "0 A a 1\n3 A a 2\nunhandled CONSTRAINT_ERROR in B at 3\n"
unfolding digits
an_exception_stops_all_tasks = refl

-- task R with Priority => 5; task body R is begin Put ("r", Read (1)); delay until Clock + Microseconds (500); Put ("r", Read (1)); delay until Clock +
-- Microseconds (1); Put ("r", Read (1)); end R; procedure Run is begin null; end Run;
abbrev input_by_time_tree : ProgramTree
input_by_time_tree = app (OfTask (task "R" (num 5)) ∷ []) (TaskBody (id "R") (body ([]) (stmts_of ((put "r" (named "READ" (args (Value (num 1) ∷ []) ∷ []))) ∷
    (DelayUntil 0 (Binary binary.Add (v "CLOCK") (named "MICROSECONDS" (args (Value (num 500) ∷ []) ∷ [])))) ∷ (put "r" (named "READ" (args (Value (num 1) ∷
    []) ∷ []))) ∷ (DelayUntil 0 (Binary binary.Add (v "CLOCK") (named "MICROSECONDS" (args (Value (num 1) ∷ []) ∷ [])))) ∷ (put "r" (named "READ" (args (Value
    (num 1) ∷ []) ∷ []))) ∷ [])) NoHandlers) ∷ SubprogramBody (procedure "RUN" []) (body ([]) (stmts_of ((Null 0) ∷ [])) NoHandlers) ∷ [])

input_by_time : text_of (program_of input_by_time_tree) (record { time = pos 500; channel = 1; value = pos 7 } ∷ []) 60 ≡ codes "0 R r 0\n500 R r 7\n501 R r 7\nended at 501\n"
unfolding digits
input_by_time = refl
