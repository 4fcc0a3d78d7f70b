-- Points of the meaning of tasks and protected objects at which a run could differ, each by a program of its own, worked by computation.
use Rattle.std.proofs.Common.{◌≡◌, [], ◌∷◌, Some, refl, None}
use Rattle.std.specs.Prelude.{codes}
use Rattle.std.specs.Fmt.{digits}
use Rattle.ada_tree.specs.declared.expression.BinaryOperator.TheVariants as binary
use Rattle.ada_tree.specs.declared.declaration.Mode.TheVariants as mode
use Rattle.ada_tree.specs.declared.statement.ExceptionChoice.TheVariants.{Exception as Chosen}
use Rattle.ada_tree.specs.ExpressionTree.{Parenthesized, Binary, Value}
use Rattle.ada_tree.specs.StatementTree.{OfSubprogram, OfEntry, LocalObject, stmts_of, Null, Return, Raise, DelayUntil, If, NoElsifs, NoHandlers, MoreHandlers}
use Rattle.ada_tree.specs.ProgramTree.{ProgramTree, OperationBody, EntryBody, SubprogramBody, TaskBody, ProtectedBody, OfObject, OfException, OfSubprogram as OfDeclared, OfTask, OfProtected}
use Rattle.meaning.specs.Programs.{program_of}
use Rattle.meaning.specs.Source.{text_of}
use Rattle.meaning.proofs.Trees.{num, v, named, dot, args, object, formal, procedure, function, entry, task, protected, component, id, body, put, assign, call, app}

-- task A with Priority => 9; task B with Priority => 5; task body A is begin Put ("a", 1); delay until Clock + Microseconds (2); end A; task body B is begin
-- Put ("b", 1); end B; procedure Run is begin null; end Run;
abbrev a_sleeping_task_has_not_finished_tree : ProgramTree
a_sleeping_task_has_not_finished_tree = app (OfTask (task "A" (num 9)) ∷ OfTask (task "B" (num 5)) ∷ []) (TaskBody (id "A") (body ([]) (stmts_of ((put "a"
    (num 1)) ∷ (DelayUntil 0 (Binary binary.Add (v "CLOCK") (named "MICROSECONDS" (args (Value (num 2) ∷ []) ∷ [])))) ∷ [])) NoHandlers) ∷ TaskBody (id "B")
    (body ([]) (stmts_of ((put "b" (num 1)) ∷ [])) NoHandlers) ∷ SubprogramBody (procedure "RUN" []) (body ([]) (stmts_of ((Null 0) ∷ [])) NoHandlers) ∷ [])

a_sleeping_task_has_not_finished : text_of (program_of a_sleeping_task_has_not_finished_tree) ([]) 40 ≡ codes "0 A a 1\n0 B b 1\nended at 2\n"
unfolding digits
a_sleeping_task_has_not_finished = refl

-- Bad : exception; protected V with Priority => 12 is procedure Open; entry Pass; private Full : Boolean := False; end V; task C with Priority => 10; task D
-- with Priority => 5; protected body V is procedure Open is begin Full := True; raise Bad; end Open; entry Pass when Full is begin Full := False; Put
-- ("pass", 4); end Pass; end V; task body C is begin V.Pass; Put ("c", 5); end C; task body D is begin V.Open; Put ("d", 6); end D; procedure Run is begin
-- null; end Run;
abbrev another_task_runs_before_the_exception_goes_on_tree : ProgramTree
another_task_runs_before_the_exception_goes_on_tree = app (OfException (id "BAD") ∷ OfProtected (protected "V" (num 12) (OfSubprogram (procedure "OPEN" []) None ∷
    OfEntry (entry "PASS" []) ∷ []) (component "FULL" "BOOLEAN" (Some (v "FALSE")) ∷ [])) ∷ OfTask (task "C" (num 10)) ∷ OfTask (task "D" (num 5)) ∷ [])
    (ProtectedBody (id "V") (OperationBody (procedure "OPEN" []) (body ([]) (stmts_of ((assign "FULL" [] (v "TRUE")) ∷ (Raise 0 (Some (id "BAD"))) ∷ []))
    NoHandlers) ∷ EntryBody (entry "PASS" []) (v "FULL") (body ([]) (stmts_of ((assign "FULL" [] (v "FALSE")) ∷ (put "pass" (num 4)) ∷ [])) NoHandlers) ∷ [])
    (id "V") ∷ TaskBody (id "C") (body ([]) (stmts_of ((call "V" (dot "PASS" ∷ [])) ∷ (put "c" (num 5)) ∷ [])) NoHandlers) ∷ TaskBody (id "D") (body ([])
    (stmts_of ((call "V" (dot "OPEN" ∷ [])) ∷ (put "d" (num 6)) ∷ [])) NoHandlers) ∷ SubprogramBody (procedure "RUN" []) (body ([]) (stmts_of ((Null 0) ∷ []))
    NoHandlers) ∷ [])

another_task_runs_before_the_exception_goes_on : text_of (program_of another_task_runs_before_the_exception_goes_on_tree) ([]) 100 ≡ codes "0 D pass 4\n0 C c 5\nunhandled BAD in D at 0\n"
unfolding digits
another_task_runs_before_the_exception_goes_on = refl

-- X : Integer := 0; procedure Deep (N : Integer); protected P with Priority => 10 is procedure Give (X : Integer); entry Take (X : out Integer); private V :
-- Integer := 0; Full : Boolean := False; end P; task T with Priority => 5; protected body P is procedure Give (X : Integer) is begin V := X; Full := True;
-- end Give; entry Take (X : out Integer) when Full is begin X := V; Full := False; end Take; end P; procedure Deep (N : Integer) is begin if N = 0 then
-- P.Take (X); else Deep (N - 1); end if; end Deep; task body T is begin Deep (126); exception when Storage_Error => Put ("se", 1); end T; procedure Run is
-- begin null; end Run;
abbrev an_entry_call_at_the_last_frame_tree : ProgramTree
an_entry_call_at_the_last_frame_tree = app (OfObject (object "X" "INTEGER" (Some (num 0))) ∷ OfDeclared (procedure "DEEP" (formal "N" mode.In "INTEGER" ∷ []))
    ∷ OfProtected (protected "P" (num 10) (OfSubprogram (procedure "GIVE" (formal "X" mode.In "INTEGER" ∷ [])) None ∷ OfEntry (entry "TAKE" (formal "X" mode.Out
    "INTEGER" ∷ [])) ∷ []) (component "V" "INTEGER" (Some (num 0)) ∷ component "FULL" "BOOLEAN" (Some (v "FALSE")) ∷ [])) ∷ OfTask (task "T" (num 5)) ∷ [])
    (ProtectedBody (id "P") (OperationBody (procedure "GIVE" (formal "X" mode.In "INTEGER" ∷ [])) (body ([]) (stmts_of ((assign "V" [] (v "X")) ∷ (assign
    "FULL" [] (v "TRUE")) ∷ [])) NoHandlers) ∷ EntryBody (entry "TAKE" (formal "X" mode.Out "INTEGER" ∷ [])) (v "FULL") (body ([]) (stmts_of ((assign "X" []
    (v "V")) ∷ (assign "FULL" [] (v "FALSE")) ∷ [])) NoHandlers) ∷ []) (id "P") ∷ SubprogramBody (procedure "DEEP" (formal "N" mode.In "INTEGER" ∷ [])) (body
    ([]) (stmts_of ((If 0 (Binary binary.Equal (v "N") (num 0)) (stmts_of ((call "P" (dot "TAKE" ∷ args (Value (v "X") ∷ []) ∷ [])) ∷ [])) NoElsifs (stmts_of
    ((call "DEEP" (args (Value (Binary binary.Subtract (v "N") (num 1)) ∷ []) ∷ [])) ∷ []))) ∷ [])) NoHandlers) ∷ TaskBody (id "T") (body ([]) (stmts_of
    ((call "DEEP" (args (Value (num 126) ∷ []) ∷ [])) ∷ [])) (MoreHandlers (Chosen (id "STORAGE_ERROR") ∷ []) (stmts_of ((put "se" (num 1)) ∷ [])) NoHandlers))
    ∷ SubprogramBody (procedure "RUN" []) (body ([]) (stmts_of ((Null 0) ∷ [])) NoHandlers) ∷ [])

an_entry_call_at_the_last_frame : text_of (program_of an_entry_call_at_the_last_frame_tree) ([]) 3000 ≡ codes "0 T se 1\nended at 0\n"
unfolding digits
an_entry_call_at_the_last_frame = refl

-- protected Q with Priority => 12 is entry Take (X : Integer); end Q; protected P with Priority => 10 is procedure Go; end P; task T with Priority => 5;
-- function Bad_One return Integer is begin return 1 / (1 - 1); end Bad_One; protected body Q is entry Take (X : Integer) when True is begin null; end Take;
-- end Q; protected body P is procedure Go is begin Q.Take (Bad_One); exception when Program_Error => Put ("pe", 1); end Go; end P; task body T is begin P.Go;
-- end T; procedure Run is begin null; end Run;
abbrev pub nothing_of_an_entry_call_in_an_action_is_evaluated_tree : ProgramTree
nothing_of_an_entry_call_in_an_action_is_evaluated_tree = app (OfProtected (protected "Q" (num 12) (OfEntry (entry "TAKE" (formal "X" mode.In "INTEGER" ∷ []))
    ∷ []) ([])) ∷ OfProtected (protected "P" (num 10) (OfSubprogram (procedure "GO" []) None ∷ []) ([])) ∷ OfTask (task "T" (num 5)) ∷ []) (SubprogramBody
    (function "BAD_ONE" [] "INTEGER") (body ([]) (stmts_of ((Return 0 (Some (Binary binary.Divide (num 1) (Parenthesized 0 (Binary binary.Subtract (num 1)
    (num 1)))))) ∷ [])) NoHandlers) ∷ ProtectedBody (id "Q") (EntryBody (entry "TAKE" (formal "X" mode.In "INTEGER" ∷ [])) (v "TRUE") (body ([]) (stmts_of
    ((Null 0) ∷ [])) NoHandlers) ∷ []) (id "Q") ∷ ProtectedBody (id "P") (OperationBody (procedure "GO" []) (body ([]) (stmts_of ((call "Q" (dot "TAKE" ∷ args
    (Value (v "BAD_ONE") ∷ []) ∷ [])) ∷ [])) (MoreHandlers (Chosen (id "PROGRAM_ERROR") ∷ []) (stmts_of ((put "pe" (num 1)) ∷ [])) NoHandlers)) ∷ []) (id "P")
    ∷ TaskBody (id "T") (body ([]) (stmts_of ((call "P" (dot "GO" ∷ [])) ∷ [])) NoHandlers) ∷ SubprogramBody (procedure "RUN" []) (body ([]) (stmts_of ((Null
    0) ∷ [])) NoHandlers) ∷ [])

pub nothing_of_an_entry_call_in_an_action_is_evaluated : text_of (program_of nothing_of_an_entry_call_in_an_action_is_evaluated_tree) ([]) 60 ≡ codes "0 T pe 1\nended at 0\n"
unfolding digits
nothing_of_an_entry_call_in_an_action_is_evaluated = refl

-- protected P with Priority => 10 is procedure Go; procedure Own; private V : Integer := 3; end P; task T with Priority => 5; protected body P is procedure
-- Clear is begin V := V - 1; end Clear; procedure Own is begin Clear; Put ("v", V); end Own; procedure Go is begin Own; Clear; Put ("v", V); end Go; end P;
-- task body T is begin P.Go; end T; procedure Run is begin null; end Run;
abbrev an_internal_call_takes_a_frame_alone_tree : ProgramTree
an_internal_call_takes_a_frame_alone_tree = app (OfProtected (protected "P" (num 10) (OfSubprogram (procedure "GO" []) None ∷ OfSubprogram (procedure "OWN" []) None ∷
    []) (component "V" "INTEGER" (Some (num 3)) ∷ [])) ∷ OfTask (task "T" (num 5)) ∷ []) (ProtectedBody (id "P") (OperationBody (procedure "CLEAR" []) (body
    ([]) (stmts_of ((assign "V" [] (Binary binary.Subtract (v "V") (num 1))) ∷ [])) NoHandlers) ∷ OperationBody (procedure "OWN" []) (body ([]) (stmts_of
    ((call "CLEAR" []) ∷ (put "v" (v "V")) ∷ [])) NoHandlers) ∷ OperationBody (procedure "GO" []) (body ([]) (stmts_of ((call "OWN" []) ∷ (call "CLEAR" []) ∷
    (put "v" (v "V")) ∷ [])) NoHandlers) ∷ []) (id "P") ∷ TaskBody (id "T") (body ([]) (stmts_of ((call "P" (dot "GO" ∷ [])) ∷ [])) NoHandlers) ∷
    SubprogramBody (procedure "RUN" []) (body ([]) (stmts_of ((Null 0) ∷ [])) NoHandlers) ∷ [])

an_internal_call_takes_a_frame_alone : text_of (program_of an_internal_call_takes_a_frame_alone_tree) ([]) 60 ≡ codes "0 T v 2\n0 T v 1\nended at 0\n"
unfolding digits
an_internal_call_takes_a_frame_alone = refl

-- protected P with Priority => 10 is procedure Give; entry Take; private Full : Boolean := False; end P; task C with Priority => 10; task D with Priority =>
-- 5; protected body P is procedure Give is begin Full := True; end Give; entry Take when Full is begin Put ("served", 1); end Take; end P; task body C is
-- begin P.Take; Put ("c", 2); end C; task body D is begin P.Give; Put ("d", 3); end D; procedure Run is begin null; end Run;
abbrev a_served_body_runs_as_the_server_tree : ProgramTree
a_served_body_runs_as_the_server_tree = app (OfProtected (protected "P" (num 10) (OfSubprogram (procedure "GIVE" []) None ∷ OfEntry (entry "TAKE" []) ∷ [])
    (component "FULL" "BOOLEAN" (Some (v "FALSE")) ∷ [])) ∷ OfTask (task "C" (num 10)) ∷ OfTask (task "D" (num 5)) ∷ []) (ProtectedBody (id "P")
    (OperationBody (procedure "GIVE" []) (body ([]) (stmts_of ((assign "FULL" [] (v "TRUE")) ∷ [])) NoHandlers) ∷ EntryBody (entry "TAKE" []) (v "FULL") (body
    ([]) (stmts_of ((put "served" (num 1)) ∷ [])) NoHandlers) ∷ []) (id "P") ∷ TaskBody (id "C") (body ([]) (stmts_of ((call "P" (dot "TAKE" ∷ [])) ∷ (put "c"
    (num 2)) ∷ [])) NoHandlers) ∷ TaskBody (id "D") (body ([]) (stmts_of ((call "P" (dot "GIVE" ∷ [])) ∷ (put "d" (num 3)) ∷ [])) NoHandlers) ∷ SubprogramBody
    (procedure "RUN" []) (body ([]) (stmts_of ((Null 0) ∷ [])) NoHandlers) ∷ [])

a_served_body_runs_as_the_server : text_of (program_of a_served_body_runs_as_the_server_tree) ([]) 60 ≡ codes "0 D served 1\n0 C c 2\n0 D d 3\nended at 0\n"
unfolding digits
a_served_body_runs_as_the_server = refl

-- protected P with Priority => 10 is procedure Give (X : Integer); entry Take (X : out Integer); private V : Integer := 0; Full : Boolean := False; end P;
-- task T with Priority => 5; protected body P is procedure Give (X : Integer) is begin V := X; Full := True; end Give; entry Take (X : out Integer) when Full
-- is begin X := V; Full := False; end Take; end P; task body T is N : Integer := 0; begin P.Give (4); P.Take (N); Put ("n", N); end T; procedure Run is begin
-- null; end Run;
abbrev an_open_barrier_lets_the_caller_in_tree : ProgramTree
an_open_barrier_lets_the_caller_in_tree = app (OfProtected (protected "P" (num 10) (OfSubprogram (procedure "GIVE" (formal "X" mode.In "INTEGER" ∷ [])) None ∷
    OfEntry (entry "TAKE" (formal "X" mode.Out "INTEGER" ∷ [])) ∷ []) (component "V" "INTEGER" (Some (num 0)) ∷ component "FULL" "BOOLEAN" (Some (v "FALSE"))
    ∷ [])) ∷ OfTask (task "T" (num 5)) ∷ []) (ProtectedBody (id "P") (OperationBody (procedure "GIVE" (formal "X" mode.In "INTEGER" ∷ [])) (body ([])
    (stmts_of ((assign "V" [] (v "X")) ∷ (assign "FULL" [] (v "TRUE")) ∷ [])) NoHandlers) ∷ EntryBody (entry "TAKE" (formal "X" mode.Out "INTEGER" ∷ [])) (v
    "FULL") (body ([]) (stmts_of ((assign "X" [] (v "V")) ∷ (assign "FULL" [] (v "FALSE")) ∷ [])) NoHandlers) ∷ []) (id "P") ∷ TaskBody (id "T") (body
    (LocalObject (object "N" "INTEGER" (Some (num 0))) ∷ []) (stmts_of ((call "P" (dot "GIVE" ∷ args (Value (num 4) ∷ []) ∷ [])) ∷ (call "P" (dot "TAKE" ∷
    args (Value (v "N") ∷ []) ∷ [])) ∷ (put "n" (v "N")) ∷ [])) NoHandlers) ∷ SubprogramBody (procedure "RUN" []) (body ([]) (stmts_of ((Null 0) ∷ []))
    NoHandlers) ∷ [])

an_open_barrier_lets_the_caller_in : text_of (program_of an_open_barrier_lets_the_caller_in_tree) ([]) 60 ≡ codes "0 T n 4\nended at 0\n"
unfolding digits
an_open_barrier_lets_the_caller_in = refl
