-- Points of the meaning of calls and statements at which a run could differ, each by a program of its own, worked by computation.
use Rattle.std.proofs.Common.{◌≡◌, [], ◌∷◌, Some, None, true, false, refl}
use Rattle.std.specs.Prelude.{codes}
use Rattle.std.specs.Fmt.{digits}
use Rattle.ada_tree.specs.declared.expression.BinaryOperator.TheVariants as binary
use Rattle.ada_tree.specs.declared.declaration.Mode.TheVariants as mode
use Rattle.ada_tree.specs.declared.statement.ExceptionChoice.TheVariants.{Exception as Chosen, Others}
use Rattle.ada_tree.specs.ExpressionTree.{Parenthesized, Binary, Value}
use Rattle.ada_tree.specs.StatementTree.{OfSubprogram, OfEntry, LocalObject, Forever, While, For, stmts_of, NoStmts, Null, Exit, Return, Raise, If, Loop, Block, NoElsifs, MoreElsifs, NoHandlers, MoreHandlers}
use Rattle.ada_tree.specs.ProgramTree.{ProgramTree, OperationBody, EntryBody, OfItem, SubprogramBody, TaskBody, ProtectedBody, Array, Subtype as SubtypeOf, OfRange, OfObject, OfException, OfTask, OfProtected}
use Rattle.meaning.specs.Programs.{program_of}
use Rattle.meaning.specs.Source.{text_of}
use Rattle.meaning.proofs.Trees.{num, v, named, dot, args, range_of, object, formal, procedure, entry, task, protected, component, declares_type, id, body, put, assign, call, app}

-- procedure Run is begin begin declare N : Integer := 1 / (1 - 1); begin Put ("n", N); exception when others => Put ("in", 1); end; exception when
-- Constraint_Error => Put ("out", 2); end; end Run;
abbrev handlers_stand_once_the_sequence_has_begun_tree : ProgramTree
handlers_stand_once_the_sequence_has_begun_tree = app ([]) (SubprogramBody (procedure "RUN" []) (body ([]) (stmts_of ((Block 0 ([]) (stmts_of ((Block 0
    (LocalObject (object "N" "INTEGER" (Some (Binary binary.Divide (num 1) (Parenthesized 0 (Binary binary.Subtract (num 1) (num 1)))))) ∷ []) (stmts_of ((put
    "n" (v "N")) ∷ [])) (MoreHandlers (Others 0 ∷ []) (stmts_of ((put "in" (num 1)) ∷ [])) NoHandlers)) ∷ [])) (MoreHandlers (Chosen (id "CONSTRAINT_ERROR") ∷
    []) (stmts_of ((put "out" (num 2)) ∷ [])) NoHandlers)) ∷ [])) NoHandlers) ∷ [])

handlers_stand_once_the_sequence_has_begun : text_of (program_of handlers_stand_once_the_sequence_has_begun_tree) ([]) 40 ≡ codes "0 MAIN out 2\nended at 0\n"
unfolding digits
handlers_stand_once_the_sequence_has_begun = refl

-- X : Integer := 1; protected P with Priority => 10 is procedure Give (X : Integer); entry Take (X : out Integer); private V : Integer := 0; Full : Boolean
-- := False; end P; task A with Priority => 9; task B with Priority => 9; protected body P is procedure Give (X : Integer) is begin V := X; Full := True; end
-- Give; entry Take (X : out Integer) when Full is begin X := V; Full := False; end Take; end P; task body A is begin P.Take (X); Put ("x", X); end A; task
-- body B is begin P.Give (7); Put ("b", X); end B; procedure Run is begin null; end Run;
abbrev pub results_are_copied_back_when_the_caller_runs_tree : ProgramTree
results_are_copied_back_when_the_caller_runs_tree = app (OfObject (object "X" "INTEGER" (Some (num 1))) ∷ OfProtected (protected "P" (num 10) (OfSubprogram
    (procedure "GIVE" (formal "X" mode.In "INTEGER" ∷ [])) None ∷ OfEntry (entry "TAKE" (formal "X" mode.Out "INTEGER" ∷ [])) ∷ []) (component "V" "INTEGER" (Some
    (num 0)) ∷ component "FULL" "BOOLEAN" (Some (v "FALSE")) ∷ [])) ∷ OfTask (task "A" (num 9)) ∷ OfTask (task "B" (num 9)) ∷ []) (ProtectedBody (id "P")
    (OperationBody (procedure "GIVE" (formal "X" mode.In "INTEGER" ∷ [])) (body ([]) (stmts_of ((assign "V" [] (v "X")) ∷ (assign "FULL" [] (v "TRUE")) ∷ []))
    NoHandlers) ∷ EntryBody (entry "TAKE" (formal "X" mode.Out "INTEGER" ∷ [])) (v "FULL") (body ([]) (stmts_of ((assign "X" [] (v "V")) ∷ (assign "FULL" []
    (v "FALSE")) ∷ [])) NoHandlers) ∷ []) (id "P") ∷ TaskBody (id "A") (body ([]) (stmts_of ((call "P" (dot "TAKE" ∷ args (Value (v "X") ∷ []) ∷ [])) ∷ (put
    "x" (v "X")) ∷ [])) NoHandlers) ∷ TaskBody (id "B") (body ([]) (stmts_of ((call "P" (dot "GIVE" ∷ args (Value (num 7) ∷ []) ∷ [])) ∷ (put "b" (v "X")) ∷
    [])) NoHandlers) ∷ SubprogramBody (procedure "RUN" []) (body ([]) (stmts_of ((Null 0) ∷ [])) NoHandlers) ∷ [])

pub results_are_copied_back_when_the_caller_runs : text_of (program_of results_are_copied_back_when_the_caller_runs_tree) ([]) 80 ≡ codes "0 B b 1\n0 A x 7\nended at 0\n"
unfolding digits
results_are_copied_back_when_the_caller_runs = refl

-- procedure Two (A : out Integer; B : out Integer) is begin A := 1; B := 2; end Two; procedure Run is X : Integer := 0; begin Two (X, X); Put ("x", X); end
-- Run;
abbrev the_right_one_wins_tree : ProgramTree
the_right_one_wins_tree = app ([]) (SubprogramBody (procedure "TWO" (formal "A" mode.Out "INTEGER" ∷ formal "B" mode.Out "INTEGER" ∷ [])) (body ([]) (stmts_of
    ((assign "A" [] (num 1)) ∷ (assign "B" [] (num 2)) ∷ [])) NoHandlers) ∷ SubprogramBody (procedure "RUN" []) (body (LocalObject (object "X" "INTEGER" (Some
    (num 0))) ∷ []) (stmts_of ((call "TWO" (args (Value (v "X") ∷ Value (v "X") ∷ []) ∷ [])) ∷ (put "x" (v "X")) ∷ [])) NoHandlers) ∷ [])

the_right_one_wins : text_of (program_of the_right_one_wins_tree) ([]) 40 ≡ codes "0 MAIN x 2\nended at 0\n"
unfolding digits
the_right_one_wins = refl

-- type Vec is array (1 .. 3) of Integer; procedure Set (V : out Integer; I : in out Integer) is begin I := 3; V := 9; end Set; procedure Run is A : Vec; I :
-- Integer := 2; begin Set (A (I), I); Put ("a2", A (2)); Put ("a3", A (3)); Put ("i", I); end Run;
abbrev targets_are_named_at_the_call_tree : ProgramTree
targets_are_named_at_the_call_tree = app ([]) (OfItem (declares_type "VEC" (Array (OfRange (range_of (num 1) (num 3))) (id "INTEGER"))) ∷ SubprogramBody
    (procedure "SET" (formal "V" mode.Out "INTEGER" ∷ formal "I" mode.InOut "INTEGER" ∷ [])) (body ([]) (stmts_of ((assign "I" [] (num 3)) ∷ (assign "V" []
    (num 9)) ∷ [])) NoHandlers) ∷ SubprogramBody (procedure "RUN" []) (body (LocalObject (object "A" "VEC" None) ∷ LocalObject (object "I" "INTEGER" (Some
    (num 2))) ∷ []) (stmts_of ((call "SET" (args (Value (named "A" (args (Value (v "I") ∷ []) ∷ [])) ∷ Value (v "I") ∷ []) ∷ [])) ∷ (put "a2" (named "A" (args
    (Value (num 2) ∷ []) ∷ []))) ∷ (put "a3" (named "A" (args (Value (num 3) ∷ []) ∷ []))) ∷ (put "i" (v "I")) ∷ [])) NoHandlers) ∷ [])

targets_are_named_at_the_call : text_of (program_of targets_are_named_at_the_call_tree) ([]) 60 ≡ codes "0 MAIN a2 9\n0 MAIN a3 -9223372036854775808\n0 MAIN i 3\nended at 0\n"
unfolding digits
targets_are_named_at_the_call = refl

-- subtype Small is Integer range 0 .. 9; procedure Set (A : out Integer; B : out Integer) is begin A := 5; B := 10; end Set; procedure Run is A : Integer :=
-- 0; B : Small := 1; begin begin Set (A, B); exception when Constraint_Error => Put ("ce", 0); end; Put ("a", A); Put ("b", B); end Run;
abbrev earlier_results_stay_where_a_later_one_fails_tree : ProgramTree
earlier_results_stay_where_a_later_one_fails_tree = app ([]) (OfItem (declares_type "SMALL" (SubtypeOf (id "INTEGER") (Some (range_of (num 0) (num 9))))) ∷
    SubprogramBody (procedure "SET" (formal "A" mode.Out "INTEGER" ∷ formal "B" mode.Out "INTEGER" ∷ [])) (body ([]) (stmts_of ((assign "A" [] (num 5)) ∷
    (assign "B" [] (num 10)) ∷ [])) NoHandlers) ∷ SubprogramBody (procedure "RUN" []) (body (LocalObject (object "A" "INTEGER" (Some (num 0))) ∷ LocalObject
    (object "B" "SMALL" (Some (num 1))) ∷ []) (stmts_of ((Block 0 ([]) (stmts_of ((call "SET" (args (Value (v "A") ∷ Value (v "B") ∷ []) ∷ [])) ∷ []))
    (MoreHandlers (Chosen (id "CONSTRAINT_ERROR") ∷ []) (stmts_of ((put "ce" (num 0)) ∷ [])) NoHandlers)) ∷ (put "a" (v "A")) ∷ (put "b" (v "B")) ∷ []))
    NoHandlers) ∷ [])

earlier_results_stay_where_a_later_one_fails : text_of (program_of earlier_results_stay_where_a_later_one_fails_tree) ([]) 60 ≡ codes "0 MAIN ce 0\n0 MAIN a 5\n0 MAIN b 1\nended at 0\n"
unfolding digits
earlier_results_stay_where_a_later_one_fails = refl

-- subtype Small is Integer range 3 .. 9; procedure Set (A : out Small) is begin Put ("a", A); end Set; procedure Run is X : Integer := 100; begin Set (X);
-- Put ("x", X); end Run;
abbrev an_out_parameter_begins_anew_tree : ProgramTree
an_out_parameter_begins_anew_tree = app ([]) (OfItem (declares_type "SMALL" (SubtypeOf (id "INTEGER") (Some (range_of (num 3) (num 9))))) ∷ SubprogramBody
    (procedure "SET" (formal "A" mode.Out "SMALL" ∷ [])) (body ([]) (stmts_of ((put "a" (v "A")) ∷ [])) NoHandlers) ∷ SubprogramBody (procedure "RUN" [])
    (body (LocalObject (object "X" "INTEGER" (Some (num 100))) ∷ []) (stmts_of ((call "SET" (args (Value (v "X") ∷ []) ∷ [])) ∷ (put "x" (v "X")) ∷ []))
    NoHandlers) ∷ [])

an_out_parameter_begins_anew : text_of (program_of an_out_parameter_begins_anew_tree) ([]) 40 ≡ codes "0 MAIN a 3\n0 MAIN x 3\nended at 0\n"
unfolding digits
an_out_parameter_begins_anew = refl

-- subtype Small is Integer range 3 .. 9; procedure Set (A : out Integer) is begin null; end Set; procedure Run is X : Small := 4; begin Set (X); exception
-- when Constraint_Error => Put ("ce", 1); end Run;
abbrev an_out_parameter_may_fail_its_actual_tree : ProgramTree
an_out_parameter_may_fail_its_actual_tree = app ([]) (OfItem (declares_type "SMALL" (SubtypeOf (id "INTEGER") (Some (range_of (num 3) (num 9))))) ∷
    SubprogramBody (procedure "SET" (formal "A" mode.Out "INTEGER" ∷ [])) (body ([]) (stmts_of ((Null 0) ∷ [])) NoHandlers) ∷ SubprogramBody (procedure "RUN"
    []) (body (LocalObject (object "X" "SMALL" (Some (num 4))) ∷ []) (stmts_of ((call "SET" (args (Value (v "X") ∷ []) ∷ [])) ∷ [])) (MoreHandlers (Chosen (id
    "CONSTRAINT_ERROR") ∷ []) (stmts_of ((put "ce" (num 1)) ∷ [])) NoHandlers)) ∷ [])

an_out_parameter_may_fail_its_actual : text_of (program_of an_out_parameter_may_fail_its_actual_tree) ([]) 40 ≡ codes "0 MAIN ce 1\nended at 0\n"
unfolding digits
an_out_parameter_may_fail_its_actual = refl

-- subtype Small is Integer range 3 .. 9; procedure Set (A : in out Small) is begin Put ("in", A); A := 4; end Set; procedure Run is X : Integer := 2; begin
-- Set (X); exception when Constraint_Error => Put ("ce", X); end Run;
abbrev an_in_out_parameter_is_checked_at_the_call_tree : ProgramTree
an_in_out_parameter_is_checked_at_the_call_tree = app ([]) (OfItem (declares_type "SMALL" (SubtypeOf (id "INTEGER") (Some (range_of (num 3) (num 9))))) ∷
    SubprogramBody (procedure "SET" (formal "A" mode.InOut "SMALL" ∷ [])) (body ([]) (stmts_of ((put "in" (v "A")) ∷ (assign "A" [] (num 4)) ∷ []))
    NoHandlers) ∷ SubprogramBody (procedure "RUN" []) (body (LocalObject (object "X" "INTEGER" (Some (num 2))) ∷ []) (stmts_of ((call "SET" (args (Value (v
    "X") ∷ []) ∷ [])) ∷ [])) (MoreHandlers (Chosen (id "CONSTRAINT_ERROR") ∷ []) (stmts_of ((put "ce" (v "X")) ∷ [])) NoHandlers)) ∷ [])

an_in_out_parameter_is_checked_at_the_call : text_of (program_of an_in_out_parameter_is_checked_at_the_call_tree) ([]) 40 ≡ codes "0 MAIN ce 2\nended at 0\n"
unfolding digits
an_in_out_parameter_is_checked_at_the_call = refl

-- procedure Run is begin for I in 1 .. 2 loop declare N : Integer := 5; begin Put ("n", N); N := N + I; Put ("n", N); end; end loop; declare N : Boolean :=
-- True; begin if N then Put ("t", 1); end if; end; end Run;
abbrev a_block_starts_its_objects_anew_tree : ProgramTree
a_block_starts_its_objects_anew_tree = app ([]) (SubprogramBody (procedure "RUN" []) (body ([]) (stmts_of ((Loop 0 (For (id "I") false (range_of (num 1) (num
    2))) (stmts_of ((Block 0 (LocalObject (object "N" "INTEGER" (Some (num 5))) ∷ []) (stmts_of ((put "n" (v "N")) ∷ (assign "N" [] (Binary binary.Add (v "N")
    (v "I"))) ∷ (put "n" (v "N")) ∷ [])) NoHandlers) ∷ []))) ∷ (Block 0 (LocalObject (object "N" "BOOLEAN" (Some (v "TRUE"))) ∷ []) (stmts_of ((If 0 (v "N")
    (stmts_of ((put "t" (num 1)) ∷ [])) NoElsifs NoStmts) ∷ [])) NoHandlers) ∷ [])) NoHandlers) ∷ [])

a_block_starts_its_objects_anew : text_of (program_of a_block_starts_its_objects_anew_tree) ([]) 60 ≡ codes "0 MAIN n 5\n0 MAIN n 6\n0 MAIN n 5\n0 MAIN n 7\n0 MAIN t 1\nended at 0\n"
unfolding digits
a_block_starts_its_objects_anew = refl

-- procedure Run is begin for I in reverse 1 .. 3 loop Put ("i", I); end loop; for I in 2 .. 1 loop Put ("never", I); end loop; end Run;
abbrev a_loop_down_and_an_empty_one_tree : ProgramTree
a_loop_down_and_an_empty_one_tree = app ([]) (SubprogramBody (procedure "RUN" []) (body ([]) (stmts_of ((Loop 0 (For (id "I") true (range_of (num 1) (num 3)))
    (stmts_of ((put "i" (v "I")) ∷ []))) ∷ (Loop 0 (For (id "I") false (range_of (num 2) (num 1))) (stmts_of ((put "never" (v "I")) ∷ []))) ∷ [])) NoHandlers)
    ∷ [])

a_loop_down_and_an_empty_one : text_of (program_of a_loop_down_and_an_empty_one_tree) ([]) 40 ≡ codes "0 MAIN i 3\n0 MAIN i 2\n0 MAIN i 1\nended at 0\n"
unfolding digits
a_loop_down_and_an_empty_one = refl

-- procedure Run is N : Integer := 0; begin while N < 2 loop N := N + 1; Put ("n", N); end loop; loop N := N - 1; exit when N < 0; end loop; Put ("n", N); end
-- Run;
abbrev pub a_while_loop_tree : ProgramTree
a_while_loop_tree = app ([]) (SubprogramBody (procedure "RUN" []) (body (LocalObject (object "N" "INTEGER" (Some (num 0))) ∷ []) (stmts_of ((Loop 0 (While
    (Binary binary.Less (v "N") (num 2))) (stmts_of ((assign "N" [] (Binary binary.Add (v "N") (num 1))) ∷ (put "n" (v "N")) ∷ []))) ∷ (Loop 0 Forever
    (stmts_of ((assign "N" [] (Binary binary.Subtract (v "N") (num 1))) ∷ (Exit 0 (Some (Binary binary.Less (v "N") (num 0)))) ∷ []))) ∷ (put "n" (v "N")) ∷
    [])) NoHandlers) ∷ [])

pub a_while_loop : text_of (program_of a_while_loop_tree) ([]) 60 ≡ codes "0 MAIN n 1\n0 MAIN n 2\n0 MAIN n -1\nended at 0\n"
unfolding digits
a_while_loop = refl

-- procedure Run is begin for I in 1 .. 3 loop if I = 1 then Put ("a", I); elsif I = 2 then Put ("b", I); else Put ("c", I); end if; end loop; end Run;
abbrev elsif_and_else_tree : ProgramTree
elsif_and_else_tree = app ([]) (SubprogramBody (procedure "RUN" []) (body ([]) (stmts_of ((Loop 0 (For (id "I") false (range_of (num 1) (num 3))) (stmts_of
    ((If 0 (Binary binary.Equal (v "I") (num 1)) (stmts_of ((put "a" (v "I")) ∷ [])) (MoreElsifs (Binary binary.Equal (v "I") (num 2)) (stmts_of ((put "b" (v
    "I")) ∷ [])) NoElsifs) (stmts_of ((put "c" (v "I")) ∷ []))) ∷ []))) ∷ [])) NoHandlers) ∷ [])

elsif_and_else : text_of (program_of elsif_and_else_tree) ([]) 60 ≡ codes "0 MAIN a 1\n0 MAIN b 2\n0 MAIN c 3\nended at 0\n"
unfolding digits
elsif_and_else = refl

-- E1 : exception; E2 : exception; procedure Run is begin begin raise E1; exception when E1 => begin raise E2; exception when E2 => Put ("two", 2); end;
-- raise; end; exception when E1 => Put ("one", 1); end Run;
abbrev raised_again_from_the_innermost_handler_tree : ProgramTree
raised_again_from_the_innermost_handler_tree = app (OfException (id "E1") ∷ OfException (id "E2") ∷ []) (SubprogramBody (procedure "RUN" []) (body ([])
    (stmts_of ((Block 0 ([]) (stmts_of ((Raise 0 (Some (id "E1"))) ∷ [])) (MoreHandlers (Chosen (id "E1") ∷ []) (stmts_of ((Block 0 ([]) (stmts_of ((Raise 0
    (Some (id "E2"))) ∷ [])) (MoreHandlers (Chosen (id "E2") ∷ []) (stmts_of ((put "two" (num 2)) ∷ [])) NoHandlers)) ∷ (Raise 0 None) ∷ [])) NoHandlers)) ∷
    [])) (MoreHandlers (Chosen (id "E1") ∷ []) (stmts_of ((put "one" (num 1)) ∷ [])) NoHandlers)) ∷ [])

raised_again_from_the_innermost_handler : text_of (program_of raised_again_from_the_innermost_handler_tree) ([]) 60 ≡ codes "0 MAIN two 2\n0 MAIN one 1\nended at 0\n"
unfolding digits
raised_again_from_the_innermost_handler = refl

-- E1 : exception; procedure Go is begin loop begin raise E1; exception when E1 => Put ("e", 1); return; end; end loop; end Go; procedure Run is begin Go; Put
-- ("r", 2); end Run;
abbrev a_return_out_of_handlers_and_loops_tree : ProgramTree
a_return_out_of_handlers_and_loops_tree = app (OfException (id "E1") ∷ []) (SubprogramBody (procedure "GO" []) (body ([]) (stmts_of ((Loop 0 Forever (stmts_of
    ((Block 0 ([]) (stmts_of ((Raise 0 (Some (id "E1"))) ∷ [])) (MoreHandlers (Chosen (id "E1") ∷ []) (stmts_of ((put "e" (num 1)) ∷ (Return 0 None) ∷ []))
    NoHandlers)) ∷ []))) ∷ [])) NoHandlers) ∷ SubprogramBody (procedure "RUN" []) (body ([]) (stmts_of ((call "GO" []) ∷ (put "r" (num 2)) ∷ [])) NoHandlers)
    ∷ [])

a_return_out_of_handlers_and_loops : text_of (program_of a_return_out_of_handlers_and_loops_tree) ([]) 60 ≡ codes "0 MAIN e 1\n0 MAIN r 2\nended at 0\n"
unfolding digits
a_return_out_of_handlers_and_loops = refl
