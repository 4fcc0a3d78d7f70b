-- Programs with protected objects worked by computation: what their runs write. Above each stand its package's declarations and bodies.
use Rattle.std.proofs.Common.{◌≡◌, [], ◌∷◌, Some, None, false, refl}
use Rattle.std.specs.Prelude.{codes}
use Rattle.std.specs.Fmt.{digits}
use Rattle.ada_tree.specs.declared.declaration.Mode.TheVariants as mode
use Rattle.ada_tree.specs.declared.statement.ExceptionChoice.TheVariants.{Exception as Chosen}
use Rattle.ada_tree.specs.ExpressionTree.{Value}
use Rattle.ada_tree.specs.StatementTree.{OfSubprogram, OfEntry, LocalObject, For, stmts_of, Null, Return, Raise, DelayUntil, Loop, NoHandlers, MoreHandlers}
use Rattle.ada_tree.specs.ProgramTree.{ProgramTree, OperationBody, EntryBody, SubprogramBody, TaskBody, ProtectedBody, OfException, OfTask, OfProtected}
use Rattle.meaning.specs.Programs.{program_of}
use Rattle.meaning.specs.Source.{text_of}
use Rattle.meaning.proofs.Trees.{num, v, named, dot, args, range_of, object, formal, procedure, function, entry, task, protected, component, id, body, put, assign, call, app}

-- protected P with Priority => 10 is procedure Give (X : Integer); entry Take (X : out Integer); private V : Integer := 0; Full : Boolean := False; end P;
-- task Cons with Priority => 10; task Prod with Priority => 5; protected body P is procedure Give (X : Integer) is begin V := X; Full := True; end Give;
-- entry Take (X : out Integer) when Full is begin X := V; Full := False; end Take; end P; task body Cons is N : Integer := 0; begin for I in 1 .. 2 loop
-- P.Take (N); Put ("got", N); end loop; end Cons; task body Prod is begin P.Give (7); Put ("gave", 7); P.Give (8); Put ("gave", 8); end Prod; procedure Run
-- is begin null; end Run;
abbrev producer_and_consumer_tree : ProgramTree
producer_and_consumer_tree = app (OfProtected (protected "P" (num 10) (OfSubprogram (procedure "GIVE" (formal "X" mode.In "INTEGER" ∷ [])) None ∷ OfEntry (entry
    "TAKE" (formal "X" mode.Out "INTEGER" ∷ [])) ∷ []) (component "V" "INTEGER" (Some (num 0)) ∷ component "FULL" "BOOLEAN" (Some (v "FALSE")) ∷ [])) ∷ OfTask
    (task "CONS" (num 10)) ∷ OfTask (task "PROD" (num 5)) ∷ []) (ProtectedBody (id "P") (OperationBody (procedure "GIVE" (formal "X" mode.In "INTEGER" ∷ []))
    (body ([]) (stmts_of ((assign "V" [] (v "X")) ∷ (assign "FULL" [] (v "TRUE")) ∷ [])) NoHandlers) ∷ EntryBody (entry "TAKE" (formal "X" mode.Out "INTEGER"
    ∷ [])) (v "FULL") (body ([]) (stmts_of ((assign "X" [] (v "V")) ∷ (assign "FULL" [] (v "FALSE")) ∷ [])) NoHandlers) ∷ []) (id "P") ∷ TaskBody (id "CONS")
    (body (LocalObject (object "N" "INTEGER" (Some (num 0))) ∷ []) (stmts_of ((Loop 0 (For (id "I") false (range_of (num 1) (num 2))) (stmts_of ((call "P"
    (dot "TAKE" ∷ args (Value (v "N") ∷ []) ∷ [])) ∷ (put "got" (v "N")) ∷ []))) ∷ [])) NoHandlers) ∷ TaskBody (id "PROD") (body ([]) (stmts_of ((call "P"
    (dot "GIVE" ∷ args (Value (num 7) ∷ []) ∷ [])) ∷ (put "gave" (num 7)) ∷ (call "P" (dot "GIVE" ∷ args (Value (num 8) ∷ []) ∷ [])) ∷ (put "gave" (num 8)) ∷
    [])) NoHandlers) ∷ SubprogramBody (procedure "RUN" []) (body ([]) (stmts_of ((Null 0) ∷ [])) NoHandlers) ∷ [])

producer_and_consumer : text_of (program_of producer_and_consumer_tree) ([]) 100 ≡ codes "0 CONS got 7\n0 PROD gave 7\n0 CONS got 8\n0 PROD gave 8\nended at 0\n"
unfolding digits
producer_and_consumer = refl

-- protected P with Priority => 10 is procedure Give (X : Integer); entry Take (X : out Integer); private V : Integer := 0; Full : Boolean := False; end P;
-- task T1 with Priority => 9; task T2 with Priority => 9; task T3 with Priority => 5; protected body P is procedure Give (X : Integer) is begin V := X; Full
-- := True; end Give; entry Take (X : out Integer) when Full is begin X := V; Full := False; end Take; end P; task body T1 is N : Integer := 0; begin P.Take
-- (N); Put ("got", N); exception when Program_Error => Put ("pe", 0); end T1; task body T2 is N : Integer := 0; begin P.Take (N); Put ("got", N); exception
-- when Program_Error => Put ("pe", 0); end T2; task body T3 is begin P.Give (4); end T3; procedure Run is begin null; end Run;
abbrev second_caller_is_refused_tree : ProgramTree
second_caller_is_refused_tree = app (OfProtected (protected "P" (num 10) (OfSubprogram (procedure "GIVE" (formal "X" mode.In "INTEGER" ∷ [])) None ∷ OfEntry (entry
    "TAKE" (formal "X" mode.Out "INTEGER" ∷ [])) ∷ []) (component "V" "INTEGER" (Some (num 0)) ∷ component "FULL" "BOOLEAN" (Some (v "FALSE")) ∷ [])) ∷ OfTask
    (task "T1" (num 9)) ∷ OfTask (task "T2" (num 9)) ∷ OfTask (task "T3" (num 5)) ∷ []) (ProtectedBody (id "P") (OperationBody (procedure "GIVE" (formal "X"
    mode.In "INTEGER" ∷ [])) (body ([]) (stmts_of ((assign "V" [] (v "X")) ∷ (assign "FULL" [] (v "TRUE")) ∷ [])) NoHandlers) ∷ EntryBody (entry "TAKE"
    (formal "X" mode.Out "INTEGER" ∷ [])) (v "FULL") (body ([]) (stmts_of ((assign "X" [] (v "V")) ∷ (assign "FULL" [] (v "FALSE")) ∷ [])) NoHandlers) ∷ [])
    (id "P") ∷ TaskBody (id "T1") (body (LocalObject (object "N" "INTEGER" (Some (num 0))) ∷ []) (stmts_of ((call "P" (dot "TAKE" ∷ args (Value (v "N") ∷ [])
    ∷ [])) ∷ (put "got" (v "N")) ∷ [])) (MoreHandlers (Chosen (id "PROGRAM_ERROR") ∷ []) (stmts_of ((put "pe" (num 0)) ∷ [])) NoHandlers)) ∷ TaskBody (id
    "T2") (body (LocalObject (object "N" "INTEGER" (Some (num 0))) ∷ []) (stmts_of ((call "P" (dot "TAKE" ∷ args (Value (v "N") ∷ []) ∷ [])) ∷ (put "got" (v
    "N")) ∷ [])) (MoreHandlers (Chosen (id "PROGRAM_ERROR") ∷ []) (stmts_of ((put "pe" (num 0)) ∷ [])) NoHandlers)) ∷ TaskBody (id "T3") (body ([]) (stmts_of
    ((call "P" (dot "GIVE" ∷ args (Value (num 4) ∷ []) ∷ [])) ∷ [])) NoHandlers) ∷ SubprogramBody (procedure "RUN" []) (body ([]) (stmts_of ((Null 0) ∷ []))
    NoHandlers) ∷ [])

second_caller_is_refused : text_of (program_of second_caller_is_refused_tree) ([]) 100 ≡ codes "0 T2 pe 0\n0 T1 got 4\nended at 0\n"
unfolding digits
second_caller_is_refused = refl

-- protected P with Priority => 10 is procedure Give (X : Integer); entry Take (X : out Integer); private V : Integer := 0; Full : Boolean := False; end P;
-- task Hi with Priority => 12; task Eq with Priority => 10; protected body P is procedure Give (X : Integer) is begin V := X; Full := True; end Give; entry
-- Take (X : out Integer) when Full is begin X := V; Full := False; end Take; end P; task body Hi is begin P.Give (3); exception when Program_Error => Put
-- ("pe", 1); end Hi; task body Eq is N : Integer := 0; begin P.Give (5); P.Take (N); Put ("got", N); end Eq; procedure Run is begin null; end Run;
abbrev caller_above_the_ceiling_tree : ProgramTree
caller_above_the_ceiling_tree = app (OfProtected (protected "P" (num 10) (OfSubprogram (procedure "GIVE" (formal "X" mode.In "INTEGER" ∷ [])) None ∷ OfEntry (entry
    "TAKE" (formal "X" mode.Out "INTEGER" ∷ [])) ∷ []) (component "V" "INTEGER" (Some (num 0)) ∷ component "FULL" "BOOLEAN" (Some (v "FALSE")) ∷ [])) ∷ OfTask
    (task "HI" (num 12)) ∷ OfTask (task "EQ" (num 10)) ∷ []) (ProtectedBody (id "P") (OperationBody (procedure "GIVE" (formal "X" mode.In "INTEGER" ∷ []))
    (body ([]) (stmts_of ((assign "V" [] (v "X")) ∷ (assign "FULL" [] (v "TRUE")) ∷ [])) NoHandlers) ∷ EntryBody (entry "TAKE" (formal "X" mode.Out "INTEGER"
    ∷ [])) (v "FULL") (body ([]) (stmts_of ((assign "X" [] (v "V")) ∷ (assign "FULL" [] (v "FALSE")) ∷ [])) NoHandlers) ∷ []) (id "P") ∷ TaskBody (id "HI")
    (body ([]) (stmts_of ((call "P" (dot "GIVE" ∷ args (Value (num 3) ∷ []) ∷ [])) ∷ [])) (MoreHandlers (Chosen (id "PROGRAM_ERROR") ∷ []) (stmts_of ((put
    "pe" (num 1)) ∷ [])) NoHandlers)) ∷ TaskBody (id "EQ") (body (LocalObject (object "N" "INTEGER" (Some (num 0))) ∷ []) (stmts_of ((call "P" (dot "GIVE" ∷
    args (Value (num 5) ∷ []) ∷ [])) ∷ (call "P" (dot "TAKE" ∷ args (Value (v "N") ∷ []) ∷ [])) ∷ (put "got" (v "N")) ∷ [])) NoHandlers) ∷ SubprogramBody
    (procedure "RUN" []) (body ([]) (stmts_of ((Null 0) ∷ [])) NoHandlers) ∷ [])

caller_above_the_ceiling : text_of (program_of caller_above_the_ceiling_tree) ([]) 100 ≡ codes "0 HI pe 1\n0 EQ got 5\nended at 0\n"
unfolding digits
caller_above_the_ceiling = refl

-- protected Q with Priority => 10 is procedure Give (X : Integer); entry Take (X : out Integer); private V : Integer := 0; Full : Boolean := False; end Q;
-- protected R with Priority => 15 is procedure Give (X : Integer); entry Take (X : out Integer); private V : Integer := 0; Full : Boolean := False; end R;
-- protected P with Priority => 10 is procedure Go; procedure Touch; end P; task T1 with Priority => 5; task T3 with Priority => 15; task T4 with Priority =>
-- 10; protected body Q is procedure Give (X : Integer) is begin V := X; Full := True; end Give; entry Take (X : out Integer) when Full is begin X := V; Full
-- := False; end Take; end Q; protected body R is procedure Give (X : Integer) is begin V := X; Full := True; end Give; entry Take (X : out Integer) when Full
-- is begin X := V; Full := False; end Take; end R; protected body P is procedure Go is begin Q.Give (1); R.Give (1); Put ("mid", 1); end Go; procedure Touch
-- is begin Put ("touch", 2); end Touch; end P; task body T1 is begin P.Go; Put ("done", 4); end T1; task body T3 is N : Integer := 0; begin R.Take (N); Put
-- ("t3", 3); end T3; task body T4 is N : Integer := 0; begin Q.Take (N); P.Touch; end T4; procedure Run is begin null; end Run;
abbrev nested_actions_tree : ProgramTree
nested_actions_tree = app (OfProtected (protected "Q" (num 10) (OfSubprogram (procedure "GIVE" (formal "X" mode.In "INTEGER" ∷ [])) None ∷ OfEntry (entry "TAKE"
    (formal "X" mode.Out "INTEGER" ∷ [])) ∷ []) (component "V" "INTEGER" (Some (num 0)) ∷ component "FULL" "BOOLEAN" (Some (v "FALSE")) ∷ [])) ∷ OfProtected
    (protected "R" (num 15) (OfSubprogram (procedure "GIVE" (formal "X" mode.In "INTEGER" ∷ [])) None ∷ OfEntry (entry "TAKE" (formal "X" mode.Out "INTEGER" ∷ []))
    ∷ []) (component "V" "INTEGER" (Some (num 0)) ∷ component "FULL" "BOOLEAN" (Some (v "FALSE")) ∷ [])) ∷ OfProtected (protected "P" (num 10) (OfSubprogram
    (procedure "GO" []) None ∷ OfSubprogram (procedure "TOUCH" []) None ∷ []) ([])) ∷ OfTask (task "T1" (num 5)) ∷ OfTask (task "T3" (num 15)) ∷ OfTask (task "T4" (num
    10)) ∷ []) (ProtectedBody (id "Q") (OperationBody (procedure "GIVE" (formal "X" mode.In "INTEGER" ∷ [])) (body ([]) (stmts_of ((assign "V" [] (v "X")) ∷
    (assign "FULL" [] (v "TRUE")) ∷ [])) NoHandlers) ∷ EntryBody (entry "TAKE" (formal "X" mode.Out "INTEGER" ∷ [])) (v "FULL") (body ([]) (stmts_of ((assign
    "X" [] (v "V")) ∷ (assign "FULL" [] (v "FALSE")) ∷ [])) NoHandlers) ∷ []) (id "Q") ∷ ProtectedBody (id "R") (OperationBody (procedure "GIVE" (formal "X"
    mode.In "INTEGER" ∷ [])) (body ([]) (stmts_of ((assign "V" [] (v "X")) ∷ (assign "FULL" [] (v "TRUE")) ∷ [])) NoHandlers) ∷ EntryBody (entry "TAKE"
    (formal "X" mode.Out "INTEGER" ∷ [])) (v "FULL") (body ([]) (stmts_of ((assign "X" [] (v "V")) ∷ (assign "FULL" [] (v "FALSE")) ∷ [])) NoHandlers) ∷ [])
    (id "R") ∷ ProtectedBody (id "P") (OperationBody (procedure "GO" []) (body ([]) (stmts_of ((call "Q" (dot "GIVE" ∷ args (Value (num 1) ∷ []) ∷ [])) ∷
    (call "R" (dot "GIVE" ∷ args (Value (num 1) ∷ []) ∷ [])) ∷ (put "mid" (num 1)) ∷ [])) NoHandlers) ∷ OperationBody (procedure "TOUCH" []) (body ([])
    (stmts_of ((put "touch" (num 2)) ∷ [])) NoHandlers) ∷ []) (id "P") ∷ TaskBody (id "T1") (body ([]) (stmts_of ((call "P" (dot "GO" ∷ [])) ∷ (put "done"
    (num 4)) ∷ [])) NoHandlers) ∷ TaskBody (id "T3") (body (LocalObject (object "N" "INTEGER" (Some (num 0))) ∷ []) (stmts_of ((call "R" (dot "TAKE" ∷ args
    (Value (v "N") ∷ []) ∷ [])) ∷ (put "t3" (num 3)) ∷ [])) NoHandlers) ∷ TaskBody (id "T4") (body (LocalObject (object "N" "INTEGER" (Some (num 0))) ∷ [])
    (stmts_of ((call "Q" (dot "TAKE" ∷ args (Value (v "N") ∷ []) ∷ [])) ∷ (call "P" (dot "TOUCH" ∷ [])) ∷ [])) NoHandlers) ∷ SubprogramBody (procedure "RUN"
    []) (body ([]) (stmts_of ((Null 0) ∷ [])) NoHandlers) ∷ [])

nested_actions : text_of (program_of nested_actions_tree) ([]) 140 ≡ codes "0 T3 t3 3\n0 T1 mid 1\n0 T4 touch 2\n0 T1 done 4\nended at 0\n"
unfolding digits
nested_actions = refl

-- Bad : exception; protected P with Priority => 10 is procedure Open; entry Take; private Full : Boolean := False; end P; task C with Priority => 10; task D
-- with Priority => 5; protected body P is procedure Open is begin Full := True; end Open; entry Take when Full is begin Full := False; raise Bad; end Take;
-- end P; task body C is begin P.Take; exception when Bad => Put ("bad", 1); end C; task body D is begin P.Open; Put ("on", 2); end D; procedure Run is begin
-- null; end Run;
abbrev pub exception_of_an_entry_body_tree : ProgramTree
exception_of_an_entry_body_tree = app (OfException (id "BAD") ∷ OfProtected (protected "P" (num 10) (OfSubprogram (procedure "OPEN" []) None ∷ OfEntry (entry
    "TAKE" []) ∷ []) (component "FULL" "BOOLEAN" (Some (v "FALSE")) ∷ [])) ∷ OfTask (task "C" (num 10)) ∷ OfTask (task "D" (num 5)) ∷ []) (ProtectedBody (id
    "P") (OperationBody (procedure "OPEN" []) (body ([]) (stmts_of ((assign "FULL" [] (v "TRUE")) ∷ [])) NoHandlers) ∷ EntryBody (entry "TAKE" []) (v "FULL")
    (body ([]) (stmts_of ((assign "FULL" [] (v "FALSE")) ∷ (Raise 0 (Some (id "BAD"))) ∷ [])) NoHandlers) ∷ []) (id "P") ∷ TaskBody (id "C") (body ([])
    (stmts_of ((call "P" (dot "TAKE" ∷ [])) ∷ [])) (MoreHandlers (Chosen (id "BAD") ∷ []) (stmts_of ((put "bad" (num 1)) ∷ [])) NoHandlers)) ∷ TaskBody (id
    "D") (body ([]) (stmts_of ((call "P" (dot "OPEN" ∷ [])) ∷ (put "on" (num 2)) ∷ [])) NoHandlers) ∷ SubprogramBody (procedure "RUN" []) (body ([]) (stmts_of
    ((Null 0) ∷ [])) NoHandlers) ∷ [])

pub exception_of_an_entry_body : text_of (program_of exception_of_an_entry_body_tree) ([]) 80 ≡ codes "0 C bad 1\n0 D on 2\nended at 0\n"
unfolding digits
exception_of_an_entry_body = refl

-- Bad : exception; protected P with Priority => 10 is procedure Open; entry Take; private Full : Boolean := False; end P; task C with Priority => 10; task D
-- with Priority => 5; protected body P is procedure Open is begin Full := True; raise Bad; end Open; entry Take when Full is begin Full := False; Put
-- ("body", 1); end Take; end P; task body C is begin P.Take; Put ("c", 2); end C; task body D is begin P.Open; exception when Bad => Put ("bad", 3); end D;
-- procedure Run is begin null; end Run;
abbrev service_after_an_exception_tree : ProgramTree
service_after_an_exception_tree = app (OfException (id "BAD") ∷ OfProtected (protected "P" (num 10) (OfSubprogram (procedure "OPEN" []) None ∷ OfEntry (entry
    "TAKE" []) ∷ []) (component "FULL" "BOOLEAN" (Some (v "FALSE")) ∷ [])) ∷ OfTask (task "C" (num 10)) ∷ OfTask (task "D" (num 5)) ∷ []) (ProtectedBody (id
    "P") (OperationBody (procedure "OPEN" []) (body ([]) (stmts_of ((assign "FULL" [] (v "TRUE")) ∷ (Raise 0 (Some (id "BAD"))) ∷ [])) NoHandlers) ∷ EntryBody
    (entry "TAKE" []) (v "FULL") (body ([]) (stmts_of ((assign "FULL" [] (v "FALSE")) ∷ (put "body" (num 1)) ∷ [])) NoHandlers) ∷ []) (id "P") ∷ TaskBody (id
    "C") (body ([]) (stmts_of ((call "P" (dot "TAKE" ∷ [])) ∷ (put "c" (num 2)) ∷ [])) NoHandlers) ∷ TaskBody (id "D") (body ([]) (stmts_of ((call "P" (dot
    "OPEN" ∷ [])) ∷ [])) (MoreHandlers (Chosen (id "BAD") ∷ []) (stmts_of ((put "bad" (num 3)) ∷ [])) NoHandlers)) ∷ SubprogramBody (procedure "RUN" []) (body
    ([]) (stmts_of ((Null 0) ∷ [])) NoHandlers) ∷ [])

service_after_an_exception : text_of (program_of service_after_an_exception_tree) ([]) 80 ≡ codes "0 D body 1\n0 C c 2\n0 D bad 3\nended at 0\n"
unfolding digits
service_after_an_exception = refl

-- Bad : exception; protected P with Priority => 10 is procedure Open; entry Take; private Full : Boolean := False; end P; task C with Priority => 10; task D
-- with Priority => 5; procedure Nap is begin delay until Clock; end Nap; protected body P is procedure Open is begin Full := True; Nap; end Open; entry Take
-- when Full is begin Full := False; Put ("body", 1); end Take; end P; task body C is begin P.Take; Put ("c", 2); end C; task body D is begin P.Open;
-- exception when Program_Error => Put ("pe", 3); end D; procedure Run is begin null; end Run;
abbrev delay_inside_an_action_tree : ProgramTree
delay_inside_an_action_tree = app (OfException (id "BAD") ∷ OfProtected (protected "P" (num 10) (OfSubprogram (procedure "OPEN" []) None ∷ OfEntry (entry "TAKE"
    []) ∷ []) (component "FULL" "BOOLEAN" (Some (v "FALSE")) ∷ [])) ∷ OfTask (task "C" (num 10)) ∷ OfTask (task "D" (num 5)) ∷ []) (SubprogramBody (procedure
    "NAP" []) (body ([]) (stmts_of ((DelayUntil 0 (v "CLOCK")) ∷ [])) NoHandlers) ∷ ProtectedBody (id "P") (OperationBody (procedure "OPEN" []) (body ([])
    (stmts_of ((assign "FULL" [] (v "TRUE")) ∷ (call "NAP" []) ∷ [])) NoHandlers) ∷ EntryBody (entry "TAKE" []) (v "FULL") (body ([]) (stmts_of ((assign
    "FULL" [] (v "FALSE")) ∷ (put "body" (num 1)) ∷ [])) NoHandlers) ∷ []) (id "P") ∷ TaskBody (id "C") (body ([]) (stmts_of ((call "P" (dot "TAKE" ∷ [])) ∷
    (put "c" (num 2)) ∷ [])) NoHandlers) ∷ TaskBody (id "D") (body ([]) (stmts_of ((call "P" (dot "OPEN" ∷ [])) ∷ [])) (MoreHandlers (Chosen (id
    "PROGRAM_ERROR") ∷ []) (stmts_of ((put "pe" (num 3)) ∷ [])) NoHandlers)) ∷ SubprogramBody (procedure "RUN" []) (body ([]) (stmts_of ((Null 0) ∷ []))
    NoHandlers) ∷ [])

delay_inside_an_action : text_of (program_of delay_inside_an_action_tree) ([]) 80 ≡ codes "0 D body 1\n0 C c 2\n0 D pe 3\nended at 0\n"
unfolding digits
delay_inside_an_action = refl

-- protected P with Priority => 10 is procedure Give (X : Integer); entry Take (X : out Integer); private V : Integer := 0; Full : Boolean := False; end P;
-- task C with Priority => 10; protected body P is procedure Give (X : Integer) is begin V := X; Full := True; end Give; entry Take (X : out Integer) when
-- Full is begin X := V; Full := False; end Take; end P; task body C is N : Integer := 0; begin P.Take (N); end C; procedure Run is begin null; end Run;
abbrev a_call_that_nobody_serves_tree : ProgramTree
a_call_that_nobody_serves_tree = app (OfProtected (protected "P" (num 10) (OfSubprogram (procedure "GIVE" (formal "X" mode.In "INTEGER" ∷ [])) None ∷ OfEntry
    (entry "TAKE" (formal "X" mode.Out "INTEGER" ∷ [])) ∷ []) (component "V" "INTEGER" (Some (num 0)) ∷ component "FULL" "BOOLEAN" (Some (v "FALSE")) ∷ [])) ∷
    OfTask (task "C" (num 10)) ∷ []) (ProtectedBody (id "P") (OperationBody (procedure "GIVE" (formal "X" mode.In "INTEGER" ∷ [])) (body ([]) (stmts_of
    ((assign "V" [] (v "X")) ∷ (assign "FULL" [] (v "TRUE")) ∷ [])) NoHandlers) ∷ EntryBody (entry "TAKE" (formal "X" mode.Out "INTEGER" ∷ [])) (v "FULL")
    (body ([]) (stmts_of ((assign "X" [] (v "V")) ∷ (assign "FULL" [] (v "FALSE")) ∷ [])) NoHandlers) ∷ []) (id "P") ∷ TaskBody (id "C") (body (LocalObject
    (object "N" "INTEGER" (Some (num 0))) ∷ []) (stmts_of ((call "P" (dot "TAKE" ∷ args (Value (v "N") ∷ []) ∷ [])) ∷ [])) NoHandlers) ∷ SubprogramBody
    (procedure "RUN" []) (body ([]) (stmts_of ((Null 0) ∷ [])) NoHandlers) ∷ [])

a_call_that_nobody_serves : text_of (program_of a_call_that_nobody_serves_tree) ([]) 60 ≡ codes "waits forever at 0\n"
unfolding digits
a_call_that_nobody_serves = refl

-- protected Low with Priority => 8 is procedure Set; end Low; protected High with Priority => 10 is procedure Go; end High; task T with Priority => 5;
-- protected body Low is procedure Set is begin Put ("low", 1); end Set; end Low; protected body High is procedure Go is begin Put ("high", 1); Low.Set; end
-- Go; end High; task body T is begin Low.Set; High.Go; exception when Program_Error => Put ("pe", 2); end T; procedure Run is begin null; end Run;
abbrev second_call_of_the_same_object_tree : ProgramTree
second_call_of_the_same_object_tree = app (OfProtected (protected "LOW" (num 8) (OfSubprogram (procedure "SET" []) None ∷ []) ([])) ∷ OfProtected (protected "HIGH"
    (num 10) (OfSubprogram (procedure "GO" []) None ∷ []) ([])) ∷ OfTask (task "T" (num 5)) ∷ []) (ProtectedBody (id "LOW") (OperationBody (procedure "SET" [])
    (body ([]) (stmts_of ((put "low" (num 1)) ∷ [])) NoHandlers) ∷ []) (id "LOW") ∷ ProtectedBody (id "HIGH") (OperationBody (procedure "GO" []) (body ([])
    (stmts_of ((put "high" (num 1)) ∷ (call "LOW" (dot "SET" ∷ [])) ∷ [])) NoHandlers) ∷ []) (id "HIGH") ∷ TaskBody (id "T") (body ([]) (stmts_of ((call "LOW"
    (dot "SET" ∷ [])) ∷ (call "HIGH" (dot "GO" ∷ [])) ∷ [])) (MoreHandlers (Chosen (id "PROGRAM_ERROR") ∷ []) (stmts_of ((put "pe" (num 2)) ∷ []))
    NoHandlers)) ∷ SubprogramBody (procedure "RUN" []) (body ([]) (stmts_of ((Null 0) ∷ [])) NoHandlers) ∷ [])

second_call_of_the_same_object : text_of (program_of second_call_of_the_same_object_tree) ([]) 80 ≡ codes "0 T low 1\n0 T high 1\n0 T pe 2\nended at 0\n"
unfolding digits
second_call_of_the_same_object = refl

-- protected P with Priority => 10 is function F return Integer; procedure Go; end P; task T with Priority => 5; function Peek return Integer is begin return
-- P.F; end Peek; protected body P is function F return Integer is begin return 1; end F; procedure Go is begin Put ("x", Peek); end Go; end P; task body T is
-- begin P.Go; exception when Program_Error => Put ("pe", 1); end T; procedure Run is begin null; end Run;
abbrev function_of_the_same_object_tree : ProgramTree
function_of_the_same_object_tree = app (OfProtected (protected "P" (num 10) (OfSubprogram (function "F" [] "INTEGER") None ∷ OfSubprogram (procedure "GO" []) None ∷ [])
    ([])) ∷ OfTask (task "T" (num 5)) ∷ []) (SubprogramBody (function "PEEK" [] "INTEGER") (body ([]) (stmts_of ((Return 0 (Some (named "P" (dot "F" ∷ []))))
    ∷ [])) NoHandlers) ∷ ProtectedBody (id "P") (OperationBody (function "F" [] "INTEGER") (body ([]) (stmts_of ((Return 0 (Some (num 1))) ∷ [])) NoHandlers)
    ∷ OperationBody (procedure "GO" []) (body ([]) (stmts_of ((put "x" (v "PEEK")) ∷ [])) NoHandlers) ∷ []) (id "P") ∷ TaskBody (id "T") (body ([]) (stmts_of
    ((call "P" (dot "GO" ∷ [])) ∷ [])) (MoreHandlers (Chosen (id "PROGRAM_ERROR") ∷ []) (stmts_of ((put "pe" (num 1)) ∷ [])) NoHandlers)) ∷ SubprogramBody
    (procedure "RUN" []) (body ([]) (stmts_of ((Null 0) ∷ [])) NoHandlers) ∷ [])

function_of_the_same_object : text_of (program_of function_of_the_same_object_tree) ([]) 80 ≡ codes "0 T pe 1\nended at 0\n"
unfolding digits
function_of_the_same_object = refl

-- Bad : exception; protected P with Priority => 10 is procedure Open; entry Take; private Full : Boolean := False; end P; task C with Priority => 10; task D
-- with Priority => 5; protected body P is procedure Open is begin Full := True; end Open; entry Take when Full is begin Full := False; return; end Take; end
-- P; task body C is begin P.Take; Put ("c", 1); end C; task body D is begin P.Open; Put ("on", 2); end D; procedure Run is begin null; end Run;
abbrev pub return_out_of_an_entry_body_tree : ProgramTree
return_out_of_an_entry_body_tree = app (OfException (id "BAD") ∷ OfProtected (protected "P" (num 10) (OfSubprogram (procedure "OPEN" []) None ∷ OfEntry (entry
    "TAKE" []) ∷ []) (component "FULL" "BOOLEAN" (Some (v "FALSE")) ∷ [])) ∷ OfTask (task "C" (num 10)) ∷ OfTask (task "D" (num 5)) ∷ []) (ProtectedBody (id
    "P") (OperationBody (procedure "OPEN" []) (body ([]) (stmts_of ((assign "FULL" [] (v "TRUE")) ∷ [])) NoHandlers) ∷ EntryBody (entry "TAKE" []) (v "FULL")
    (body ([]) (stmts_of ((assign "FULL" [] (v "FALSE")) ∷ (Return 0 None) ∷ [])) NoHandlers) ∷ []) (id "P") ∷ TaskBody (id "C") (body ([]) (stmts_of ((call
    "P" (dot "TAKE" ∷ [])) ∷ (put "c" (num 1)) ∷ [])) NoHandlers) ∷ TaskBody (id "D") (body ([]) (stmts_of ((call "P" (dot "OPEN" ∷ [])) ∷ (put "on" (num 2))
    ∷ [])) NoHandlers) ∷ SubprogramBody (procedure "RUN" []) (body ([]) (stmts_of ((Null 0) ∷ [])) NoHandlers) ∷ [])

pub return_out_of_an_entry_body : text_of (program_of return_out_of_an_entry_body_tree) ([]) 80 ≡ codes "0 C c 1\n0 D on 2\nended at 0\n"
unfolding digits
return_out_of_an_entry_body = refl
