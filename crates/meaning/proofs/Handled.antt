-- Programs with handlers of interrupts worked by computation: what their runs write under schedules. Above each stand its package's declarations and bodies.
use Rattle.std.proofs.Common.{◌≡◌, ℕ, List, [], ◌∷◌, Option, Some, None, false, pos, refl}
use Rattle.std.specs.Prelude.{codes}
use Rattle.std.specs.Fmt.{digits}
use Rattle.base.specs.declared.schedule.ScheduleLine.{ScheduleLine}
use Rattle.ada_tree.specs.declared.declaration.Mode.TheVariants as mode
use Rattle.ada_tree.specs.declared.expression.BinaryOperator.TheVariants as binary
use Rattle.ada_tree.specs.ExpressionTree.{Binary, Value}
use Rattle.ada_tree.specs.StatementTree.{AspectTree, OperationTree, OfSubprogram, OfEntry, ProtectedComponentTree, ProtectedTree, LocalObject, For, stmts_of, Null, Raise, DelayUntil, Loop, NoHandlers}
use Rattle.ada_tree.specs.ProgramTree.{ProgramTree, OperationBody, EntryBody, SubprogramBody, TaskBody, ProtectedBody, OfException, OfTask, OfProtected}
use Rattle.meaning.specs.Programs.{program_of}
use Rattle.meaning.specs.Source.{text_of}
use Rattle.meaning.proofs.Trees.{num, v, named, dot, args, range_of, object, formal, procedure, entry, task, component, id, body, put, assign, call, app}

abbrev line : ℕ → ℕ → ℕ → ScheduleLine
line time channel value = record { time = pos time; channel = channel; value = pos value }

-- `with Attach_Handler => channel`
abbrev attached : ℕ → Option AspectTree
attached channel = Some (record { place = 0; name = id "ATTACH_HANDLER"; value = num channel })

-- P without an aspect
abbrev object_p : List OperationTree → List ProtectedComponentTree → ProtectedTree
object_p operations components =
    record { place = 0; name = id "P"; aspect = None; operations = operations; components = components; end_name = id "P" }

-- protected P is procedure H with Attach_Handler => 2; entry Take (X : out Integer); private V : Integer := 0; Full : Boolean := False; end P; task C with
-- Priority => 10; protected body P is procedure H is begin V := Read (2); Full := True; end H; entry Take (X : out Integer) when Full is begin X := V; Full
-- := False; end Take; end P; task body C is N : Integer := 0; begin for I in 1 .. 2 loop P.Take (N); Put ("got", N); end loop; end C; procedure Run is
-- begin null; end Run;
abbrev filled_tree : ProgramTree
filled_tree =
    app
    (OfProtected (object_p (OfSubprogram (procedure "H" []) (attached 2) ∷ OfEntry (entry "TAKE" (formal "X" mode.Out "INTEGER" ∷ [])) ∷ [])
    (component "V" "INTEGER" (Some (num 0)) ∷ component "FULL" "BOOLEAN" (Some (v "FALSE")) ∷ [])) ∷ OfTask (task "C" (num 10)) ∷ [])
    (ProtectedBody (id "P")
    (OperationBody (procedure "H" [])
    (body [] (stmts_of (assign "V" [] (named "READ" (args (Value (num 2) ∷ []) ∷ [])) ∷ assign "FULL" [] (v "TRUE") ∷ [])) NoHandlers)
    ∷ EntryBody (entry "TAKE" (formal "X" mode.Out "INTEGER" ∷ [])) (v "FULL")
    (body [] (stmts_of (assign "X" [] (v "V") ∷ assign "FULL" [] (v "FALSE") ∷ [])) NoHandlers) ∷ [])
    (id "P")
    ∷ TaskBody (id "C")
    (body (LocalObject (object "N" "INTEGER" (Some (num 0))) ∷ [])
    (stmts_of (Loop 0 (For (id "I") false (range_of (num 1) (num 2)))
    (stmts_of (call "P" (dot "TAKE" ∷ args (Value (v "N") ∷ []) ∷ []) ∷ put "got" (v "N") ∷ [])) ∷ [])) NoHandlers)
    ∷ SubprogramBody (procedure "RUN" []) (body [] (stmts_of (Null 0 ∷ [])) NoHandlers) ∷ [])

filled : text_of (program_of filled_tree) (line 5 2 7 ∷ line 5 2 8 ∷ line 9 2 4 ∷ []) 100 ≡ codes "5 C got 8\n5 C got 8\nended at 5\n"
unfolding digits
filled = refl

unfilled : text_of (program_of filled_tree) (line 5 1 7 ∷ []) 100 ≡ codes "waits forever at 0\n"
unfolding digits
unfilled = refl

-- Bad : exception; protected P is procedure H with Attach_Handler => 1; entry Take; private Full : Boolean := False; end P; task C with Priority => 10;
-- protected body P is procedure H is begin Full := True; raise Bad; end H; entry Take when Full is begin Full := False; Put ("body", 1); end Take; end P;
-- task body C is begin P.Take; Put ("c", 2); end C; procedure Run is begin null; end Run;
abbrev raised_tree : ProgramTree
raised_tree =
    app
    (OfException (id "BAD")
    ∷ OfProtected (object_p (OfSubprogram (procedure "H" []) (attached 1) ∷ OfEntry (entry "TAKE" []) ∷ [])
    (component "FULL" "BOOLEAN" (Some (v "FALSE")) ∷ [])) ∷ OfTask (task "C" (num 10)) ∷ [])
    (ProtectedBody (id "P")
    (OperationBody (procedure "H" []) (body [] (stmts_of (assign "FULL" [] (v "TRUE") ∷ Raise 0 (Some (id "BAD")) ∷ [])) NoHandlers)
    ∷ EntryBody (entry "TAKE" []) (v "FULL") (body [] (stmts_of (assign "FULL" [] (v "FALSE") ∷ put "body" (num 1) ∷ [])) NoHandlers) ∷ [])
    (id "P")
    ∷ TaskBody (id "C") (body [] (stmts_of (call "P" (dot "TAKE" ∷ []) ∷ put "c" (num 2) ∷ [])) NoHandlers)
    ∷ SubprogramBody (procedure "RUN" []) (body [] (stmts_of (Null 0 ∷ [])) NoHandlers) ∷ [])

raised : text_of (program_of raised_tree) (line 3 1 0 ∷ []) 100 ≡ codes "3 INTERRUPT_1 body 1\n3 C c 2\nended at 3\n"
unfolding digits
raised = refl

-- protected P is procedure H with Attach_Handler => 1; end P; task D with Priority => 5; protected body P is procedure H is begin Put ("h", Read (1)); end H;
-- end P; task body D is begin delay until Clock + Microseconds (4); Put ("d", 1); end D; procedure Run is begin null; end Run;
abbrev heard_tree : ProgramTree
heard_tree =
    app
    (OfProtected (object_p (OfSubprogram (procedure "H" []) (attached 1) ∷ []) []) ∷ OfTask (task "D" (num 5)) ∷ [])
    (ProtectedBody (id "P")
    (OperationBody (procedure "H" []) (body [] (stmts_of (put "h" (named "READ" (args (Value (num 1) ∷ []) ∷ [])) ∷ [])) NoHandlers) ∷ [])
    (id "P")
    ∷ TaskBody (id "D")
    (body [] (stmts_of (DelayUntil 0 (Binary binary.Add (v "CLOCK") (named "MICROSECONDS" (args (Value (num 4) ∷ []) ∷ []))) ∷ put "d" (num 1) ∷ [])) NoHandlers)
    ∷ SubprogramBody (procedure "RUN" []) (body [] (stmts_of (Null 0 ∷ [])) NoHandlers) ∷ [])

heard : text_of (program_of heard_tree) (line 4 1 6 ∷ []) 100 ≡ codes "4 INTERRUPT_1 h 6\n4 D d 1\nended at 4\n"
unfolding digits
heard = refl
