-- Sequential programs worked by computation: what their runs write. Above each stand its package's declarations and bodies.
use Rattle.std.proofs.Common.{◌≡◌, [], ◌∷◌, Some, None, true, false, refl}
use Rattle.std.specs.Prelude.{codes}
use Rattle.std.specs.Fmt.{digits}
use Rattle.ada_tree.specs.declared.expression.UnaryOperator.TheVariants as unary
use Rattle.ada_tree.specs.declared.expression.BinaryOperator.TheVariants as binary
use Rattle.ada_tree.specs.declared.declaration.Mode.TheVariants as mode
use Rattle.ada_tree.specs.declared.statement.ExceptionChoice.TheVariants.{Exception as Chosen, Others}
use Rattle.ada_tree.specs.ExpressionTree.{Parenthesized, Conditional, Unary, Binary, NoElsifValues, Value}
use Rattle.ada_tree.specs.StatementTree.{LocalObject, For, Values, OtherValues, stmts_of, Null, Exit, Return, Raise, Case, Loop, Block, NoAlternatives, MoreAlternatives, NoHandlers, MoreHandlers}
use Rattle.ada_tree.specs.ProgramTree.{ProgramTree, SubprogramBody, Integer, Array, Record, OfSubtype as OfName, OfException}
use Rattle.meaning.specs.Programs.{program_of}
use Rattle.meaning.specs.Source.{text_of}
use Rattle.meaning.proofs.Trees.{num, v, named, dot, tick, args, range_of, object, formal, procedure, function, field, declares_type, id, body, put, assign, call, app, null_main}

-- procedure Main is begin null; end Main;
abbrev main_alone_tree : ProgramTree
main_alone_tree = null_main

main_alone : text_of (program_of main_alone_tree) ([]) 10 ≡ codes "ended at 0\n"
unfolding digits
main_alone = refl

-- procedure Run is A : Integer := 7; begin Put ("a", -A mod 3); Put ("b", (-A) mod 3); Put ("c", (-A) rem 3); Put ("d", A mod (-3)); Put ("e", -A / 2); end
-- Run;
abbrev division_tree : ProgramTree
division_tree = app ([]) (SubprogramBody (procedure "RUN" []) (body (LocalObject (object "A" "INTEGER" (Some (num 7))) ∷ []) (stmts_of ((put "a" (Unary
    unary.Minus 0 (Binary binary.Mod (v "A") (num 3)))) ∷ (put "b" (Binary binary.Mod (Parenthesized 0 (Unary unary.Minus 0 (v "A"))) (num 3))) ∷ (put "c"
    (Binary binary.Rem (Parenthesized 0 (Unary unary.Minus 0 (v "A"))) (num 3))) ∷ (put "d" (Binary binary.Mod (v "A") (Parenthesized 0 (Unary unary.Minus 0
    (num 3))))) ∷ (put "e" (Unary unary.Minus 0 (Binary binary.Divide (v "A") (num 2)))) ∷ [])) NoHandlers) ∷ [])

division : text_of (program_of division_tree) ([]) 40 ≡ codes "0 MAIN a -1\n0 MAIN b 2\n0 MAIN c -1\n0 MAIN d -2\n0 MAIN e -3\nended at 0\n"
unfolding digits
division = refl

-- procedure Run is M : Integer := Integer'First; B : Integer := -1; begin Put ("m", M mod B); Put ("q", M / B); end Run;
abbrev division_overflows_tree : ProgramTree
division_overflows_tree = app ([]) (SubprogramBody (procedure "RUN" []) (body (LocalObject (object "M" "INTEGER" (Some (named "INTEGER" (tick "FIRST" ∷ []))))
    ∷ LocalObject (object "B" "INTEGER" (Some (Unary unary.Minus 0 (num 1)))) ∷ []) (stmts_of ((put "m" (Binary binary.Mod (v "M") (v "B"))) ∷ (put "q"
    (Binary binary.Divide (v "M") (v "B"))) ∷ [])) NoHandlers) ∷ [])

division_overflows : text_of (program_of division_overflows_tree) ([]) 40 ≡ codes "0 MAIN m 0\nunhandled CONSTRAINT_ERROR in MAIN at 0\n"
unfolding digits
division_overflows = refl

-- procedure Run is L : Integer := Integer'Last; begin for I in L - 1 .. L loop Put ("i", I); end loop; end Run;
abbrev loop_to_the_last_number_tree : ProgramTree
loop_to_the_last_number_tree = app ([]) (SubprogramBody (procedure "RUN" []) (body (LocalObject (object "L" "INTEGER" (Some (named "INTEGER" (tick "LAST" ∷
    [])))) ∷ []) (stmts_of ((Loop 0 (For (id "I") false (range_of (Binary binary.Subtract (v "L") (num 1)) (v "L"))) (stmts_of ((put "i" (v "I")) ∷ []))) ∷
    [])) NoHandlers) ∷ [])

loop_to_the_last_number : text_of (program_of loop_to_the_last_number_tree) ([]) 40 ≡ codes "0 MAIN i 9223372036854775806\n0 MAIN i 9223372036854775807\nended at 0\n"
unfolding digits
loop_to_the_last_number = refl

-- type Small is range 0 .. 9; procedure Run is begin declare S : Small := 10; begin Put ("in", 1); exception when others => Put ("own", 2); end; exception
-- when Constraint_Error => Put ("outer", 3); end Run;
abbrev pub handler_does_not_cover_declarations_tree : ProgramTree
handler_does_not_cover_declarations_tree = app (declares_type "SMALL" (Integer (range_of (num 0) (num 9))) ∷ []) (SubprogramBody (procedure "RUN" []) (body
    ([]) (stmts_of ((Block 0 (LocalObject (object "S" "SMALL" (Some (num 10))) ∷ []) (stmts_of ((put "in" (num 1)) ∷ [])) (MoreHandlers (Others 0 ∷ [])
    (stmts_of ((put "own" (num 2)) ∷ [])) NoHandlers)) ∷ [])) (MoreHandlers (Chosen (id "CONSTRAINT_ERROR") ∷ []) (stmts_of ((put "outer" (num 3)) ∷ []))
    NoHandlers)) ∷ [])

pub handler_does_not_cover_declarations : text_of (program_of handler_does_not_cover_declarations_tree) ([]) 40 ≡ codes "0 MAIN outer 3\nended at 0\n"
unfolding digits
handler_does_not_cover_declarations = refl

-- Bad : exception; procedure Set (X : out Integer) is begin X := 9; raise Bad; end Set; procedure Run is V : Integer := 1; begin Set (V); exception when Bad
-- => Put ("v", V); end Run;
abbrev pub nothing_is_copied_back_after_a_raise_tree : ProgramTree
nothing_is_copied_back_after_a_raise_tree = app (OfException (id "BAD") ∷ []) (SubprogramBody (procedure "SET" (formal "X" mode.Out "INTEGER" ∷ [])) (body
    ([]) (stmts_of ((assign "X" [] (num 9)) ∷ (Raise 0 (Some (id "BAD"))) ∷ [])) NoHandlers) ∷ SubprogramBody (procedure "RUN" []) (body (LocalObject (object
    "V" "INTEGER" (Some (num 1))) ∷ []) (stmts_of ((call "SET" (args (Value (v "V") ∷ []) ∷ [])) ∷ [])) (MoreHandlers (Chosen (id "BAD") ∷ []) (stmts_of ((put
    "v" (v "V")) ∷ [])) NoHandlers)) ∷ [])

pub nothing_is_copied_back_after_a_raise : text_of (program_of nothing_is_copied_back_after_a_raise_tree) ([]) 40 ≡ codes "0 MAIN v 1\nended at 0\n"
unfolding digits
nothing_is_copied_back_after_a_raise = refl

-- function F (N : Integer) return Integer is begin return (if N = 0 then 0 else 1 + F (N - 1)); end F; procedure Run is begin Put ("f", F (125)); Put ("g", F
-- (126)); exception when Storage_Error => Put ("se", 0); end Run;
abbrev calls_within_a_function_tree : ProgramTree
calls_within_a_function_tree = app ([]) (SubprogramBody (function "F" (formal "N" mode.In "INTEGER" ∷ []) "INTEGER") (body ([]) (stmts_of ((Return 0 (Some
    (Conditional 0 (Binary binary.Equal (v "N") (num 0)) (num 0) NoElsifValues (Binary binary.Add (num 1) (named "F" (args (Value (Binary binary.Subtract (v
    "N") (num 1)) ∷ []) ∷ [])))))) ∷ [])) NoHandlers) ∷ SubprogramBody (procedure "RUN" []) (body ([]) (stmts_of ((put "f" (named "F" (args (Value (num 125) ∷
    []) ∷ []))) ∷ (put "g" (named "F" (args (Value (num 126) ∷ []) ∷ []))) ∷ [])) (MoreHandlers (Chosen (id "STORAGE_ERROR") ∷ []) (stmts_of ((put "se" (num
    0)) ∷ [])) NoHandlers)) ∷ [])

calls_within_a_function : text_of (program_of calls_within_a_function_tree) ([]) 40 ≡ codes "0 MAIN f 125\n0 MAIN se 0\nended at 0\n"
unfolding digits
calls_within_a_function = refl

-- type Idx is range 1 .. 3; type Vec is array (Idx) of Integer; type Pair is record A : Integer; B : Boolean; end record; procedure Fill (V : out Vec; N : in
-- out Integer) is begin for I in reverse Idx'First .. Idx'Last loop V (I) := N; N := N * 2; end loop; end Fill; procedure Run is V : Vec; N : Integer := 5; P
-- : Pair; begin Fill (V, N); P.B := N > 30; P.A := (if P.B then V (1) else 0); Put ("v", V (3)); Put ("a", P.A); Put ("n", N); end Run;
abbrev composites_and_copies_tree : ProgramTree
composites_and_copies_tree = app (declares_type "IDX" (Integer (range_of (num 1) (num 3))) ∷ declares_type "VEC" (Array (OfName (id "IDX")) (id "INTEGER")) ∷
    declares_type "PAIR" (Record (field "A" "INTEGER" ∷ field "B" "BOOLEAN" ∷ [])) ∷ []) (SubprogramBody (procedure "FILL" (formal "V" mode.Out "VEC" ∷ formal
    "N" mode.InOut "INTEGER" ∷ [])) (body ([]) (stmts_of ((Loop 0 (For (id "I") true (range_of (named "IDX" (tick "FIRST" ∷ [])) (named "IDX" (tick "LAST" ∷
    [])))) (stmts_of ((assign "V" (args (Value (v "I") ∷ []) ∷ []) (v "N")) ∷ (assign "N" [] (Binary binary.Multiply (v "N") (num 2))) ∷ []))) ∷ []))
    NoHandlers) ∷ SubprogramBody (procedure "RUN" []) (body (LocalObject (object "V" "VEC" None) ∷ LocalObject (object "N" "INTEGER" (Some (num 5))) ∷
    LocalObject (object "P" "PAIR" None) ∷ []) (stmts_of ((call "FILL" (args (Value (v "V") ∷ Value (v "N") ∷ []) ∷ [])) ∷ (assign "P" (dot "B" ∷ []) (Binary
    binary.Greater (v "N") (num 30))) ∷ (assign "P" (dot "A" ∷ []) (Conditional 0 (named "P" (dot "B" ∷ [])) (named "V" (args (Value (num 1) ∷ []) ∷ []))
    NoElsifValues (num 0))) ∷ (put "v" (named "V" (args (Value (num 3) ∷ []) ∷ []))) ∷ (put "a" (named "P" (dot "A" ∷ []))) ∷ (put "n" (v "N")) ∷ []))
    NoHandlers) ∷ [])

composites_and_copies : text_of (program_of composites_and_copies_tree) ([]) 60 ≡ codes "0 MAIN v 5\n0 MAIN a 20\n0 MAIN n 40\nended at 0\n"
unfolding digits
composites_and_copies = refl

-- E1 : exception; E2 : exception; procedure Run is begin begin raise E1; exception when E1 => Put ("a", 1); raise E2; when others => Put ("b", 2); end;
-- exception when E2 => Put ("c", 3); raise; end Run;
abbrev raised_again_from_handlers_tree : ProgramTree
raised_again_from_handlers_tree = app (OfException (id "E1") ∷ OfException (id "E2") ∷ []) (SubprogramBody (procedure "RUN" []) (body ([]) (stmts_of ((Block 0
    ([]) (stmts_of ((Raise 0 (Some (id "E1"))) ∷ [])) (MoreHandlers (Chosen (id "E1") ∷ []) (stmts_of ((put "a" (num 1)) ∷ (Raise 0 (Some (id "E2"))) ∷ []))
    (MoreHandlers (Others 0 ∷ []) (stmts_of ((put "b" (num 2)) ∷ [])) NoHandlers))) ∷ [])) (MoreHandlers (Chosen (id "E2") ∷ []) (stmts_of ((put "c" (num 3))
    ∷ (Raise 0 None) ∷ [])) NoHandlers)) ∷ [])

raised_again_from_handlers : text_of (program_of raised_again_from_handlers_tree) ([]) 60 ≡ codes "0 MAIN a 1\n0 MAIN c 3\nunhandled E2 in MAIN at 0\n"
unfolding digits
raised_again_from_handlers = refl

-- procedure Run is begin for I in 1 .. 4 loop case I mod 3 is when 0 => Put ("z", I); when 1 | 2 => exit when I = 4; Put ("o", I); when others => null; end
-- case; end loop; end Run;
abbrev cases_and_exits_tree : ProgramTree
cases_and_exits_tree = app ([]) (SubprogramBody (procedure "RUN" []) (body ([]) (stmts_of ((Loop 0 (For (id "I") false (range_of (num 1) (num 4))) (stmts_of
    ((Case 0 (Binary binary.Mod (v "I") (num 3)) (MoreAlternatives 270 (Values ((num 0) ∷ [])) (stmts_of ((put "z" (v "I")) ∷ [])) (MoreAlternatives 294
    (Values ((num 1) ∷ (num 2) ∷ [])) (stmts_of ((Exit 0 (Some (Binary binary.Equal (v "I") (num 4)))) ∷ (put "o" (v "I")) ∷ [])) (MoreAlternatives 339
    (OtherValues 344) (stmts_of ((Null 0) ∷ [])) NoAlternatives)))) ∷ []))) ∷ [])) NoHandlers) ∷ [])

cases_and_exits : text_of (program_of cases_and_exits_tree) ([]) 60 ≡ codes "0 MAIN o 1\n0 MAIN o 2\n0 MAIN z 3\nended at 0\n"
unfolding digits
cases_and_exits = refl
