-- What a package declares and what stands in its bodies, worked by computation. Places are those in the text below.
use Rattle.std.proofs.Common.{◌≡◌, List, [], ◌∷◌, Some, None, true, false, refl}
use Rattle.std.specs.Prelude.{codes}
use Rattle.ada_tree.specs.declared.declaration.Mode.TheVariants as mode
use Rattle.ada_tree.specs.declared.expression.BinaryOperator.TheVariants as binary
use Rattle.ada_tree.specs.declared.statement.ExceptionChoice.TheVariants.{Others}
use Rattle.ada_tree.specs.declared.statement.ExceptionChoice.TheVariants as choice
use Rattle.ada_tree.specs.ExpressionTree.{Named, NoSelectors, selectors_of, Arguments, Value, Text, arguments_of}
use Rattle.ada_tree.specs.StatementTree.{OfSubprogram, OfEntry, LocalObject, NoStmts, MoreStmts, Null, Assignment, Call, Return, If, Case, Loop, Block}
use Rattle.ada_tree.specs.StatementTree.{For, NoElsifs, MoreElsifs, Values, OtherValues, NoAlternatives, MoreAlternatives, NoHandlers, MoreHandlers}
use Rattle.ada_tree.specs.ProgramTree.{ItemTree, BodyItemTree, OperationBody, EntryBody, OfItem, SubprogramBody, TaskBody, ProtectedBody, Array, OfRange}
use Rattle.ada_tree.specs.ProgramTree.{OfType as TypeItem, OfObject, OfException, OfSubprogram as OfDeclared, OfTask, OfProtected}
use Rattle.size_rules.specs.declared.thing.Kind.TheVariants.{Subprogram, Task, ProtectedObject, Exception}
use Rattle.size_rules.specs.declared.thing.Thing.TheVariants.{Counted, Label, Object}
use Rattle.size_rules.specs.PackageSizes.{package_inside, package_things}
use Rattle.size_rules.proofs.Sample.{identifier, num, two, name_of, object_of, range_of, formal_of, subprogram_of, body_of, package_of}

-- package App is type Row is array (1 .. 3) of Integer; Ten : constant Integer := 10; N : Integer; R : Row; Bad : exception; procedure Go (K : Row; L :
-- out Integer); task Clerk; protected P is function Get return Integer; entry Take (K : Integer); private V : Row; Full : Boolean := True; end P; end
-- App; package body App is M : Nobody; procedure Go (K : Row; L : out Integer) is A : constant Row := K; begin Put ("a", 1); if L = 1 then declare B :
-- Row; begin Put ("b", 1); end; elsif L = 2 then declare C : Integer; begin Put ("b", 2); exception when others => declare D : Integer; begin null; end;
-- end; else declare E : Row; begin L := 1; end; end if; for I in 1 .. 3 loop declare F : Integer; begin Put (Label, "z"); end; end loop; case L is when
-- 1 => declare G : Row; begin null; end; when others => Put ("B", L); end case; exception when Bad => declare H : Boolean; begin null; end; end Go;
-- procedure Help is begin null; end Help; Worse : exception; protected body P is procedure Own is begin V (1) := 1; end Own; function Get return Integer
-- is begin return V (1); end Get; entry Take (K : Integer) when Full is J : Row; begin Put ("a", K); end Take; end P; task body Clerk is S : Nobody; T :
-- Row; begin Put ("d", 1); end Clerk; end App;
abbrev specified : List ItemTree
specified =
    TypeItem (record {
      name = (identifier 20 (codes "ROW"));
      definition = (Array (OfRange (range_of (num 34 1) (num 39 3))) (identifier 45
          (codes "INTEGER")));
    })
    ∷ OfObject (object_of (identifier 54 (codes "TEN")) true (identifier 69 (codes "INTEGER")) (Some (num 80 10)))
    ∷ OfObject (object_of (identifier 84 (codes "N")) false (identifier 88 (codes "INTEGER")) None)
    ∷ OfObject (object_of (identifier 97 (codes "R")) false (identifier 101 (codes "ROW")) None)
    ∷ OfException (identifier 106 (codes "BAD"))
    ∷ OfDeclared (subprogram_of 123 (identifier 133 (codes "GO")) (formal_of (identifier 137 (codes "K")) mode.In (identifier 141 (codes "ROW")) ∷
    formal_of (identifier 146 (codes "L")) mode.Out (identifier 154 (codes "INTEGER")) ∷ []) None)
    ∷ OfTask (record { place = 164; name = (identifier 169 (codes "CLERK")); aspect = None; definition = None })
    ∷ OfProtected (record {
      place = 176;
      name = (identifier 186 (codes "P"));
      aspect = None;
      operations = OfSubprogram (subprogram_of 191 (identifier
          200 (codes "GET")) ([]) (Some (identifier 211 (codes "INTEGER")))) None ∷ OfEntry (record {
            place = 220;
            name = (identifier 226 (codes "TAKE"));
            formals = formal_of (identifier 232 (codes "K")) mode.In (identifier 236 (codes "INTEGER")) ∷ [];
          }) ∷ [];
      components = record {
        name =
            (identifier 254 (codes "V"));
        subtype = (identifier 258 (codes "ROW"));
        value = None;
      } ∷ record {
        name = (identifier 263 (codes "FULL"));
        subtype = (identifier 270 (codes "BOOLEAN"));
        value = (Some (Named (identifier 281 (codes "TRUE")) NoSelectors));
      } ∷ [];
      end_name =
          (identifier 291 (codes "P"));
    })
    ∷ []

abbrev bodies : List BodyItemTree
bodies =
    OfItem (OfObject (object_of (identifier 323 (codes "M")) false (identifier 327 (codes "NOBODY")) None))
    ∷ SubprogramBody (subprogram_of 335 (identifier 345 (codes "GO")) (formal_of (identifier 349 (codes "K")) mode.In (identifier 353 (codes "ROW"))
    ∷ formal_of (identifier 358 (codes "L")) mode.Out (identifier 366 (codes "INTEGER")) ∷ []) None) (body_of (LocalObject (object_of (identifier
    378 (codes "A")) true (identifier 391 (codes "ROW")) (Some (Named (identifier 398 (codes "K")) NoSelectors))) ∷ []) (MoreStmts (Call (name_of
    (identifier 407 (codes "PUT")) (selectors_of (Arguments (arguments_of ((Text (codes "a") 412) ∷ (Value (num 417 1)) ∷ [])) ∷ [])))) (MoreStmts
    (If 421 (two binary.Equal (Named (identifier 424 (codes "L")) NoSelectors) (num 428 1)) (MoreStmts (Block 435 (LocalObject (object_of
    (identifier 443 (codes "B")) false (identifier 447 (codes "ROW")) None) ∷ []) (MoreStmts (Call (name_of (identifier 458 (codes "PUT"))
    (selectors_of (Arguments (arguments_of ((Text (codes "b") 463) ∷ (Value (num 468 1)) ∷ [])) ∷ [])))) NoStmts) NoHandlers) NoStmts) (MoreElsifs
    (two binary.Equal (Named (identifier 483 (codes "L")) NoSelectors) (num 487 2)) (MoreStmts (Block 494 (LocalObject (object_of (identifier 502
    (codes "C")) false (identifier 506 (codes "INTEGER")) None) ∷ []) (MoreStmts (Call (name_of (identifier 521 (codes "PUT")) (selectors_of
    (Arguments (arguments_of ((Text (codes "b") 526) ∷ (Value (num 531 2)) ∷ [])) ∷ [])))) NoStmts) (MoreHandlers (Others 550 ∷ []) (MoreStmts
    (Block 560 (LocalObject (object_of (identifier 568 (codes "D")) false (identifier 572 (codes "INTEGER")) None) ∷ []) (MoreStmts (Null 587)
    NoStmts) NoHandlers) NoStmts) NoHandlers)) NoStmts) NoElsifs) (MoreStmts (Block 608 (LocalObject (object_of (identifier 616 (codes "E")) false
    (identifier 620 (codes "ROW")) None) ∷ []) (MoreStmts (Assignment (name_of (identifier 631 (codes "L")) NoSelectors) (num 636 1)) NoStmts)
    NoHandlers) NoStmts)) (MoreStmts (Loop 652 (For (identifier 656 (codes "I")) false (range_of (num 661 1) (num 666 3))) (MoreStmts (Block 673
    (LocalObject (object_of (identifier 681 (codes "F")) false (identifier 685 (codes "INTEGER")) None) ∷ []) (MoreStmts (Call (name_of
    (identifier 700 (codes "PUT")) (selectors_of (Arguments (arguments_of ((Value (Named (identifier 705 (codes "LABEL")) NoSelectors)) ∷ (Text
    (codes "z") 712) ∷ [])) ∷ [])))) NoStmts) NoHandlers) NoStmts)) (MoreStmts (Case 733 (Named (identifier 738 (codes "L")) NoSelectors)
    (MoreAlternatives 743 (Values ((num 748 1) ∷ [])) (MoreStmts (Block 753 (LocalObject (object_of (identifier 761 (codes "G")) false (identifier
    765 (codes "ROW")) None) ∷ []) (MoreStmts (Null 776) NoStmts) NoHandlers) NoStmts) (MoreAlternatives 787 (OtherValues 792) (MoreStmts (Call
    (name_of (identifier 802 (codes "PUT")) (selectors_of (Arguments (arguments_of ((Text (codes "B") 807) ∷ (Value (Named (identifier 812
    (codes "L")) NoSelectors)) ∷ [])) ∷ [])))) NoStmts) NoAlternatives))) NoStmts)))) (MoreHandlers (choice.Exception (identifier 841 (codes "BAD")) ∷ [])
    (MoreStmts (Block 848 (LocalObject (object_of (identifier 856 (codes "H")) false (identifier 860 (codes "BOOLEAN")) None) ∷ []) (MoreStmts
    (Null 875) NoStmts) NoHandlers) NoStmts) NoHandlers) (identifier 890 (codes "GO")))
    ∷ SubprogramBody (subprogram_of 894 (identifier 904 (codes "HELP")) ([]) None) (body_of ([]) (MoreStmts (Null 918) NoStmts) NoHandlers
    (identifier 928 (codes "HELP")))
    ∷ OfItem (OfException (identifier 934 (codes "WORSE")))
    ∷ ProtectedBody (identifier 968 (codes "P")) (OperationBody (subprogram_of 973 (identifier 983 (codes "OWN")) ([]) None) (body_of ([]) (MoreStmts
    (Assignment (name_of (identifier 996 (codes "V")) (selectors_of (Arguments (arguments_of ((Value (num 999 1)) ∷ [])) ∷ []))) (num 1005 1))
    NoStmts) NoHandlers (identifier 1012 (codes "OWN"))) ∷ OperationBody (subprogram_of 1017 (identifier 1026 (codes "GET")) ([]) (Some
    (identifier 1037 (codes "INTEGER")))) (body_of ([]) (MoreStmts (Return 1054 (Some (Named (identifier 1061 (codes "V")) (selectors_of
    (Arguments (arguments_of ((Value (num 1064 1)) ∷ [])) ∷ []))))) NoStmts) NoHandlers (identifier 1072 (codes "GET"))) ∷ EntryBody (record {
      place = 1077;
      name = (identifier 1083 (codes "TAKE"));
      formals = formal_of (identifier 1089 (codes "K")) mode.In (identifier 1093
          (codes "INTEGER")) ∷ [];
    }) (Named (identifier 1107 (codes "FULL")) NoSelectors) (body_of (LocalObject (object_of (identifier 1115 (codes "J"))
    false (identifier 1119 (codes "ROW")) None) ∷ []) (MoreStmts (Call (name_of (identifier 1130 (codes "PUT")) (selectors_of (Arguments
    (arguments_of ((Text (codes "a") 1135) ∷ (Value (Named (identifier 1140 (codes "K")) NoSelectors)) ∷ [])) ∷ [])))) NoStmts) NoHandlers
    (identifier 1148 (codes "TAKE"))) ∷ []) (identifier 1158 (codes "P"))
    ∷ TaskBody (identifier 1171 (codes "CLERK")) (body_of (LocalObject (object_of (identifier 1180 (codes "S")) false (identifier 1184
    (codes "NOBODY")) None) ∷ LocalObject (object_of (identifier 1192 (codes "T")) false (identifier 1196 (codes "ROW")) None) ∷ []) (MoreStmts
    (Call (name_of (identifier 1207 (codes "PUT")) (selectors_of (Arguments (arguments_of ((Text (codes "d") 1212) ∷ (Value (num 1217 1)) ∷ [])) ∷
    [])))) NoStmts) NoHandlers (identifier 1225 (codes "CLERK")))
    ∷ []

-- constants and bodies behind their declarations are left out; what is no subtype has no words
what_is_declared : package_things (package_of specified bodies) ≡
    Object 84 1 ∷ Object 97 3 ∷ Counted Exception 106 ∷ Counted Subprogram 123 ∷ Counted Task 164 ∷ Counted ProtectedObject 176 ∷ Counted
    Subprogram 191 ∷ Counted Subprogram 220 ∷ Object 254 3 ∷ Object 263 1 ∷ Object 323 0 ∷ Counted Subprogram 894 ∷ Counted Exception 934 ∷
    Counted Subprogram 973 ∷ []
what_is_declared = refl

-- the labels of calls, formals of each mode, constants, and the locals of blocks and handlers; loop parameters are left out
what_is_inside : package_inside (package_of specified bodies) ≡
    Object 349 3 ∷ Object 358 1 ∷ Object 378 3 ∷ Label (codes "a") 412 ∷ Object 443 3 ∷ Label (codes "b") 463 ∷ Object 502 1 ∷ Label (codes
    "b") 526 ∷ Object 568 1 ∷ Object 616 3 ∷ Object 681 1 ∷ Object 761 3 ∷ Label (codes "B") 807 ∷ Object 856 1 ∷ Object 1089 1 ∷ Object
    1115 3 ∷ Label (codes "a") 1135 ∷ Object 1180 0 ∷ Object 1192 3 ∷ Label (codes "d") 1212 ∷ []
what_is_inside = refl
