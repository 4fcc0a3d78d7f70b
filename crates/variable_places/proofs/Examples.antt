-- The scopes of a program's dump, worked by computation:
-- `type Point is record X : Integer; Is_Set : Boolean; end record; type Row is array (-1 .. 0) of Point; type Many is array (0 .. 64) of Integer;
-- type Board is record Cells : Row; Numbers : Many; Sum : Integer; end record; Level : Integer; Limit : constant Integer := 7; B : Board;
-- protected Door with Priority => 5 is private Kept : Point; Is_Open : Boolean; end Door;` and in the package's body `Last : Time;`
use Rattle.std.proofs.Common.{◌≡◌, ℕ, [], ◌∷◌, None, Some, true, refl}
use Rattle.std.specs.Prelude.{codes, negsuc}
use Rattle.std.specs.Fmt.{digits}
use Prim.Native.String.{String}
use Rattle.ada_tree.specs.ExpressionTree.{Number}
use Rattle.ada_tree.specs.ProgramTree.{Array, OfItem, OfObject, OfProtected, OfRange, ProgramTree, Record}
use Rattle.meaning.proofs.Trees.{app, component, declares_type, field, id, null_main, num, object, protected, range_of}
use Rattle.waveforms.specs.Scopes.{Variable}
use Rattle.variable_places.specs.Shown.{program_scopes}

abbrev shown : ProgramTree
shown =
    app
    (declares_type "POINT" (Record (field "X" "INTEGER" ∷ field "IS_SET" "BOOLEAN" ∷ []))
    ∷ declares_type "ROW" (Array (OfRange (range_of (Number (negsuc 0) 0) (num 0))) (id "POINT"))
    ∷ declares_type "MANY" (Array (OfRange (range_of (num 0) (num 64))) (id "INTEGER"))
    ∷ declares_type "BOARD" (Record (field "CELLS" "ROW" ∷ field "NUMBERS" "MANY" ∷ field "SUM" "INTEGER" ∷ []))
    ∷ OfObject (object "LEVEL" "INTEGER" None)
    ∷ OfObject (record (object "LIMIT" "INTEGER" (Some (num 7))) { constant = true })
    ∷ OfObject (object "B" "BOARD" None)
    ∷ OfProtected (protected "DOOR" (num 5) [] (component "KEPT" "POINT" None ∷ component "IS_OPEN" "BOOLEAN" None ∷ []))
    ∷ [])
    (OfItem (OfObject (object "LAST" "TIME" None)) ∷ [])

abbrev variable : String → ℕ → Variable
variable name word = record { name = codes name; word = word }

-- `Numbers` has 65 components, and takes the words from 5 to 69
shown_is : program_scopes shown ≡ record {
  package_ = Some (record {
    name = codes "APP";
    variables = variable "LEVEL" 0
        ∷ variable "B.CELLS(-1).X" 1 ∷ variable "B.CELLS(-1).IS_SET" 2 ∷ variable "B.CELLS(0).X" 3 ∷ variable "B.CELLS(0).IS_SET" 4 ∷ variable "B.SUM" 70
        ∷ variable "LAST" 71
        ∷ [];
  });
  objects = record { name = codes "DOOR"; variables = variable "KEPT.X" 0 ∷ variable "KEPT.IS_SET" 1 ∷ variable "IS_OPEN" 2 ∷ [] } ∷ [];
}
unfolding digits
shown_is = refl

no_package : program_scopes null_main ≡ record { package_ = None; objects = [] }
no_package = refl
