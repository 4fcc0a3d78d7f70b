-- What is visible behind a package and where its variables and components stand, worked by computation. No place is read here: each is 0.
use Rattle.std.proofs.Common.{◌≡◌, ℕ, List, [], ◌∷◌, Bool, true, false, Option, Some, None, map, refl}
use Rattle.std.specs.Prelude.{pos, codes}
use Rattle.ada_tree.specs.declared.expression.Identifier.{Identifier}
use Rattle.ada_tree.specs.declared.declaration.Component.{Component}
use Rattle.ada_tree.specs.ExpressionTree.{ExprTree, Number}
use Rattle.ada_tree.specs.StatementTree.{NoStmts, NoHandlers, OfSubprogram, ProtectedComponentTree, RangeTree, SubprogramTree}
use Rattle.ada_tree.specs.ProgramTree.{Array, BodyItemTree, DefinitionTree, Integer, ItemTree, OfItem, OfObject, OfProtected, OfRange, OfType, PackageTree, ProgramTree, ProtectedBody, Record, SubprogramBody}
use Rattle.types.specs.Scopes.{standard}
use Rattle.declaration_rules.specs.PackageNames.{program_scope}
use Rattle.legality.specs.ProgramLayouts.{object_layouts, placed, variables_layout}

abbrev identifier : List ℕ → Identifier
identifier text = record { name = text; place = 0 }

abbrev range_of : (first last : ℕ) → RangeTree
range_of first last = record { first = Number (pos first) 0; last = Number (pos last) 0 }

abbrev type_of : (name : List ℕ) → DefinitionTree → ItemTree
type_of name definition = OfType (record { name = identifier name; definition = definition })

abbrev object : (name : List ℕ) → Bool → (subtype : List ℕ) → Option ExprTree → ItemTree
object name constant subtype value = OfObject (record { name = identifier name; constant = constant; subtype = identifier subtype; value = value })

abbrev component : (name subtype : List ℕ) → Component
component name subtype = record { name = identifier name; subtype = identifier subtype }

abbrev part : (name subtype : List ℕ) → ProtectedComponentTree
part name subtype = record { name = identifier name; subtype = identifier subtype; value = None }

abbrev procedure : (name : List ℕ) → SubprogramTree
procedure name = record { place = 0; name = identifier name; formals = []; result = None }

abbrev protected : (name : List ℕ) → List ProtectedComponentTree → ItemTree
protected name components =
    OfProtected (record {
      place = 0;
      name = identifier name;
      aspect = None;
      operations = OfSubprogram (procedure (codes "GO")) None ∷ [];
      components = components;
      end_name = identifier name;
    })

abbrev program_with : Option PackageTree → ProgramTree
program_with package_ =
    record { pragmas = []; package_ = package_; main = record { place = 0; name = identifier (codes "MAIN"); aspect = None; statements = []; end_name = identifier (codes "MAIN") } }

abbrev app : List ItemTree → List BodyItemTree → ProgramTree
app specified items =
    program_with (Some (record {
      clauses = [];
      declaration = record { place = 0; name = identifier (codes "APP"); items = specified; end_name = identifier (codes "APP") };
      body = record { place = 0; name = identifier (codes "APP"); items = items; end_name = identifier (codes "APP") };
      with_name = identifier (codes "APP");
    }))

-- `type Small is range 0 .. 9; type Row is array (1 .. 3) of Small; type Pair is record Key : Small; Cells : Row; end record; Ten : constant Small := 9;
-- A : Small; protected P is procedure Go; private Both : Pair; Full : Boolean; end P; R : Row;`
abbrev specified : List ItemTree
specified =
    type_of (codes "SMALL") (Integer (range_of 0 9))
    ∷ type_of (codes "ROW") (Array (OfRange (range_of 1 3)) (identifier (codes "SMALL")))
    ∷ type_of (codes "PAIR") (Record (component (codes "KEY") (codes "SMALL") ∷ component (codes "CELLS") (codes "ROW") ∷ []))
    ∷ object (codes "TEN") true (codes "SMALL") (Some (Number (pos 9) 0))
    ∷ object (codes "A") false (codes "SMALL") None
    ∷ protected (codes "P") (part (codes "BOTH") (codes "PAIR") ∷ part (codes "FULL") (codes "BOOLEAN") ∷ [])
    ∷ object (codes "R") false (codes "ROW") None
    ∷ []

-- `B : Pair; protected body P is .. end P; protected Q is procedure Go; end Q; protected body Q is .. end Q; procedure Run is begin .. end Run; C : Boolean;`
abbrev items : List BodyItemTree
items =
    OfItem (object (codes "B") false (codes "PAIR") None)
    ∷ ProtectedBody (identifier (codes "P")) [] (identifier (codes "P"))
    ∷ OfItem (protected (codes "Q") [])
    ∷ ProtectedBody (identifier (codes "Q")) [] (identifier (codes "Q"))
    ∷ SubprogramBody (procedure (codes "RUN")) (record { declarations = []; statements = NoStmts; handlers = NoHandlers; end_name = identifier (codes "RUN") })
    ∷ OfItem (object (codes "C") false (codes "BOOLEAN") None)
    ∷ []

-- behind the ten names of Standard: the package, the declarations of its specification and of its body, none of what stands inside bodies
names : map (λ n. n.name) (program_scope (app specified items))
    ≡ codes "INTEGER"
    ∷ codes "NATURAL"
    ∷ codes "POSITIVE"
    ∷ codes "BOOLEAN"
    ∷ codes "TRUE"
    ∷ codes "FALSE"
    ∷ codes "CONSTRAINT_ERROR"
    ∷ codes "PROGRAM_ERROR"
    ∷ codes "STORAGE_ERROR"
    ∷ codes "TASKING_ERROR"
    ∷ codes "APP"
    ∷ codes "SMALL"
    ∷ codes "ROW"
    ∷ codes "PAIR"
    ∷ codes "TEN"
    ∷ codes "A"
    ∷ codes "P"
    ∷ codes "R"
    ∷ codes "B"
    ∷ codes "Q"
    ∷ codes "RUN"
    ∷ codes "C"
    ∷ []
names = refl

-- A, R, B, C: the constant takes no word, and components stand apart
variables : variables_layout (program_scope (app specified items)) ≡ placed (1 ∷ 3 ∷ 4 ∷ 1 ∷ [])
variables = refl

-- P with Both and Full, Q without a component
objects : object_layouts (program_scope (app specified items)) ≡ placed (4 ∷ 1 ∷ []) ∷ placed [] ∷ []
objects = refl

-- without a package
names_alone : program_scope (program_with None) ≡ standard
names_alone = refl

variables_alone : variables_layout (program_scope (program_with None)) ≡ placed []
variables_alone = refl
