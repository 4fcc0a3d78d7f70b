-- Names that are declared in front of a place, and parts of a text that a place is in.
use Rattle.std.specs.Prelude.{ℕ, Bool, ◌&&◌, List, [], ◌∷◌, Option, Some, None, if◌then◌else◌, bytes_eq, nat_eq, nat_lt}
use Rattle.ada_tree.specs.declared.declaration.Component.{Component}
use Rattle.ada_tree.specs.declared.declaration.Formal.{Formal}
use Rattle.ada_tree.specs.declared.expression.Identifier.{Identifier}
use Rattle.ada_tree.specs.ProgramTree.{BodyItemTree, ItemTree, OfException, OfItem, OfObject, OfProtected, OfTask, OfType, SubprogramBody}
use Rattle.ada_tree.specs.ProgramTree.{OfSubprogram as OfDeclared}
use Rattle.ada_tree.specs.StatementTree.{DeclarationTree, LocalObject, LocalProtected, LocalTask, OfEntry, OfSubprogram, OperationTree, ProtectedComponentTree, ProtectedTree}

abbrev pub or_first : Option ℕ → Option ℕ → Option ℕ
or_first (Some place) other = Some place
or_first None other = other

-- what is found of the first one of which something is
abbrev pub first_of : {X : Type 0} → (X → Option ℕ) → List X → Option ℕ
first_of found [] = None
first_of found (x ∷ xs) = or_first (found x) (first_of found xs)

-- the place of an identifier that has this name and stands in front of the place
abbrev pub in_front : (name : List ℕ) → (place : ℕ) → Identifier → Option ℕ
in_front name place i = if bytes_eq i.name name && nat_lt i.place place then Some i.place else None

abbrev pub is_at : ℕ → Identifier → Bool
is_at place i = nat_eq i.place place

-- the place is behind the one identifier and in front of the other
abbrev pub is_between : ℕ → Identifier → Identifier → Bool
is_between place first last = nat_lt first.place place && nat_lt place last.place

-- ---- names of what is declared

abbrev pub declared_name : ItemTree → Identifier
declared_name (OfType d) = d.name
declared_name (OfObject d) = d.name
declared_name (OfException name) = name
declared_name (OfDeclared d) = d.name
declared_name (OfTask d) = d.name
declared_name (OfProtected d) = d.name

abbrev pub local_name : DeclarationTree → Identifier
local_name (LocalObject d) = d.name
local_name (LocalTask d) = d.name
local_name (LocalProtected d) = d.name

abbrev pub part_name : OperationTree → Identifier
part_name (OfSubprogram d a) = d.name
part_name (OfEntry d) = d.name

abbrev pub part_formals : OperationTree → List Formal
part_formals (OfSubprogram d a) = d.formals
part_formals (OfEntry d) = d.formals

abbrev pub first_formal : List ℕ → ℕ → List Formal → Option ℕ
first_formal name place = first_of (λ f. in_front name place f.name)

abbrev pub first_component : List ℕ → ℕ → List Component → Option ℕ
first_component name place = first_of (λ c. in_front name place c.name)

abbrev pub first_local : List ℕ → ℕ → List DeclarationTree → Option ℕ
first_local name place = first_of (λ d. in_front name place (local_name d))

abbrev pub first_item : List ℕ → ℕ → List ItemTree → Option ℕ
first_item name place = first_of (λ i. in_front name place (declared_name i))

-- what the body of a package declares: a subprogram also by its body
abbrev pub of_body_item : List ℕ → ℕ → BodyItemTree → Option ℕ
of_body_item name place (OfItem i) = in_front name place (declared_name i)
of_body_item name place (SubprogramBody d b) = in_front name place d.name
of_body_item name place i = None

abbrev pub first_body_item : List ℕ → ℕ → List BodyItemTree → Option ℕ
first_body_item name place = first_of (of_body_item name place)

-- the operations and components of a protected object
abbrev pub first_operation : List ℕ → ℕ → List OperationTree → Option ℕ
first_operation name place = first_of (λ o. in_front name place (part_name o))

abbrev pub first_own_component : List ℕ → ℕ → List ProtectedComponentTree → Option ℕ
first_own_component name place = first_of (λ c. in_front name place c.name)

abbrev pub first_part : List ℕ → ℕ → ProtectedTree → Option ℕ
first_part name place d = or_first (first_operation name place d.operations) (first_own_component name place d.components)

-- the same of the object with this name
abbrev pub part_of_object : (object name : List ℕ) → ℕ → ItemTree → Option ℕ
part_of_object object name place (OfProtected d) = if bytes_eq d.name.name object then first_part name place d else None
part_of_object object name place i = None

abbrev pub part_of_own_object : (object name : List ℕ) → ℕ → BodyItemTree → Option ℕ
part_of_own_object object name place (OfItem i) = part_of_object object name place i
part_of_own_object object name place i = None

-- of the objects of the specification and of the body
abbrev pub part_of : (object name : List ℕ) → ℕ → List ItemTree → List BodyItemTree → Option ℕ
part_of object name place specified items =
    or_first (first_of (part_of_object object name place) specified) (first_of (part_of_own_object object name place) items)
