-- Which declaration of a name is visible where the name is declared again (RM 8.2, 8.3).
use Rattle.std.specs.Prelude.{ℕ, Bool, false, not, ◌&&◌, ◌||◌, List, [], Option, None, if◌then◌else◌, bytes_eq, nat_lt}
use Rattle.std.specs.List.{list_any}
use Rattle.ada_tree.specs.declared.declaration.Component.{Component}
use Rattle.ada_tree.specs.declared.declaration.Formal.{Formal}
use Rattle.ada_tree.specs.declared.expression.Identifier.{Identifier}
use Rattle.ada_tree.specs.declared.program.UnitClause.{UnitClause}
use Rattle.ada_tree.specs.ProgramTree.{BodyItemTree, BodyTree, DefinitionTree, EntryBody, ItemTree, OfItem, OfProtected, OfType, OperationBody, PackageTree, ProgramTree, ProtectedBody, ProtectedItemTree, Record, SubprogramBody, TaskBody}
use Rattle.ada_tree.specs.ProgramTree.{OfSubprogram as OfDeclared}
use Rattle.ada_tree.specs.StatementTree.{OperationTree, ProtectedTree}
use Rattle.diagnostics.specs.counterparts.Fronts.{declared_name, first_body_item, first_component, first_formal, first_item, first_local, first_of, first_part, in_front, is_at, is_between, or_first, part_formals, part_name, part_of}
use Rattle.diagnostics.specs.counterparts.Nested.{nested_in}
use Rattle.diagnostics.specs.counterparts.Unmatched.{in_package}

-- ---- declarations that end with what they stand in: formals of a profile, components of a record, parts of an object

abbrev pub among_formals : List ℕ → ℕ → List Formal → Option ℕ
among_formals name place formals = if list_any (λ f. is_at place f.name) formals then first_formal name place formals else None

abbrev pub among_components : List ℕ → ℕ → List Component → Option ℕ
among_components name place components = if list_any (λ c. is_at place c.name) components then first_component name place components else None

abbrev pub has_part_at : ℕ → ProtectedTree → Bool
has_part_at place d = list_any (λ o. is_at place (part_name o)) d.operations || list_any (λ c. is_at place c.name) d.components

abbrev pub among_own_parts : List ℕ → ℕ → ProtectedTree → Option ℕ
among_own_parts name place d = if has_part_at place d then first_part name place d else None

abbrev pub of_profile : List ℕ → ℕ → OperationTree → Option ℕ
of_profile name place o = among_formals name place (part_formals o)

abbrev pub among_profiles : List ℕ → ℕ → List OperationTree → Option ℕ
among_profiles name place = first_of (of_profile name place)

abbrev pub among_parts : List ℕ → ℕ → ProtectedTree → Option ℕ
among_parts name place d = or_first (among_own_parts name place d) (among_profiles name place d.operations)

abbrev pub within_definition : List ℕ → ℕ → DefinitionTree → Option ℕ
within_definition name place (Record components) = among_components name place components
within_definition name place definition = None

abbrev pub within_item : List ℕ → ℕ → ItemTree → Option ℕ
within_item name place (OfType d) = within_definition name place d.definition
within_item name place (OfDeclared d) = among_formals name place d.formals
within_item name place (OfProtected d) = among_parts name place d
within_item name place i = None

-- ---- bodies: their own names, formals and declarations are visible up to their end

abbrev pub of_body : List ℕ → ℕ → (own : Identifier) → List Formal → BodyTree → Option ℕ
of_body name place own formals b =
    or_first (in_front name place own) (or_first (first_formal name place formals) (first_local name place b.declarations))

-- the declaration of this name in a body, also in the blocks and loops that the place is in
abbrev pub within_body : List ℕ → ℕ → (own : Identifier) → List Formal → BodyTree → Option ℕ
within_body name place own formals b =
    if is_between place own b.end_name then or_first (nested_in name place b) (of_body name place own formals b) else None

abbrev pub within_operation : List ℕ → ℕ → ProtectedItemTree → Option ℕ
within_operation name place (OperationBody d b) = within_body name place d.name d.formals b
within_operation name place (EntryBody d barrier b) = within_body name place d.name d.formals b

-- In the body of a protected object its operations and components are visible too.
abbrev pub within_body_item : List ℕ → ℕ → List ItemTree → List BodyItemTree → BodyItemTree → Option ℕ
within_body_item name place specified items (OfItem i) = within_item name place i
within_body_item name place specified items (SubprogramBody d b) = within_body name place d.name d.formals b
within_body_item name place specified items (TaskBody own b) = within_body name place own [] b
within_body_item name place specified items (ProtectedBody own bodies end_name) =
    if is_between place own end_name then or_first (first_of (within_operation name place) bodies) (part_of own.name name place specified items) else None

-- ---- between a protected object and its body

-- the object's body stands in front of the place
abbrev pub is_closing : ℕ → (object : Identifier) → BodyItemTree → Bool
is_closing place object (ProtectedBody own bodies end_name) = bytes_eq own.name object.name && nat_lt own.place place
is_closing place object i = false

abbrev pub open_part : List ℕ → ℕ → (items : List BodyItemTree) → ItemTree → Option ℕ
open_part name place items (OfProtected d) =
    if nat_lt d.end_name.place place && not (list_any (is_closing place d.name) items) then first_part name place d else None
open_part name place items i = None

abbrev pub open_own_part : List ℕ → ℕ → (items : List BodyItemTree) → BodyItemTree → Option ℕ
open_own_part name place items (OfItem i) = open_part name place items i
open_own_part name place items i = None

-- the place is that of a name that the package's body declares
abbrev pub declares_at : ℕ → BodyItemTree → Bool
declares_at place (OfItem i) = is_at place (declared_name i)
declares_at place (SubprogramBody d b) = is_at place d.name
declares_at place i = false

abbrev pub is_declared_at : ℕ → List ItemTree → List BodyItemTree → Bool
is_declared_at place specified items = list_any (λ i. is_at place (declared_name i)) specified || list_any (declares_at place) items

abbrev pub first_open_part : List ℕ → ℕ → List ItemTree → List BodyItemTree → Option ℕ
first_open_part name place specified items =
    if is_declared_at place specified items
    then or_first (first_of (open_part name place items) specified) (first_of (open_own_part name place items) items)
    else None

-- ---- all

-- what the package declares is visible up to the end of the text
abbrev pub of_package : List ℕ → ℕ → PackageTree → Option ℕ
of_package name place p =
    or_first (in_front name place p.declaration.name)
    (or_first (first_item name place p.declaration.items) (first_body_item name place p.body.items))

abbrev pub within_package : List ℕ → ℕ → PackageTree → Option ℕ
within_package name place p =
    or_first (first_of (within_item name place) p.declaration.items)
    (first_of (within_body_item name place p.declaration.items p.body.items) p.body.items)

abbrev pub of_clause : List ℕ → ℕ → UnitClause → Option ℕ
of_clause name place c = in_front name place c.unit.first

abbrev pub of_all : List ℕ → ℕ → PackageTree → Option ℕ
of_all name place p =
    or_first (within_package name place p)
    (or_first (of_package name place p) (first_open_part name place p.declaration.items p.body.items))

abbrev pub first_clause : List ℕ → ℕ → List UnitClause → Option ℕ
first_clause name place = first_of (of_clause name place)

-- Of the name at the place: the one in front of it in the same profile, record or object, or in the body that it stands in; in the package; or, of what is
-- declared between a protected object and its body, the part of the object; and of a clause the one in front for the same unit.
abbrev pub twice_in : List ℕ → ℕ → PackageTree → Option ℕ
twice_in name place p = if nat_lt place p.declaration.place then first_clause name place p.clauses else of_all name place p

abbrev pub twice_other : ProgramTree → List ℕ → ℕ → Option ℕ
twice_other t name place = in_package (twice_in name place) t.package_
