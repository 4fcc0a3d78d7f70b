-- To which declaration a body should belong, or which body it is a second one of (RM 3.11.1).
use Rattle.std.specs.Prelude.{ℕ, List, Option, Some, None, if◌then◌else◌}
use Rattle.ada_tree.specs.declared.expression.Identifier.{Identifier}
use Rattle.ada_tree.specs.ProgramTree.{BodyItemTree, EntryBody, ItemTree, OperationBody, PackageTree, ProgramTree, ProtectedBody, ProtectedItemTree, SubprogramBody, TaskBody}
use Rattle.diagnostics.specs.counterparts.Fronts.{first_body_item, first_item, first_of, in_front, is_at, is_between, or_first, part_of}

abbrev pub body_name : ProtectedItemTree → Identifier
body_name (OperationBody d b) = d.name
body_name (EntryBody d barrier b) = d.name

abbrev pub first_operation_body : List ℕ → ℕ → List ProtectedItemTree → Option ℕ
first_operation_body name place = first_of (λ i. in_front name place (body_name i))

-- in the body of a protected object: a body of this name in front there, or else the operation of the object
abbrev pub in_object_body : (name : List ℕ) → ℕ → (specified : List ItemTree) → (items : List BodyItemTree) → BodyItemTree → Option ℕ
in_object_body name place specified items (ProtectedBody own bodies end_name) =
    if is_between place own end_name then or_first (first_operation_body name place bodies) (part_of own.name name place specified items) else None
in_object_body name place specified items i = None

-- a body of this name in front
abbrev pub in_front_as_body : List ℕ → ℕ → BodyItemTree → Option ℕ
in_front_as_body name place (SubprogramBody d b) = in_front name place d.name
in_front_as_body name place (TaskBody own b) = in_front name place own
in_front_as_body name place (ProtectedBody own bodies end_name) = in_front name place own
in_front_as_body name place i = None

-- a body in front, or else a declaration in front
abbrev pub of_package_body : List ℕ → ℕ → List ItemTree → List BodyItemTree → Option ℕ
of_package_body name place specified items =
    or_first (first_of (in_front_as_body name place) items) (or_first (first_item name place specified) (first_body_item name place items))

abbrev pub of_bodies : List ℕ → ℕ → List ItemTree → List BodyItemTree → Option ℕ
of_bodies name place specified items =
    or_first (first_of (in_object_body name place specified items) items) (of_package_body name place specified items)

-- Of the body of this name at the place: of a package's body its specification, which has another name; else a body in front that has this name, or the
-- declaration in front that does, in the same package or the same protected object.
abbrev pub unmatched_in : List ℕ → ℕ → PackageTree → Option ℕ
unmatched_in name place p =
    if is_at place p.body.name then Some p.declaration.name.place else of_bodies name place p.declaration.items p.body.items

abbrev pub in_package : (PackageTree → Option ℕ) → Option PackageTree → Option ℕ
in_package found None = None
in_package found (Some p) = found p

abbrev pub unmatched_other : ProgramTree → List ℕ → ℕ → Option ℕ
unmatched_other t name place = in_package (unmatched_in name place) t.package_
