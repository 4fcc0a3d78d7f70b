-- Protected objects (RM 9.4, 9.5.2, D.3; docs/LANGUAGE.md, "Rules of declarations").
use Rattle.std.specs.Prelude.{ℕ, ◌+◌, Bool, true, false, ◌||◌, List, [], ◌∷◌, ◌++◌, Option, Some, None, bytes_eq}
use Rattle.std.specs.List.{list_any}
use Rattle.base.specs.declared.faults.TheConstants.{DECLARED_TWICE}
use Rattle.base.specs.declared.limits.TheConstants.{CEILING, TASK_PRIORITY}
use Rattle.ada_tree.specs.declared.expression.Identifier.{Identifier}
use Rattle.ada_tree.specs.StatementTree.{OperationTree, OfSubprogram, OfEntry, ProtectedComponentTree, ProtectedTree}
use Rattle.types.specs.declared.entity.RecordComponent.{RecordComponent}
use Rattle.types.specs.declared.entity.Subtype.{Subtype}
use Rattle.types.specs.Entities.{Profile, Operation, Entity, Protected, Doubtful}
pub use Rattle.types.specs.Scopes.{one_if_protected, protected_count}
use Rattle.types.specs.Scopes.{Scope, is_visible, with_name}
use Rattle.expr_rules.specs.Faults.{Faults, rule}
use Rattle.type_rules.specs.ObjectRules.{fixed_faults}
use Rattle.type_rules.specs.ProfileRules.{formal_parameters, formals_faults, profile_faults, profile_with}
use Rattle.type_rules.specs.SubtypeNames.{declared_twice, end_rule, subtype_of, subtype_faults}
use Rattle.declaration_rules.specs.TaskRules.{aspect_faults, is_attachment, operation_aspect_faults, priority_of}

-- ---- operations

abbrev pub operation_name : OperationTree → Identifier
operation_name (OfSubprogram d a) = d.name
operation_name (OfEntry d) = d.name

abbrev pub operation_bytes : OperationTree → List ℕ
operation_bytes o = (operation_name o).name

abbrev pub is_operation_in : List OperationTree → List ℕ → Bool
is_operation_in operations name = list_any (λ o. bytes_eq (operation_name o).name name) operations

-- 11, at an operation: it is like a visible name, the object's own, or an operation before it
abbrev pub is_operation_like : Scope → (own : Identifier) → (before : List OperationTree) → List ℕ → Bool
is_operation_like s own before name = is_visible s name || bytes_eq own.name name || is_operation_in before name

abbrev pub operation_profile_faults : Scope → OperationTree → Faults
operation_profile_faults s (OfSubprogram d a) = profile_faults s d ++ operation_aspect_faults s a
operation_profile_faults s (OfEntry d) = formals_faults s [] d.formals

abbrev pub operation_faults : Scope → (own : Identifier) → (before : List OperationTree) → OperationTree → Faults
operation_faults s own before o =
    rule DECLARED_TWICE (operation_name o).place (is_operation_like s own before (operation_name o).name) ++ operation_profile_faults s o

-- 11, at an operation, where it is known whether an operation before it has its name
abbrev pub like_operation_faults : Scope → (own : Identifier) → (is_second : Bool) → OperationTree → Faults
like_operation_faults s own is_second o =
    rule DECLARED_TWICE (operation_name o).place (is_visible s (operation_name o).name || bytes_eq own.name (operation_name o).name || is_second)
    ++ operation_profile_faults s o

abbrev pub operations_faults : Scope → (own : Identifier) → (before : List OperationTree) → List OperationTree → Faults
operations_faults s own before [] = []
operations_faults s own before (o ∷ os) = operation_faults s own before o ++ operations_faults s own (before ++ o ∷ []) os

-- ---- components

abbrev pub is_component_in : List ProtectedComponentTree → List ℕ → Bool
is_component_in components name = list_any (λ c. bytes_eq c.name.name name) components

-- 11, at a component: it is like a visible name, the object's own, an operation, or a component before it
abbrev pub is_component_like : Scope → (own : Identifier) → List OperationTree → (before : List ProtectedComponentTree) → List ℕ → Bool
is_component_like s own operations before name = is_operation_like s own operations name || is_component_in before name

-- an initial value is static
abbrev pub component_initial_faults : Scope → ProtectedComponentTree → Faults
component_initial_faults s c = elim c.value [ Some e ↦ fixed_faults s (subtype_of s c.subtype) e | None ↦ [] ]

abbrev pub part_faults : Scope → (own : Identifier) → List OperationTree → (before : List ProtectedComponentTree) → ProtectedComponentTree → Faults
part_faults s own operations before c =
    rule DECLARED_TWICE c.name.place (is_component_like s own operations before c.name.name) ++ subtype_faults s c.subtype ++ component_initial_faults s c

-- 11, at a component, where it is known whether an operation, or a component before it, has its name
abbrev pub like_part_faults : Scope → (own : Identifier) → (is_operation is_second : Bool) → ProtectedComponentTree → Faults
like_part_faults s own is_operation is_second c =
    rule DECLARED_TWICE c.name.place (is_visible s c.name.name || bytes_eq own.name c.name.name || is_operation || is_second)
    ++ subtype_faults s c.subtype
    ++ component_initial_faults s c

abbrev pub parts_faults : Scope → (own : Identifier) → List OperationTree → (before : List ProtectedComponentTree) → List ProtectedComponentTree → Faults
parts_faults s own operations before [] = []
parts_faults s own operations before (c ∷ cs) = part_faults s own operations before c ++ parts_faults s own operations (before ++ c ∷ []) cs

-- ---- objects

abbrev pub protected_faults : Scope → ProtectedTree → Faults
protected_faults s d =
    aspect_faults s d.aspect
    ++ operations_faults s d.name [] d.operations
    ++ parts_faults s d.name d.operations [] d.components
    ++ end_rule d.name d.end_name
    ++ declared_twice s d.name

-- ---- what calls and bodies see of it

abbrev pub operation_profile : Scope → OperationTree → Option Profile
operation_profile s (OfSubprogram d a) = profile_with s (formal_parameters s d.formals) d.result
operation_profile s (OfEntry d) = profile_with s (formal_parameters s d.formals) None

abbrev pub is_entry : OperationTree → Bool
is_entry (OfSubprogram d a) = false
is_entry (OfEntry d) = true

abbrev pub operation_and : OperationTree → Option Profile → Option (List Operation) → Option (List Operation)
operation_and o (Some p) (Some rest) = Some (record { name = (operation_name o).name; is_entry = is_entry o; profile = p } ∷ rest)
operation_and o p rest = None

-- the operations, where the profile of each is known
abbrev pub object_operations : Scope → List OperationTree → Option (List Operation)
object_operations s [] = Some []
object_operations s (o ∷ os) = operation_and o (operation_profile s o) (object_operations s os)

abbrev pub part_and : ProtectedComponentTree → Option Subtype → Option (List RecordComponent) → Option (List RecordComponent)
part_and c (Some t) (Some rest) = Some (record { name = c.name.name; subtype = t } ∷ rest)
part_and c t rest = None

-- the components, where the subtype of each is known
abbrev pub object_components : Scope → List ProtectedComponentTree → Option (List RecordComponent)
object_components s [] = Some []
object_components s (c ∷ cs) = part_and c (subtype_of s c.subtype) (object_components s cs)

-- an operation that is to be the handler of an interrupt (RM C.3.1)
abbrev pub is_handler : OperationTree → Bool
is_handler (OfSubprogram d (Some a)) = is_attachment a
is_handler (OfSubprogram d None) = false
is_handler (OfEntry d) = false

abbrev pub has_handler : List OperationTree → Bool
has_handler operations = list_any is_handler operations

-- the ceiling of an object without an aspect (RM D.3), the highest where it has a handler
abbrev pub default_ceiling : List OperationTree → ℕ
default_ceiling operations = elim (has_handler operations) [ true ↦ CEILING | false ↦ TASK_PRIORITY ]

abbrev pub object_with : (number ceiling : ℕ) → Option (List Operation) → Option (List RecordComponent) → Entity
object_with number ceiling (Some operations) (Some components) = Protected
    (record { number = number; ceiling = ceiling; operations = operations; components = components; barrier = None })
object_with number ceiling operations components = Doubtful

abbrev pub protected_entity : Scope → ProtectedTree → Entity
protected_entity s d = object_with (protected_count s) (priority_of s CEILING (default_ceiling d.operations) d.aspect) (object_operations s d.operations)
    (object_components s d.components)

-- the name is visible from the end of the declaration
abbrev pub protected_scope : Scope → ProtectedTree → Scope
protected_scope s d = with_name s d.name.name (protected_entity s d)
