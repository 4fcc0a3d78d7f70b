-- What bodies break has numbers from 10 to 23.
use Rattle.std.proofs.Common.{◌≡◌, ℕ, refl, Bool, true, false, List, [], ◌∷◌, Option, Some, None}
use Rattle.base.specs.declared.faults.TheConstants.{DECLARED_TWICE, LIMIT_PASSED, NAME_NOT_VISIBLE, UNMATCHED_BODY, WRONG_FUNCTION}
use Rattle.ada_tree.specs.declared.expression.Identifier.{Identifier}
use Rattle.ada_tree.specs.declared.declaration.Formal.{Formal}
use Rattle.ada_tree.specs.ExpressionTree.{ExprTree}
use Rattle.ada_tree.specs.StatementTree.{EntryTree, SubprogramTree}
use Rattle.ada_tree.specs.ProgramTree.{BodyItemTree, OfItem, SubprogramBody, TaskBody, ProtectedBody, BodyTree, ProtectedItemTree, OperationBody, EntryBody}
use Rattle.types.specs.declared.entity.RecordComponent.{RecordComponent}
use Rattle.types.specs.Entities.{Entity, Entry}
use Rattle.types.specs.Scopes.{Scope, number_of}
use Rattle.declaration_rules.specs.BodyNames.{components_scope, formals_scope, object_body_scope}
use Rattle.declaration_rules.specs.LocalRules.{locals_scope}
use Rattle.type_rules.specs.ProfileRules.{subprogram_scope}
use Rattle.type_rules.specs.SubtypeNames.{named_entity}
use Rattle.stmt_rules.specs.declared.around.BodyKind.{BodyKind}
use Rattle.stmt_rules.specs.declared.around.BodyKind.TheVariants as kind
use Rattle.stmt_rules.specs.StatementRules.{in_body}
use Rattle.unit_rules.specs.BodyRules.{body_faults, body_name_faults, body_name_number, body_name_rule, function_body_faults, head_faults, is_subprogram, kind_of, own_name_faults, subprogram_body_faults, task_body_faults, task_rule}
use Rattle.unit_rules.specs.ProtectedBodyRules.{components_at, entry_body_faults, entry_rule, known_body_faults, object_items_faults, object_rule, operation_sees, outer_name_rule, outer_names_faults, protected_body_faults, protected_item_faults, protected_item_scope, protected_items_faults}
use Rattle.declaration_rules.specs.PackageNames.{body_item_scope}
use Rattle.unit_rules.specs.PackageBodyRules.{body_item_faults, body_items_faults}
use Rattle.fault_numbers.proofs.Ranges.{Legality, ◌⊕◌, asked, is_between, none}
use Rattle.fault_numbers.proofs.Declarations.{of_end_name, of_fixed_locals, of_formals, of_item, of_locals, of_new_name, of_profile}
use Rattle.fault_numbers.proofs.Statements.{of_condition, of_sequence}

of_body : (s : Scope) (k : BodyKind) (b : BodyTree) → Legality (body_faults s k b)
of_body s k b = of_locals s b.declarations ⊕ of_sequence (locals_scope s b.declarations) (in_body k) b.statements b.handlers

-- ---- tasks

of_task_name : (s : Scope) (name : Identifier) → Legality (task_rule s name)
of_task_name s name = asked UNMATCHED_BODY name.place _ refl

of_task_body : (s : Scope) (name : Identifier) (b : BodyTree) → Legality (task_body_faults s name b)
of_task_body s name b =
    of_task_name s name
    ⊕ of_fixed_locals s b.declarations
    ⊕ of_sequence (locals_scope s b.declarations) (in_body kind.Task) b.statements b.handlers
    ⊕ of_end_name name b.end_name

-- ---- subprograms

of_function_body : (d : SubprogramTree) (b : BodyTree) → Legality (function_body_faults d b)
of_function_body d b = asked WRONG_FUNCTION d.name.place _ refl

body_name_number_within : (e : Option Entity) → is_between NAME_NOT_VISIBLE LIMIT_PASSED (body_name_number e) ≡ true
body_name_number_within (Some (Entry p)) = refl
body_name_number_within e = refl

of_body_name_if : (s : Scope) (name : Identifier) (is_declared : Bool) → Legality (elim is_declared [ true ↦ [] | false ↦ body_name_rule s name ])
of_body_name_if s name true = none
of_body_name_if s name false = asked (body_name_number (named_entity s name)) name.place _ (body_name_number_within (named_entity s name))

of_body_name : (s : Scope) (name : Identifier) → Legality (body_name_faults s name)
of_body_name s name = of_body_name_if s name (is_subprogram (named_entity s name))

of_own_name : (name : Identifier) (formals : List Formal) → Legality (own_name_faults name formals)
of_own_name name [] = none
of_own_name name (f ∷ fs) = asked DECLARED_TWICE f.name.place _ refl ⊕ of_own_name name fs

of_head : (s : Scope) (d : SubprogramTree) (b : BodyTree) → Legality (head_faults s d b)
of_head s d b = of_profile s d ⊕ of_own_name d.name d.formals ⊕ of_body_name s d.name ⊕ of_function_body d b

of_subprogram_body : (s : Scope) (d : SubprogramTree) (b : BodyTree) → Legality (subprogram_body_faults s d b)
of_subprogram_body s d b =
    of_head s d b ⊕ of_body (formals_scope (subprogram_scope s d) d.formals) (kind_of s d.result) b ⊕ of_end_name d.name b.end_name

-- ---- protected objects

of_entry_name : (s : Scope) (name : Identifier) → Legality (entry_rule s name)
of_entry_name s name = asked UNMATCHED_BODY name.place _ refl

of_entry_body : (s : Scope) (d : EntryTree) (barrier : ExprTree) (b : BodyTree) → Legality (entry_body_faults s d barrier b)
of_entry_body s d barrier b =
    of_entry_name s d.name
    ⊕ of_formals s [] d.formals
    ⊕ of_condition (formals_scope s d.formals) barrier
    ⊕ of_body (formals_scope s d.formals) kind.Entry b
    ⊕ of_end_name d.name b.end_name

of_protected_item : (s : Scope) (components : List RecordComponent) (i : ProtectedItemTree) → Legality (protected_item_faults s components i)
of_protected_item s components (OperationBody d b) = of_subprogram_body (operation_sees s components d) d b
of_protected_item s components (EntryBody d barrier b) = of_entry_body (components_scope s false components) d barrier b

of_protected_items : (s : Scope) (components : List RecordComponent) (is : List ProtectedItemTree) → Legality (protected_items_faults s components is)
of_protected_items s components [] = none
of_protected_items s components (i ∷ is) = of_protected_item s components i ⊕ of_protected_items (protected_item_scope s i) components is

of_outer_name : (s : Scope) (i : ProtectedItemTree) → Legality (outer_name_rule s i)
of_outer_name s (OperationBody d b) = of_new_name s d.name
of_outer_name s (EntryBody d barrier b) = none

of_outer_names : (s : Scope) (is : List ProtectedItemTree) → Legality (outer_names_faults s is)
of_outer_names s [] = none
of_outer_names s (i ∷ is) = of_outer_name s i ⊕ of_outer_names s is

of_object_items : (s : Scope) (number : ℕ) (components : Option (List RecordComponent)) (items : List ProtectedItemTree)
    → Legality (object_items_faults s number components items)
of_object_items s number (Some components) items = of_outer_names s items ⊕ of_protected_items (object_body_scope s number) components items
of_object_items s number None items = none

of_known_body : (s : Scope) (number : Option ℕ) (items : List ProtectedItemTree) → Legality (known_body_faults s number items)
of_known_body s (Some n) items = of_object_items s n (components_at s n) items
of_known_body s None items = none

of_object_name : (s : Scope) (name : Identifier) → Legality (object_rule s name)
of_object_name s name = asked UNMATCHED_BODY name.place _ refl

of_protected_body : (s : Scope) (name : Identifier) (items : List ProtectedItemTree) (end_name : Identifier) → Legality (protected_body_faults s name items end_name)
of_protected_body s name items end_name = of_object_name s name ⊕ of_known_body s (number_of s name.name) items ⊕ of_end_name name end_name

-- ---- all bodies of a package, among its declarations

of_body_item : (s : Scope) (i : BodyItemTree) → Legality (body_item_faults s i)
of_body_item s (OfItem d) = of_item s d
of_body_item s (SubprogramBody d b) = of_subprogram_body s d b
of_body_item s (TaskBody name b) = of_task_body s name b
of_body_item s (ProtectedBody name items end_name) = of_protected_body s name items end_name

pub of_body_items : (s : Scope) (is : List BodyItemTree) → Legality (body_items_faults s is)
of_body_items s [] = none
of_body_items s (i ∷ is) = of_body_item s i ⊕ of_body_items (body_item_scope s i) is
