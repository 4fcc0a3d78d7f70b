-- The bodies of protected objects (RM 9.4, 9.5.1, 9.5.2; docs/LANGUAGE.md, "Rules of bodies"): what stands in each, and what it sees.
use Rattle.std.specs.Prelude.{ℕ, Bool, true, false, not, List, [], ◌∷◌, ◌++◌, Option, Some, None, is_some, option_map}
use Rattle.base.specs.declared.faults.TheConstants.{UNMATCHED_BODY}
use Rattle.ada_tree.specs.declared.expression.Identifier.{Identifier}
use Rattle.ada_tree.specs.ExpressionTree.{ExprTree}
use Rattle.ada_tree.specs.StatementTree.{SubprogramTree, EntryTree}
use Rattle.ada_tree.specs.ProgramTree.{BodyTree, ProtectedItemTree, OperationBody, EntryBody}
use Rattle.types.specs.declared.entity.RecordComponent.{RecordComponent}
use Rattle.types.specs.Entities.{Entity, Entry, Protected, Doubtful}
use Rattle.types.specs.Scopes.{Scope, number_of, protected_at}
use Rattle.expr_rules.specs.Faults.{Faults, rule}
use Rattle.type_rules.specs.SubtypeNames.{declared_twice, end_rule, named_entity}
use Rattle.type_rules.specs.ProfileRules.{formals_faults, subprogram_scope}
use Rattle.declaration_rules.specs.BodyNames.{components_scope, formals_scope, object_body_scope}
use Rattle.stmt_rules.specs.declared.around.BodyKind.TheVariants as kind
use Rattle.stmt_rules.specs.SimpleRules.{condition_faults}
use Rattle.unit_rules.specs.BodyRules.{body_faults, subprogram_body_faults}

-- ---- operations: in front of the body of each stand the components

abbrev pub operation_sees : Scope → List RecordComponent → SubprogramTree → Scope
operation_sees s components d = components_scope s (is_some d.result) components

abbrev pub is_entry : Option Entity → Bool
is_entry (Some (Entry p)) = true
is_entry e = false

-- 18: the object has no entry of this name
abbrev pub entry_rule : Scope → Identifier → Faults
entry_rule s name = rule UNMATCHED_BODY name.place (not (is_entry (named_entity s name)))

-- the formals and the components are visible in the barrier (RM 9.5.2)
abbrev pub entry_body_faults : Scope → EntryTree → (barrier : ExprTree) → BodyTree → Faults
entry_body_faults s d barrier b =
    entry_rule s d.name
    ++ formals_faults s [] d.formals
    ++ condition_faults (formals_scope s d.formals) barrier
    ++ body_faults (formals_scope s d.formals) kind.Entry b
    ++ end_rule d.name b.end_name

abbrev pub protected_item_faults : Scope → List RecordComponent → ProtectedItemTree → Faults
protected_item_faults s components (OperationBody d b) = subprogram_body_faults (operation_sees s components d) d b
protected_item_faults s components (EntryBody d barrier b) = entry_body_faults (components_scope s false components) d barrier b

-- a procedure or function without a declaration is visible behind its body
abbrev pub protected_item_scope : Scope → ProtectedItemTree → Scope
protected_item_scope s (OperationBody d b) = subprogram_scope s d
protected_item_scope s (EntryBody d barrier b) = s

abbrev pub protected_items_faults : Scope → List RecordComponent → List ProtectedItemTree → Faults
protected_items_faults s components [] = []
protected_items_faults s components (i ∷ is) = protected_item_faults s components i ++ protected_items_faults (protected_item_scope s i) components is

abbrev pub protected_items_scope : Scope → List ProtectedItemTree → Scope
protected_items_scope s [] = s
protected_items_scope s (i ∷ is) = protected_items_scope (protected_item_scope s i) is

-- ---- the body of an object: its operations are visible

-- the components of the protected object with this number, if it is one
abbrev pub components_at : Scope → (number : ℕ) → Option (List RecordComponent)
components_at s number = option_map (λ p. p.components) (protected_at s number)

-- 11: the body of a procedure or function is like a name that is visible in front of the object's body, as a subprogram of the package is; the object's own
-- operations are not visible there
abbrev pub outer_name_rule : Scope → ProtectedItemTree → Faults
outer_name_rule s (OperationBody d b) = declared_twice s d.name
outer_name_rule s (EntryBody d barrier b) = []

abbrev pub outer_names_faults : Scope → List ProtectedItemTree → Faults
outer_names_faults s [] = []
outer_names_faults s (i ∷ is) = outer_name_rule s i ++ outer_names_faults s is

-- nothing more is said of what stands in the body of an object that is not known
abbrev pub object_items_faults : Scope → (number : ℕ) → Option (List RecordComponent) → List ProtectedItemTree → Faults
object_items_faults s number (Some components) items = outer_names_faults s items ++ protected_items_faults (object_body_scope s number) components items
object_items_faults s number None items = []

abbrev pub known_body_faults : Scope → Option ℕ → List ProtectedItemTree → Faults
known_body_faults s (Some n) items = object_items_faults s n (components_at s n) items
known_body_faults s None items = []

abbrev pub is_object : Option Entity → Bool
is_object (Some (Protected p)) = true
is_object (Some Doubtful) = true
is_object e = false

-- 18: no protected object of this name is declared
abbrev pub object_rule : Scope → Identifier → Faults
object_rule s name = rule UNMATCHED_BODY name.place (not (is_object (named_entity s name)))

abbrev pub protected_body_faults : Scope → Identifier → List ProtectedItemTree → (end_name : Identifier) → Faults
protected_body_faults s name items end_name = object_rule s name ++ known_body_faults s (number_of s name.name) items ++ end_rule name end_name
