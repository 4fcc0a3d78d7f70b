-- Conflicts in declarations and bodies of a package (RM 6.3, 7.2, 9.1, 9.5; docs/LANGUAGE.md, "Rules of bodies"), in the order of the text: each in what is
-- visible there.
use Rattle.std.specs.Prelude.{ℕ, Bool, true, false, List, [], ◌∷◌, ◌++◌, Option, Some, None}
use Rattle.ada_tree.specs.ExpressionTree.{ExprTree}
use Rattle.ada_tree.specs.StatementTree.{AspectTree, EntryTree, OfEntry, OfSubprogram, OperationTree, ProtectedComponentTree, ProtectedTree, RangeTree, SubprogramTree}
use Rattle.ada_tree.specs.ProgramTree.{Array, BodyItemTree, BodyTree, DefinitionTree, EntryBody, IndexTree, Integer, ItemTree, OfItem, OfObject, OfProtected, OfRange, OfTask, OperationBody, PackageTree, ProtectedBody, Record, ProtectedItemTree, SubprogramBody, TaskBody}
use Rattle.ada_tree.specs.ProgramTree.{OfSubtype as OfName, OfType as OfDeclared, Subtype as SubtypeOf}
use Rattle.types.specs.declared.entity.RecordComponent.{RecordComponent}
use Rattle.types.specs.declared.entity.Subtype.{Subtype}
use Rattle.types.specs.Scopes.{Scope, integer, integer_type, number_of, standard}
use Rattle.expr_rules.specs.declared.own.Wanted.TheVariants.{AnyInteger, OfType}
use Rattle.type_rules.specs.ProfileRules.{subprogram_scope}
use Rattle.type_rules.specs.SubtypeNames.{if_integer, subtype_of}
use Rattle.declaration_rules.specs.BodyNames.{components_scope, formals_scope, object_body_scope}
use Rattle.declaration_rules.specs.ItemRules.{item_scope}
use Rattle.declaration_rules.specs.LocalRules.{locals_scope}
use Rattle.declaration_rules.specs.TaskRules.{aspect_wanted, is_attachment, is_priority}
use Rattle.declaration_rules.specs.PackageNames.{body_item_scope, inside_scope, specified_scope}
use Rattle.stmt_rules.specs.declared.around.BodyKind.{BodyKind}
use Rattle.stmt_rules.specs.declared.around.BodyKind.TheVariants as kind
use Rattle.unit_rules.specs.BodyRules.{kind_of}
use Rattle.unit_rules.specs.ProtectedBodyRules.{components_at, operation_sees, protected_item_scope}
use Rattle.mismatches.specs.Conflicts.{Mismatches}
use Rattle.mismatches.specs.ExpressionMismatches.{condition_mismatches, mismatches_of}
use Rattle.mismatches.specs.StatementMismatches.{handlers_mismatches, locals_mismatches, object_mismatches, stmts_mismatches}
use Rattle.mismatches.specs.StaticMismatches.{bounds_mismatches, fixed_initial_mismatches}

-- ---- types and subtypes (RM 3.2 to 3.6): the bounds of their ranges

abbrev pub index_mismatches : Scope → IndexTree → Mismatches
index_mismatches s (OfRange r) = bounds_mismatches s (OfType integer_type) (Some integer) r
index_mismatches s (OfName name) = []

-- the bounds are of the type, and lie in the subtype
abbrev pub narrowed_mismatches : Scope → RangeTree → Option Subtype → Mismatches
narrowed_mismatches s r (Some t) = bounds_mismatches s (OfType t.type_number) (Some t) r
narrowed_mismatches s r None = bounds_mismatches s AnyInteger None r

abbrev pub definition_mismatches : Scope → DefinitionTree → Mismatches
definition_mismatches s (Integer r) = bounds_mismatches s AnyInteger None r
definition_mismatches s (Array index component) = index_mismatches s index
definition_mismatches s (Record components) = []
definition_mismatches s (SubtypeOf name None) = []
definition_mismatches s (SubtypeOf name (Some r)) = narrowed_mismatches s r (if_integer s (subtype_of s name))

-- ---- declarations of the package

-- the value of an aspect Priority, or of an operation's Attach_Handler, is an Integer (RM C.3.1, D.1, D.3)
abbrev pub aspect_mismatches : Scope → Option AspectTree → Mismatches
aspect_mismatches s (Some a) = mismatches_of s (aspect_wanted (is_priority a)) a.value
aspect_mismatches s None = []

abbrev pub attachment_mismatches : Scope → Option AspectTree → Mismatches
attachment_mismatches s (Some a) = mismatches_of s (aspect_wanted (is_attachment a)) a.value
attachment_mismatches s None = []

abbrev pub specified_mismatches : Scope → OperationTree → Mismatches
specified_mismatches s (OfSubprogram d a) = attachment_mismatches s a
specified_mismatches s (OfEntry d) = []

abbrev pub all_specified_mismatches : Scope → List OperationTree → Mismatches
all_specified_mismatches s [] = []
all_specified_mismatches s (o ∷ os) = specified_mismatches s o ++ all_specified_mismatches s os

abbrev pub component_mismatches : Scope → ProtectedComponentTree → Mismatches
component_mismatches s c = fixed_initial_mismatches s (subtype_of s c.subtype) c.value

abbrev pub components_mismatches : Scope → List ProtectedComponentTree → Mismatches
components_mismatches s [] = []
components_mismatches s (c ∷ cs) = component_mismatches s c ++ components_mismatches s cs

abbrev pub protected_mismatches : Scope → ProtectedTree → Mismatches
protected_mismatches s d = aspect_mismatches s d.aspect ++ all_specified_mismatches s d.operations ++ components_mismatches s d.components

abbrev pub item_mismatches : Scope → ItemTree → Mismatches
item_mismatches s (OfDeclared d) = definition_mismatches s d.definition
item_mismatches s (OfObject d) = object_mismatches s true d
item_mismatches s (OfTask d) = aspect_mismatches s d.aspect
item_mismatches s (OfProtected d) = protected_mismatches s d
item_mismatches s other = []

abbrev pub items_mismatches : Scope → List ItemTree → Mismatches
items_mismatches s [] = []
items_mismatches s (d ∷ ds) = item_mismatches s d ++ items_mismatches (item_scope s d) ds

-- ---- bodies: declarations, statements, handlers

-- initial values of the declarations are static in task bodies
abbrev pub body_mismatches : Scope → (is_fixed : Bool) → BodyKind → BodyTree → Mismatches
body_mismatches s is_fixed k b =
    locals_mismatches s is_fixed b.declarations
    ++ stmts_mismatches (locals_scope s b.declarations) k b.statements
    ++ handlers_mismatches (locals_scope s b.declarations) k b.handlers

-- the subprogram and its formals are visible in the body
abbrev pub subprogram_mismatches : Scope → SubprogramTree → BodyTree → Mismatches
subprogram_mismatches s d b = body_mismatches (formals_scope (subprogram_scope s d) d.formals) false (kind_of s d.result) b

-- the formals are visible in the barrier too
abbrev pub entry_mismatches : Scope → EntryTree → (barrier : ExprTree) → BodyTree → Mismatches
entry_mismatches s d barrier b = condition_mismatches (formals_scope s d.formals) barrier ++ body_mismatches (formals_scope s d.formals) false kind.Entry b

-- ---- the body of a protected object, whose operations see its components

abbrev pub operation_mismatches : Scope → List RecordComponent → ProtectedItemTree → Mismatches
operation_mismatches s components (OperationBody d b) = subprogram_mismatches (operation_sees s components d) d b
operation_mismatches s components (EntryBody d barrier b) = entry_mismatches (components_scope s false components) d barrier b

abbrev pub operations_mismatches : Scope → List RecordComponent → List ProtectedItemTree → Mismatches
operations_mismatches s components [] = []
operations_mismatches s components (i ∷ is) = operation_mismatches s components i ++ operations_mismatches (protected_item_scope s i) components is

-- nothing is said of what stands in the body of an object that is not known
abbrev pub known_mismatches : Scope → (number : ℕ) → Option (List RecordComponent) → List ProtectedItemTree → Mismatches
known_mismatches s number (Some components) items = operations_mismatches (object_body_scope s number) components items
known_mismatches s number None items = []

abbrev pub object_body_mismatches : Scope → Option ℕ → List ProtectedItemTree → Mismatches
object_body_mismatches s (Some n) items = known_mismatches s n (components_at s n) items
object_body_mismatches s None items = []

-- ---- the package

abbrev pub body_item_mismatches : Scope → BodyItemTree → Mismatches
body_item_mismatches s (OfItem d) = item_mismatches s d
body_item_mismatches s (SubprogramBody d b) = subprogram_mismatches s d b
body_item_mismatches s (TaskBody name b) = body_mismatches s true kind.Task b
body_item_mismatches s (ProtectedBody name items end_name) = object_body_mismatches s (number_of s name.name) items

abbrev pub body_items_mismatches : Scope → List BodyItemTree → Mismatches
body_items_mismatches s [] = []
body_items_mismatches s (i ∷ is) = body_item_mismatches s i ++ body_items_mismatches (body_item_scope s i) is

abbrev pub package_mismatches : PackageTree → Mismatches
package_mismatches p =
    items_mismatches (inside_scope standard p) p.declaration.items ++ body_items_mismatches (specified_scope standard p) p.body.items
