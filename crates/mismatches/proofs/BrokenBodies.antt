-- Where something is said of a rule in a package, it is broken.
use Rattle.std.proofs.Common.{◌≡◌, ◌++◌, ℕ, Bool, true, false, List, [], ◌∷◌, Option, Some, None, refl, subst, arith}
use Rattle.std.specs.List.{Contains}
use Rattle.std.proofs.lemmas.List.Elements.{Contains-append_right}
use Rattle.std.specs.Prelude.{nat_eq, if◌then◌else◌, ◌&&◌}
use Rattle.ada_tree.specs.declared.expression.Identifier.{Identifier}
use Rattle.ada_tree.specs.ExpressionTree.{ExprTree}
use Rattle.ada_tree.specs.StatementTree.{AspectTree, EntryTree, OfEntry, OperationTree, ProtectedComponentTree, RangeTree, SubprogramTree}
use Rattle.ada_tree.specs.StatementTree.{OfSubprogram as OfOperation}
use Rattle.ada_tree.specs.ProgramTree.{Array, BodyItemTree, BodyTree, DefinitionTree, EntryBody, IndexTree, Integer, ItemTree, OfException, OfItem, OfObject, OfProtected, OfRange, OfSubprogram, OfTask, OperationBody, PackageTree, ProtectedBody, Record, ProtectedItemTree, SubprogramBody, TaskBody}
use Rattle.ada_tree.specs.ProgramTree.{OfSubtype as OfName, OfType as OfDeclared, Subtype as SubtypeOf}
use Rattle.types.specs.declared.entity.RecordComponent.{RecordComponent}
use Rattle.types.specs.declared.entity.Subtype.{Subtype}
use Rattle.types.specs.Scopes.{Scope, integer, integer_type, number_of, standard}
use Rattle.expr_rules.specs.declared.own.Wanted.TheVariants.{AnyInteger, OfType}
use Rattle.expr_rules.specs.Faults.{Faults}
use Rattle.expr_rules.specs.Typing.{boolean_wanted}
use Rattle.type_rules.specs.ProfileRules.{subprogram_scope}
use Rattle.type_rules.specs.SubtypeNames.{if_integer, subtype_of}
use Rattle.type_rules.specs.TypeRules.{definition_faults, index_faults, narrowed_faults}
use Rattle.declaration_rules.specs.BodyNames.{components_scope, formals_scope, object_body_scope}
use Rattle.declaration_rules.specs.ItemRules.{item_faults, item_scope, items_faults}
use Rattle.declaration_rules.specs.LocalRules.{locals_scope}
use Rattle.declaration_rules.specs.PackageNames.{body_item_scope, inside_scope, package_scope, specified_scope}
use Rattle.declaration_rules.specs.ProtectedRules.{operation_profile_faults, operations_faults, parts_faults}
use Rattle.declaration_rules.specs.TaskRules.{aspect_faults, aspect_wanted, is_attachment, is_priority, operation_aspect_faults}
use Rattle.stmt_rules.specs.declared.around.BodyKind.{BodyKind}
use Rattle.stmt_rules.specs.declared.around.BodyKind.TheVariants as kind
use Rattle.stmt_rules.specs.StatementRules.{in_body}
use Rattle.unit_rules.specs.BodyRules.{body_faults, kind_of, subprogram_body_faults, task_body_faults}
use Rattle.unit_rules.specs.PackageBodyRules.{body_item_faults, body_items_faults}
use Rattle.unit_rules.specs.PackageRules.{package_faults}
use Rattle.unit_rules.specs.ProtectedBodyRules.{components_at, entry_body_faults, known_body_faults, object_items_faults, operation_sees, protected_item_faults, protected_item_scope, protected_items_faults}
use Rattle.mismatches.specs.declared.conflict.Conflict.{Conflict}
use Rattle.mismatches.specs.declared.conflict.Mismatch.{Mismatch}
use Rattle.mismatches.specs.declared.remark.Remark.{Remark}
use Rattle.mismatches.specs.Conflicts.{Mismatches, first_at, rule_of}
use Rattle.mismatches.specs.BodyMismatches.{all_specified_mismatches, aspect_mismatches, attachment_mismatches, body_item_mismatches, body_items_mismatches, body_mismatches, components_mismatches, definition_mismatches, entry_mismatches, index_mismatches, item_mismatches, items_mismatches, known_mismatches, narrowed_mismatches, object_body_mismatches, operation_mismatches, operations_mismatches, package_mismatches, specified_mismatches, subprogram_mismatches}
use Rattle.mismatches.specs.Remarks.{conflict_remark}
use Rattle.mismatches.specs.Laws.{AreFaults, RemarksAreFaults}
use Rattle.mismatches.proofs.Broken.{after, both, expression_broken, in_front, none, together}
use Rattle.mismatches.proofs.BrokenStatics.{bounds_broken, fixed_initial}
use Rattle.mismatches.proofs.BrokenStatements.{fixed_locals_broken, fixed_object_broken, handlers_broken, locals_broken, stmts_broken}

-- ---- types and subtypes

index_broken : (s : Scope) (i : IndexTree) → AreFaults (index_mismatches s i) (index_faults s i)
index_broken s (OfRange r) = bounds_broken s (OfType integer_type) (Some integer) r
index_broken s (OfName name) = none _

narrowed_broken : (s : Scope) (r : RangeTree) (t : Option Subtype) → AreFaults (narrowed_mismatches s r t) (narrowed_faults s r t)
narrowed_broken s r (Some t) = bounds_broken s (OfType t.type_number) (Some t) r
narrowed_broken s r None = bounds_broken s AnyInteger None r

definition_broken : (s : Scope) (d : DefinitionTree) → AreFaults (definition_mismatches s d) (definition_faults s d)
definition_broken s (Integer r) = bounds_broken s AnyInteger None r
definition_broken s (Array index component) = in_front (in_front (index_broken s index) _) _
definition_broken s (Record components) = none _
definition_broken s (SubtypeOf name None) = none _
definition_broken s (SubtypeOf name (Some r)) = after _ (narrowed_broken s r (if_integer s (subtype_of s name)))

-- ---- declarations of the package

parts_broken : (s : Scope) (own : Identifier) (operations : List OperationTree) (cs before : List ProtectedComponentTree)
    → AreFaults (components_mismatches s cs) (parts_faults s own operations before cs)
parts_broken s own operations [] before = none _
parts_broken s own operations (c ∷ cs) before =
    both (after _ (fixed_initial s (subtype_of s c.subtype) c.value _)) (parts_broken s own operations cs (before ++ c ∷ []))

aspect_broken : (s : Scope) (a : Option AspectTree) → AreFaults (aspect_mismatches s a) (aspect_faults s a)
aspect_broken s (Some a) = expression_broken s (aspect_wanted (is_priority a)) a.value
aspect_broken s None = none _

attachment_broken : (s : Scope) (a : Option AspectTree) → AreFaults (attachment_mismatches s a) (operation_aspect_faults s a)
attachment_broken s (Some a) = expression_broken s (aspect_wanted (is_attachment a)) a.value
attachment_broken s None = none _

specified_broken : (s : Scope) (o : OperationTree) → AreFaults (specified_mismatches s o) (operation_profile_faults s o)
specified_broken s (OfOperation d a) = after _ (attachment_broken s a)
specified_broken s (OfEntry d) = none _

all_specified_broken : (s : Scope) (own : Identifier) (os before : List OperationTree)
    → AreFaults (all_specified_mismatches s os) (operations_faults s own before os)
all_specified_broken s own [] before = none _
all_specified_broken s own (o ∷ os) before = both (after _ (specified_broken s o)) (all_specified_broken s own os (before ++ o ∷ []))

item_broken : (s : Scope) (d : ItemTree) → AreFaults (item_mismatches s d) (item_faults s d)
item_broken s (OfObject d) = fixed_object_broken s d
item_broken s (OfProtected d) =
    in_front
    (in_front
    (both (both (aspect_broken s d.aspect) (all_specified_broken s d.name d.operations [])) (parts_broken s d.name d.operations d.components []))
    _)
    _
item_broken s (OfDeclared d) = in_front (definition_broken s d.definition) _
item_broken s (OfException name) = none _
item_broken s (OfSubprogram d) = none _
item_broken s (OfTask d) = in_front (in_front (aspect_broken s d.aspect) _) _

items_broken : (s : Scope) (ds : List ItemTree) → AreFaults (items_mismatches s ds) (items_faults s ds)
items_broken s [] = none _
items_broken s (d ∷ ds) = both (item_broken s d) (items_broken (item_scope s d) ds)

-- ---- bodies

body_broken : (s : Scope) (k : BodyKind) (b : BodyTree) → AreFaults (body_mismatches s false k b) (body_faults s k b)
body_broken s k b =
    let inside = locals_scope s b.declarations in
    together
    (together (in_front (locals_broken s b.declarations) _) (after _ (in_front (stmts_broken inside (in_body k) b.statements) _)))
    (after _ (after _ (handlers_broken inside (in_body k) [] b.handlers)))

task_broken : (s : Scope) (name : Identifier) (b : BodyTree) → AreFaults (body_mismatches s true kind.Task b) (task_body_faults s name b)
task_broken s name b =
    let inside = locals_scope s b.declarations in
    in_front
    (together
    (together (in_front (after _ (fixed_locals_broken s b.declarations)) _) (after _ (in_front (stmts_broken inside (in_body kind.Task) b.statements) _)))
    (after _ (after _ (handlers_broken inside (in_body kind.Task) [] b.handlers))))
    _

subprogram_broken : (s : Scope) (d : SubprogramTree) (b : BodyTree) → AreFaults (subprogram_mismatches s d b) (subprogram_body_faults s d b)
subprogram_broken s d b = in_front (after _ (body_broken (formals_scope (subprogram_scope s d) d.formals) (kind_of s d.result) b)) _

entry_broken : (s : Scope) (d : EntryTree) (barrier : ExprTree) (b : BodyTree) → AreFaults (entry_mismatches s d barrier b) (entry_body_faults s d barrier b)
entry_broken s d barrier b =
    let inside = formals_scope s d.formals in
    in_front (both (after _ (expression_broken inside boolean_wanted barrier)) (body_broken inside kind.Entry b)) _

-- ---- bodies of protected objects

operation_broken : (s : Scope) (cs : List RecordComponent) (i : ProtectedItemTree) → AreFaults (operation_mismatches s cs i) (protected_item_faults s cs i)
operation_broken s cs (OperationBody d b) = subprogram_broken (operation_sees s cs d) d b
operation_broken s cs (EntryBody d barrier b) = entry_broken (components_scope s false cs) d barrier b

operations_broken : (s : Scope) (cs : List RecordComponent) (is : List ProtectedItemTree)
    → AreFaults (operations_mismatches s cs is) (protected_items_faults s cs is)
operations_broken s cs [] = none _
operations_broken s cs (i ∷ is) = both (operation_broken s cs i) (operations_broken (protected_item_scope s i) cs is)

known_broken : (s : Scope) (n : ℕ) (cs : Option (List RecordComponent)) (is : List ProtectedItemTree)
    → AreFaults (known_mismatches s n cs is) (object_items_faults s n cs is)
known_broken s n (Some cs) is = after _ (operations_broken (object_body_scope s n) cs is)
known_broken s n None is = none _

object_broken : (s : Scope) (number : Option ℕ) (is : List ProtectedItemTree) → AreFaults (object_body_mismatches s number is) (known_body_faults s number is)
object_broken s (Some n) is = known_broken s n (components_at s n) is
object_broken s None is = none _

-- ---- the package

body_item_broken : (s : Scope) (i : BodyItemTree) → AreFaults (body_item_mismatches s i) (body_item_faults s i)
body_item_broken s (OfItem d) = item_broken s d
body_item_broken s (SubprogramBody d b) = subprogram_broken s d b
body_item_broken s (TaskBody name b) = task_broken s name b
body_item_broken s (ProtectedBody name is end_name) = in_front (after _ (object_broken s (number_of s name.name) is)) _

body_items_broken : (s : Scope) (is : List BodyItemTree) → AreFaults (body_items_mismatches s is) (body_items_faults s is)
body_items_broken s [] = none _
body_items_broken s (i ∷ is) = both (body_item_broken s i) (body_items_broken (body_item_scope s i) is)

package_broken : (p : PackageTree) → AreFaults (package_mismatches p) (package_faults standard p)
package_broken p =
    both
    (in_front (in_front (after _ (items_broken (inside_scope standard p) p.declaration.items)) _) _)
    (in_front (in_front (after _ (body_items_broken (specified_scope standard p) p.body.items)) _) _)

-- ---- what is found of a rule at a place is among the mismatches

both_true : (a b : Bool) → (a && b) ≡ true → (a ≡ true) × (b ≡ true)
both_true true true h = (refl, refl)
both_true true false h = cc
both_true false b h = cc

first_found : (fs : Faults) (number place : ℕ) (m : Mismatch) (ms : Mismatches) (b : Bool) (c : Conflict)
    → (nat_eq (rule_of m.conflict) number && nat_eq m.place place) ≡ b
    → AreFaults (m ∷ ms) fs
    → (first_at number place ms ≡ Some c → Contains fs (record { number = number; place = place }))
    → (if b then Some m.conflict else first_at number place ms) ≡ Some c
    → Contains fs (record { number = number; place = place })
first_found fs number place m ms true c same all rest h =
    let parts = both_true (nat_eq (rule_of m.conflict) number) (nat_eq m.place place) same in
    let number_is : rule_of m.conflict ≡ number = grind (arith, parts.0) in
    let place_is : m.place ≡ place = grind (arith, parts.1) in
    subst (λ p. Contains fs (record { number = number; place = p })) place_is
    (subst (λ n. Contains fs (record { number = n; place = m.place })) number_is (all.each m (0, omega arith, refl)))
first_found fs number place m ms false c same all rest h = rest h

later : (fs : Faults) (m : Mismatch) (ms : Mismatches) → AreFaults (m ∷ ms) fs → AreFaults ms fs
later fs m ms all = record { each = λ x h. all.each x (Contains-append_right (m ∷ []) ms x h) }

first_broken : (fs : Faults) (number place : ℕ) (ms : Mismatches) (c : Conflict) → AreFaults ms fs → first_at number place ms ≡ Some c
    → Contains fs (record { number = number; place = place })
first_broken fs number place [] c all h = cc
first_broken fs number place (m ∷ ms) c all h =
    first_found fs number place m ms (nat_eq (rule_of m.conflict) number && nat_eq m.place place) c refl all
    (first_broken fs number place ms c (later fs m ms all)) h

remark_broken : (fs : Faults) (number place : ℕ) (ms : Mismatches) (s : Scope) (p : PackageTree) (o : Option Conflict) (r : Remark) → AreFaults ms fs
    → first_at number place ms ≡ o
    → conflict_remark s p o ≡ Some r
    → Contains fs (record { number = number; place = place })
remark_broken fs number place ms s p (Some c) r all at h = first_broken fs number place ms c all at
remark_broken fs number place ms s p None r all at h = cc

pub remarks_broken : RemarksAreFaults
remarks_broken =
    record {
      expressions = expression_broken;
      packages = λ p number place r h.
          remark_broken (package_faults standard p) number place (package_mismatches p) (package_scope standard p) p
          (first_at number place (package_mismatches p)) r (package_broken p) refl h;
    }
