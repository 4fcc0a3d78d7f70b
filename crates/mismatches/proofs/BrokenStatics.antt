-- Where an expression must be static and something is said of it there, rule 14 or 15 is broken.
use Rattle.std.proofs.Common.{◌≡◌, ℕ, ℤ, Bool, true, false, [], ◌∷◌, Option, Some, None, refl, sym, ap, subst, ◌∙◌}
use Rattle.std.specs.Prelude.{if◌then◌else◌, int_le, not}
use Rattle.ada_tree.specs.ExpressionTree as tree
use Rattle.ada_tree.specs.ExpressionTree.{ExprTree, Named, Parenthesized, Conditional, Unary, Binary}
use Rattle.ada_tree.specs.StatementTree.{RangeTree}
use Rattle.types.specs.declared.entity.PredefinedOperation.{PredefinedOperation}
use Rattle.types.specs.declared.entity.Subtype.{Subtype}
use Rattle.types.specs.declared.statics.StaticForm.{StaticForm}
use Rattle.types.specs.declared.statics.StaticForm.TheVariants as form
use Rattle.types.specs.Evaluations.{Val, Gives, Raises, Meaningless}
use Rattle.types.specs.Scopes.{Scope}
use Rattle.types.specs.Standings.{standing_of}
use Rattle.types.specs.Statics.{both as both_forms, name_form, start_of, static_form, static_value}
use Rattle.types.specs.Values.{Value, Number, Truth, Array, Record, is_within}
use Rattle.expr_rules.specs.declared.own.Wanted.{Wanted}
use Rattle.expr_rules.specs.Faults.{Faults}
use Rattle.expr_rules.specs.ExpressionRules.{faults_of}
use Rattle.expr_rules.specs.StaticRules.{form_rule, if_unbroken, static_faults, value_rule}
use Rattle.type_rules.specs.ObjectRules.{called_faults, fixed_faults, is_clock, span_call}
use Rattle.type_rules.specs.SubtypeNames.{wanted_by}
use Rattle.type_rules.specs.TypeRules.{null_rule, range_faults, static_whole}
use Rattle.mismatches.specs.declared.conflict.Conflict.TheVariants as conflict
use Rattle.mismatches.specs.declared.conflict.Obstacle.{Obstacle}
use Rattle.mismatches.specs.Conflicts.{Mismatches}
use Rattle.mismatches.specs.ExpressionMismatches.{mismatches_of}
use Rattle.mismatches.specs.Laws.{AreFaults}
use Rattle.mismatches.specs.StaticMismatches.{bounds_mismatches, called_mismatches, fixed_initial_mismatches, fixed_mismatches, form_obstacle, null_conflicts, obstacle_conflicts, obstacle_in, or_obstacle, static_mismatches, value_conflicts, where_unbroken}
use Rattle.mismatches.proofs.Broken.{both, expression_broken, in_front, none, one}

-- ---- 14

form_is : (f : StaticForm) (own o : Obstacle) → form_obstacle f own ≡ Some o → f ≡ form.NotStatic
form_is form.NotStatic own o h = refl
form_is form.Static own o h = cc
form_is form.Doubtful own o h = cc

second_not : (f : StaticForm) → both_forms f form.NotStatic ≡ form.NotStatic
second_not form.Static = refl
second_not form.NotStatic = refl
second_not form.Doubtful = refl

either_not : (a b : Option Obstacle) (f g : StaticForm) (o : Obstacle) → ((x : Obstacle) → a ≡ Some x → f ≡ form.NotStatic)
    → ((x : Obstacle) → b ≡ Some x → g ≡ form.NotStatic)
    → or_obstacle a b ≡ Some o
    → both_forms f g ≡ form.NotStatic
either_not (Some x) b f g o first second h = ap (λ y. both_forms y g) (first x refl)
either_not None b f g o first second h = ap (both_forms f) (second o h) ∙ second_not f

is_not : (s : Scope) (e : ExprTree) (o : Obstacle) → obstacle_in s e ≡ Some o → static_form s e ≡ form.NotStatic
is_not s (tree.Number z place) o h = cc
is_not s (Named first selectors) o h = form_is (name_form (standing_of s first selectors)) _ o h
is_not s (Parenthesized place e) o h = is_not s e o h
is_not s (Unary operator place e) o h = is_not s e o h
is_not s (Binary operator a b) o h =
    either_not (obstacle_in s a) (obstacle_in s b) (static_form s a) (static_form s b) o (is_not s a) (is_not s b) h
is_not s (Conditional place condition value elsifs last) o h = refl

obstacle_at : (place : ℕ) (found : Option Obstacle) (f : StaticForm) → ((o : Obstacle) → found ≡ Some o → f ≡ form.NotStatic)
    → AreFaults (obstacle_conflicts place found) (form_rule place f)
obstacle_at place (Some o) f is = subst (λ g. AreFaults (obstacle_conflicts place (Some o)) (form_rule place g)) (sym (is o refl)) (one place (conflict.NotStatic o) true)
obstacle_at place None f is = none _

obstacle_broken : (s : Scope) (place : ℕ) (e : ExprTree) → AreFaults (obstacle_conflicts place (obstacle_in s e)) (form_rule place (static_form s e))
obstacle_broken s place e = obstacle_at place (obstacle_in s e) (static_form s e) (is_not s e)

-- ---- 15

value_broken : (place : ℕ) (within : Option Subtype) (f : StaticForm) (v : Val Value)
    → AreFaults (value_conflicts place within f v) (value_rule place within f v)
value_broken place (Some t) form.Static (Gives (Number z)) = one place (conflict.Outside z t.first t.last) (not (is_within t.first t.last z))
value_broken place None form.Static (Gives (Number z)) = none _
value_broken place within form.Static (Gives (Truth b)) = none _
value_broken place within form.Static (Gives (Array vs)) = none _
value_broken place within form.Static (Gives (Record fs)) = none _
value_broken place within form.Static (Raises x) = one place conflict.Raises true
value_broken place within form.Static Meaningless = none _
value_broken place within form.NotStatic v = none _
value_broken place within form.Doubtful v = none _

unbroken_broken : (fs : Faults) {ms : Mismatches} {later : Faults} → AreFaults ms later → AreFaults (where_unbroken fs ms) (if_unbroken fs later)
unbroken_broken [] are = are
unbroken_broken (f ∷ fs) are = none _

pub static_broken : (s : Scope) (w : Wanted) (within : Option Subtype) (e : ExprTree) → AreFaults (static_mismatches s w within e) (static_faults s w within e)
static_broken s w within e =
    both (both (expression_broken s w e) (obstacle_broken s (start_of e) e))
    (unbroken_broken (faults_of s w e) (value_broken (start_of e) within (static_form s e) (static_value s e)))

null_broken : (place : ℕ) (first last : Option ℤ) → AreFaults (null_conflicts place first last) (null_rule place first last)
null_broken place (Some first) (Some last) = one place (conflict.NullRange first last) (not (int_le first last))
null_broken place (Some first) None = none _
null_broken place None last = none _

pub bounds_broken : (s : Scope) (w : Wanted) (within : Option Subtype) (r : RangeTree) → AreFaults (bounds_mismatches s w within r) (range_faults s w within r)
bounds_broken s w within r =
    both (both (static_broken s w within r.first) (static_broken s w within r.last))
    (null_broken (start_of r.first) (static_whole s w within r.first) (static_whole s w within r.last))

-- ---- initial values that must be static

called_broken : (s : Scope) (t : Option Subtype) (e : ExprTree) (call : Option (PredefinedOperation × ExprTree))
    → AreFaults (called_mismatches s t e call) (called_faults s t e call)
called_broken s t e (Some x) = in_front (both (expression_broken s (wanted_by t) e) (obstacle_broken s (start_of e) x.1)) _
called_broken s t e None = static_broken s (wanted_by t) t e

clock_broken : (s : Scope) (t : Option Subtype) (e : ExprTree) (b : Bool)
    → AreFaults (if b then mismatches_of s (wanted_by t) e else called_mismatches s t e (span_call s e))
    (elim b [ true ↦ faults_of s (wanted_by t) e | false ↦ called_faults s t e (span_call s e) ])
clock_broken s t e true = expression_broken s (wanted_by t) e
clock_broken s t e false = called_broken s t e (span_call s e)

fixed_broken : (s : Scope) (t : Option Subtype) (e : ExprTree) → AreFaults (fixed_mismatches s t e) (fixed_faults s t e)
fixed_broken s t e = clock_broken s t e (is_clock s e)

pub fixed_initial : (s : Scope) (t : Option Subtype) (v : Option ExprTree) (other : Faults)
    → AreFaults (fixed_initial_mismatches s t v) (elim v [ Some e ↦ fixed_faults s t e | None ↦ other ])
fixed_initial s t (Some e) other = fixed_broken s t e
fixed_initial s t None other = none _
