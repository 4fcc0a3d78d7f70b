-- What legal expressions come to where a task stands: values of their types, truth values, numbers.
use Rattle.std.proofs.Common.{◌≡◌, ℕ, ℤ, List, [], Bool, true, false, ◌&&◌, not, cond, refl, sym, ap, ◌∙◌}
use Rattle.std.specs.Prelude.{is_some}
use Rattle.expr_soundness.specs.ada_tree.specs.ExpressionTree.{ExprTree}
use Rattle.expr_soundness.specs.types.specs.declared.entity.Subtype.{Subtype}
use Rattle.expr_soundness.specs.types.specs.Scopes.{Scope, boolean_type, form_at, integer_type}
use Rattle.expr_soundness.specs.types.specs.Statics.{start_of}
use Rattle.expr_soundness.specs.types.specs.Values.{Value, Number, Truth, Array, Record, fits}
use Rattle.expr_soundness.specs.types.specs.Evaluations.{Val, Gives, Raises, Meaningless, raise}
use Rattle.expr_soundness.specs.types.specs.Evaluating.{passed, truth_of}
use Rattle.expr_soundness.specs.base.specs.declared.exceptions.PredefinedException.TheVariants.{ConstraintError}
use Rattle.expr_soundness.specs.expr_rules.specs.declared.own.Own.{Own}
use Rattle.expr_soundness.specs.expr_rules.specs.declared.own.Own.TheVariants.{Typed}
use Rattle.expr_soundness.specs.expr_rules.specs.declared.own.Wanted.{Wanted}
use Rattle.expr_soundness.specs.expr_rules.specs.declared.own.Wanted.TheVariants.{OfType}
use Rattle.expr_soundness.specs.expr_rules.specs.Typing.{is_boolean, is_booleans, is_integers, is_integral, is_known, is_wanted, own_of}
use Rattle.expr_soundness.specs.expr_rules.specs.NameRules.{mismatch}
use Rattle.expr_soundness.specs.expr_rules.specs.ExpressionRules.{faults_in, faults_of}
use Rattle.expr_soundness.specs.expr_rules.specs.Laws.{IsTyped, is_value_of, suits}
use Rattle.expr_soundness.specs.expr_rules.proofs.TypeShapes.{boolean_value, is_number, is_numeric, is_truth, numeric_value}
use Rattle.expr_soundness.specs.expr_rules.proofs.TypedLaw.{back_empty, front_empty, integral_numeric, judged, unbroken}
use Rattle.stmt_rules.specs.SimpleRules.{condition_faults}
use Rattle.expr_soundness.specs.SoundScopes.{SoundScope}
use Rattle.expr_soundness.specs.meaning.specs.Works.{Item}
use Rattle.expr_soundness.specs.meaning.specs.SourceSteps.{Here, condition, evaluate, place_of}
use Rattle.step_soundness.specs.Objects.{GivesOrRaises, IsOf}
use Rattle.step_soundness.specs.Judged.{Waiting}
use Rattle.step_soundness.specs.Laws.{Premises}
use Rattle.step_soundness.proofs.Raising.{RaisesPredefined, exception_predefined, val_predefined}
use Rattle.step_soundness.proofs.Sights.{value_here}
use Rattle.step_soundness.proofs.Going.{Current, agrees_here, comes_then, comes_weaker, functions_here}

-- ---- values by what they suit

pub suited_comes : (s : Scope) (own : Own) (v : Val Value) → RaisesPredefined v → suits s own v ≡ true → GivesOrRaises (λ w. is_value_of s own w ≡ true) v
suited_comes s own (Gives w) known h = h
suited_comes s own (Raises x) known h = known
suited_comes s own Meaningless known h = cc

abbrev pub IsNumber : Value → Type 0
IsNumber v = (z : ℤ) × (v ≡ Number z)

number_is : (v : Value) → is_number v ≡ true → IsNumber v
number_is (Number z) h = (z, refl)
number_is (Truth b) h = cc
number_is (Array vs) h = cc
number_is (Record fs) h = cc

truth_comes : (v : Value) → is_truth v ≡ true → GivesOrRaises (λ b. Unit {0}) (truth_of v)
truth_comes (Truth b) h = tt
truth_comes (Number z) h = cc
truth_comes (Array vs) h = cc
truth_comes (Record fs) h = cc

passed_comes_by : (P : Value → Type 0) (b : Bool) (v : Value) → P v → GivesOrRaises P (cond b (Gives v) (raise ConstraintError))
passed_comes_by P true v h = h
passed_comes_by P false v h = exception_predefined ConstraintError

-- the check against a subtype keeps what is known of the value
pub passed_comes : (P : Value → Type 0) (t : Subtype) (v : Value) → P v → GivesOrRaises P (passed t v)
passed_comes P t v h = passed_comes_by P (fits t v) v h

module _ (h : Here) (s : Scope) (outer : List Waiting) (laws : Premises h.program) (c : Current h s outer) (items : List Item) where
  sound_scope : SoundScope s
  sound_scope = (agrees_here h s outer c items).sound

  typed_here : (e : ExprTree) (w : Wanted) → faults_in s w e ≡ [] → IsTyped s (own_of s e) (evaluate h items e)
  typed_here e w legal = laws.typed.typed s (place_of h items) (agrees_here h s outer c items) (functions_here h s outer c items) e w legal

  -- its type is known
  pub known_own : (e : ExprTree) (w : Wanted) → faults_in s w e ≡ [] → is_known (own_of s e) ≡ true
  known_own e w legal = (typed_here e w legal).known

  -- what is expected is so
  pub fitting_own : (e : ExprTree) (w : Wanted) → faults_of s w e ≡ [] → is_wanted s w (own_of s e) ≡ true
  fitting_own e w legal =
      let own = own_of s e in
      judged (is_known own) (is_wanted s w own) (unbroken _ (start_of e) (is_known own && not (is_wanted s w own)) (back_empty (faults_in s w e) (mismatch s w own (start_of e)) legal))
      (known_own e w (front_empty (faults_in s w e) (mismatch s w own (start_of e)) legal))

  -- a value of the type that is expected
  pub value_comes : (e : ExprTree) (n : ℕ) → is_some (form_at s n) ≡ true → faults_of s (OfType n) e ≡ [] → GivesOrRaises (IsOf h.program.scope n) (evaluate h items e)
  value_comes e n known legal =
      let v = evaluate h items e in
      let agrees = agrees_here h s outer c items in
      let suited = laws.typed.wanted s (place_of h items) agrees (functions_here h s outer c items) e n legal in
      comes_weaker (IsOf s n) (IsOf h.program.scope n) v (suited_comes s (Typed n) v (val_predefined (place_of h items) e) suited) (λ w i. value_here s (place_of h items) agrees n known w i)

  -- any value
  pub some_value : (e : ExprTree) (w : Wanted) → faults_in s w e ≡ [] → GivesOrRaises (λ v. Unit {0}) (evaluate h items e)
  some_value e w legal =
      let v = evaluate h items e in
      comes_weaker (λ x. is_value_of s (own_of s e) x ≡ true) (λ x. Unit {0}) v (suited_comes s (own_of s e) v (val_predefined (place_of h items) e) (typed_here e w legal).suited) (λ x i. tt)

  -- a number, of a numeric type
  pub number_comes : (e : ExprTree) (w : Wanted) → faults_in s w e ≡ [] → is_numeric s (own_of s e) ≡ true → GivesOrRaises IsNumber (evaluate h items e)
  number_comes e w legal numeric =
      let v = evaluate h items e in
      comes_weaker (λ x. is_value_of s (own_of s e) x ≡ true) IsNumber v (suited_comes s (own_of s e) v (val_predefined (place_of h items) e) (typed_here e w legal).suited)
      (λ x i. number_is x (sym (numeric_value s (own_of s e) numeric x) ∙ i))

  -- an Integer
  pub integer_comes : (e : ExprTree) → faults_of s (OfType integer_type) e ≡ [] → GivesOrRaises IsNumber (evaluate h items e)
  integer_comes e legal =
      let v = evaluate h items e in
      let suited = laws.typed.wanted s (place_of h items) (agrees_here h s outer c items) (functions_here h s outer c items) e integer_type legal in
      let integers : is_integral s (Typed integer_type) ≡ true = ap is_integers sound_scope.integer in
      comes_weaker (λ x. is_value_of s (Typed integer_type) x ≡ true) IsNumber v (suited_comes s (Typed integer_type) v (val_predefined (place_of h items) e) suited)
      (λ x i. number_is x (sym (numeric_value s (Typed integer_type) (integral_numeric s (Typed integer_type) integers) x) ∙ i))

  -- conditions are true or false
  pub condition_comes : (e : ExprTree) → condition_faults s e ≡ [] → GivesOrRaises (λ b. Unit {0}) (condition h items e)
  condition_comes e legal =
      let v = evaluate h items e in
      let suited = laws.typed.wanted s (place_of h items) (agrees_here h s outer c items) (functions_here h s outer c items) e boolean_type legal in
      let booleans : is_boolean s (Typed boolean_type) ≡ true = ap is_booleans sound_scope.boolean in
      comes_then (λ x. is_value_of s (Typed boolean_type) x ≡ true) (λ b. Unit {0}) v truth_of (suited_comes s (Typed boolean_type) v (val_predefined (place_of h items) e) suited)
      (λ x i. truth_comes x (sym (boolean_value s (Typed boolean_type) booleans x) ∙ i))
