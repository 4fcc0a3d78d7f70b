-- Legal expressions are worth values of their types.
use Rattle.std.proofs.Common.{◌≡◌, ◌++◌, ◌⊎◌, inl, inr, ℕ, suc, ℤ, [], ◌∷◌, Bool, true, false, ◌&&◌, ◌||◌, not, Option, Some, None, Ok, Err, refl, sym, ap, ◌∙◌, subst, arith}
use Rattle.std.specs.Prelude.{⊤, nat_eq, cond}
use Rattle.ada_tree.specs.declared.expression.UnaryOperator.{UnaryOperator}
use Rattle.ada_tree.specs.declared.expression.UnaryOperator.TheVariants as unary
use Rattle.ada_tree.specs.declared.expression.BinaryOperator.{BinaryOperator}
use Rattle.ada_tree.specs.declared.expression.BinaryOperator.TheVariants as binary
use Rattle.ada_tree.specs.ExpressionTree as tree
use Rattle.ada_tree.specs.ExpressionTree.{ExprTree, Named, Parenthesized, Conditional, Unary, Binary, ElsifValueTrees, NoElsifValues, MoreElsifValues}
use Rattle.base.specs.Arithmetic.{Checked, sum_of, difference_of, product_of, quotient_of, modulus_of, remainder_of, negation_of, absolute_of}
use Rattle.types.specs.Entities.{TypeForm, Integers, Booleans, Times, Spans, Arrays, Records}
use Rattle.types.specs.Scopes.{Scope, form_at, boolean_type}
use Rattle.types.specs.Values.{Value, Number, Truth, Array, Record}
use Rattle.types.specs.Evaluations.{Val, Gives, Raises, Meaningless, and_then, computed}
use Rattle.types.specs.Operators.{truth, unary_value, binary_value, is_decided}
use Rattle.types.specs.Places.{Place}
use Rattle.types.specs.Evaluating.{Calls, value_with, elsif_with, truth_of}
use Rattle.types.specs.Statics.{start_of}
use Rattle.expr_rules.specs.declared.own.Own.{Own}
use Rattle.expr_rules.specs.declared.own.Own.TheVariants.{Unknown, Universal, Typed}
use Rattle.expr_rules.specs.declared.own.Wanted.{Wanted}
use Rattle.expr_rules.specs.declared.own.Wanted.TheVariants.{Anything, AnyInteger, OfType}
use Rattle.expr_rules.specs.Faults.{Faults, rule}
use Rattle.expr_rules.specs.Typing.{own_of, elsif_own_of, unary_own, binary_own, arithmetic_own, time_own, integral_or_unknown, join, has_unary, has_binary, is_integers, is_times, is_spans, is_booleans, is_integral, is_boolean, is_time, is_span, is_scalar, is_known, is_logical, is_relation, is_wanted, boolean_wanted, typed_wanted}
use Rattle.expr_rules.specs.NameRules.{mismatch}
use Rattle.expr_rules.specs.ExpressionRules.{faults_in, elsif_faults, below, beside, unary_rule, binary_rule, parts_own, parts_wanted, conditional_wanted, first_typed, or_first}
use Rattle.expr_rules.specs.Laws.{AreTyped, IsTyped, TypedValues, is_value_of, suits}
use Rattle.expr_rules.proofs.TypeShapes.{boolean_value, has_numbers, is_number, is_numeric, is_truth, numeric_value}

-- ---- parts of what is broken nowhere

pub front_empty : (xs ys : Faults) → xs ++ ys ≡ [] → xs ≡ []
front_empty [] ys h = refl
front_empty (x ∷ xs) ys h = cc

pub back_empty : (xs ys : Faults) → xs ++ ys ≡ [] → ys ≡ []
back_empty [] ys h = h
back_empty (x ∷ xs) ys h = cc

pub unbroken : (n p : ℕ) (b : Bool) → rule n p b ≡ [] → b ≡ false
unbroken n p true h = cc
unbroken n p false h = refl

pub judged : (k h : Bool) → (k && not h) ≡ false → k ≡ true → h ≡ true
judged true true e k = refl
judged true false e k = cc
judged false h e k = cc

pub judged_two : (j k h : Bool) → (j && (k && not h)) ≡ false → j ≡ true → k ≡ true → h ≡ true
judged_two true k h e j m = judged k h e m
judged_two false k h e j m = cc

either : (a b : Bool) → (a || b) ≡ true → (a ≡ true) ⊎ (b ≡ true)
either true b h = inl refl
either false b h = inr h

right_of : (a b : Bool) → b ≡ true → (a || b) ≡ true
right_of true b h = refl
right_of false b h = h

left_of : (a b : Bool) → a ≡ true → (a || b) ≡ true
left_of true b h = refl
left_of false b h = cc

pub same_number : (n m : ℕ) → nat_eq n m ≡ true → n ≡ m
same_number n m h = grind (arith, h)

-- ---- types

pub integral_numeric : (s : Scope) (a : Own) → is_integral s a ≡ true → is_numeric s a ≡ true
integral_numeric s a h = left_of (is_integral s a) (is_time s a || is_span s a) h

pub time_numeric : (s : Scope) (a : Own) → is_time s a ≡ true → is_numeric s a ≡ true
time_numeric s a h = right_of (is_integral s a) (is_time s a || is_span s a) (left_of (is_time s a) (is_span s a) h)

pub span_numeric : (s : Scope) (a : Own) → is_span s a ≡ true → is_numeric s a ≡ true
span_numeric s a h = right_of (is_integral s a) (is_time s a || is_span s a) (right_of (is_time s a) (is_span s a) h)

-- a scalar type has numbers or truth values
scalar_kind : (s : Scope) (a : Own) → is_scalar s a ≡ true → (is_numeric s a ≡ true) ⊎ (is_boolean s a ≡ true)
scalar_kind s a h =
    elim (either (is_integral s a) (is_boolean s a || (is_time s a || is_span s a)) h) [
      | inl i ↦ inl (integral_numeric s a i)
      | inr r ↦ elim (either (is_boolean s a) (is_time s a || is_span s a) r) [ inl b ↦ inr b | inr t ↦ inl (right_of (is_integral s a) (is_time s a || is_span s a) t) ]
    ]

numeric_known : (s : Scope) (a : Own) → is_numeric s a ≡ true → is_known a ≡ true
numeric_known s Unknown h = cc
numeric_known s Universal h = refl
numeric_known s (Typed n) h = refl

-- what holds of the forms of the one type of two holds of both, where it holds of integers or one of them has a type
integers_are_numeric : (o : Option TypeForm) → is_integers o ≡ true → has_numbers o ≡ true
integers_are_numeric o h = left_of (is_integers o) (is_times o || is_spans o) h

integers_not_boolean : (o : Option TypeForm) → is_integers o ≡ true → is_booleans o ≡ true → ⊥
integers_not_boolean (Some Integers) h k = cc
integers_not_boolean (Some Booleans) h k = cc
integers_not_boolean (Some Times) h k = cc
integers_not_boolean (Some Spans) h k = cc
integers_not_boolean (Some (Arrays i l t)) h k = cc
integers_not_boolean (Some (Records cs)) h k = cc
integers_not_boolean None h k = cc

joined_numeric : (s : Scope) (a b : Own) → is_numeric s (join s a b) ≡ true → (is_numeric s a ≡ true) × (is_numeric s b ≡ true)
joined_numeric s Unknown b h = cc
joined_numeric s Universal Unknown h = cc
joined_numeric s Universal Universal h = (refl, refl)
joined_numeric s Universal (Typed n) h = by_test (is_integers (form_at s n)) refl h
  where
    by_test : (x : Bool) → is_integers (form_at s n) ≡ x → is_numeric s (cond x (Typed n) Unknown) ≡ true → (is_numeric s Universal ≡ true) × (is_numeric s (Typed n) ≡ true)
    by_test true e k = (refl, k)
    by_test false e k = cc
joined_numeric s (Typed n) Unknown h = cc
joined_numeric s (Typed n) Universal h = by_test (is_integers (form_at s n)) refl h
  where
    by_test : (x : Bool) → is_integers (form_at s n) ≡ x → is_numeric s (cond x (Typed n) Unknown) ≡ true → (is_numeric s (Typed n) ≡ true) × (is_numeric s Universal ≡ true)
    by_test true e k = (k, refl)
    by_test false e k = cc
joined_numeric s (Typed n) (Typed m) h = by_test (nat_eq n m) refl h
  where
    by_test : (x : Bool) → nat_eq n m ≡ x → is_numeric s (cond x (Typed n) Unknown) ≡ true → (is_numeric s (Typed n) ≡ true) × (is_numeric s (Typed m) ≡ true)
    by_test true e k = (k, subst (λ i. is_numeric s (Typed i) ≡ true) (same_number n m e) k)
    by_test false e k = cc

pub joined_boolean : (s : Scope) (a b : Own) → is_boolean s (join s a b) ≡ true → (is_boolean s a ≡ true) × (is_boolean s b ≡ true)
joined_boolean s Unknown b h = cc
joined_boolean s Universal Unknown h = cc
joined_boolean s Universal Universal h = cc
joined_boolean s Universal (Typed n) h = by_test (is_integers (form_at s n)) refl h
  where
    by_test : (x : Bool) → is_integers (form_at s n) ≡ x → is_boolean s (cond x (Typed n) Unknown) ≡ true → (is_boolean s Universal ≡ true) × (is_boolean s (Typed n) ≡ true)
    by_test true e k = absurd (integers_not_boolean (form_at s n) e k)
    by_test false e k = cc
joined_boolean s (Typed n) Unknown h = cc
joined_boolean s (Typed n) Universal h = by_test (is_integers (form_at s n)) refl h
  where
    by_test : (x : Bool) → is_integers (form_at s n) ≡ x → is_boolean s (cond x (Typed n) Unknown) ≡ true → (is_boolean s (Typed n) ≡ true) × (is_boolean s Universal ≡ true)
    by_test true e k = absurd (integers_not_boolean (form_at s n) e k)
    by_test false e k = cc
joined_boolean s (Typed n) (Typed m) h = by_test (nat_eq n m) refl h
  where
    by_test : (x : Bool) → nat_eq n m ≡ x → is_boolean s (cond x (Typed n) Unknown) ≡ true → (is_boolean s (Typed n) ≡ true) × (is_boolean s (Typed m) ≡ true)
    by_test true e k = (k, subst (λ i. is_boolean s (Typed i) ≡ true) (same_number n m e) k)
    by_test false e k = cc

-- a known sum, difference, .. has numeric operands, and is numeric
integral_sum : (s : Scope) (a b : Own) → is_known (integral_or_unknown s (join s a b)) ≡ true
    → (is_numeric s a ≡ true) × (is_numeric s b ≡ true) × (is_numeric s (integral_or_unknown s (join s a b)) ≡ true)
integral_sum s a b h = by_test (is_integral s (join s a b)) refl h
  where
    by_test : (x : Bool) → is_integral s (join s a b) ≡ x → is_known (cond x (join s a b) Unknown) ≡ true
        → (is_numeric s a ≡ true) × (is_numeric s b ≡ true) × (is_numeric s (cond x (join s a b) Unknown) ≡ true)
    by_test true e k = let both = joined_numeric s a b (integral_numeric s (join s a b) e) in (both.0, both.1, integral_numeric s (join s a b) e)
    by_test false e k = cc

abbrev Numeric : Scope → BinaryOperator → Own → Own → Type 0
Numeric s operator a b = (is_numeric s a ≡ true) × (is_numeric s b ≡ true) × (is_numeric s (arithmetic_own s operator a b) ≡ true)

time_sum : (s : Scope) (operator : BinaryOperator) (a b : Own) → ((n : ℕ) → is_times (form_at s n) ≡ true → is_spans (form_at s (suc n)) ≡ true) → is_time s a ≡ true → is_known (time_own s operator a b) ≡ true
    → (is_numeric s b ≡ true) × (is_numeric s (time_own s operator a b) ≡ true)
time_sum s binary.Add (Typed n) b behind t h = by_test (is_span s b) refl h
  where
    by_test : (x : Bool) → is_span s b ≡ x → is_known (cond x (Typed n) Unknown) ≡ true → (is_numeric s b ≡ true) × (is_numeric s (cond x (Typed n) Unknown) ≡ true)
    by_test true e k = (span_numeric s b e, time_numeric s (Typed n) t)
    by_test false e k = cc
time_sum s binary.Subtract (Typed n) b behind t h = by_test (is_time s b) refl h
  where
    by_test : (x : Bool) → is_time s b ≡ x → is_known (cond x (Typed (suc n)) Unknown) ≡ true → (is_numeric s b ≡ true) × (is_numeric s (cond x (Typed (suc n)) Unknown) ≡ true)
    by_test true e k = (time_numeric s b e, span_numeric s (Typed (suc n)) (behind n t))
    by_test false e k = cc
time_sum s operator Unknown b behind t h = cc
time_sum s operator Universal b behind t h = cc
time_sum s operator (Typed n) b behind t h = cc

sum_numeric : (s : Scope) (operator : BinaryOperator) (a b : Own) → ((n : ℕ) → is_times (form_at s n) ≡ true → is_spans (form_at s (suc n)) ≡ true) → is_known (arithmetic_own s operator a b) ≡ true → Numeric s operator a b
sum_numeric s operator a b behind h = by_test (is_time s a) refl h
  where
    by_test : (x : Bool) → is_time s a ≡ x → is_known (cond x (time_own s operator a b) (integral_or_unknown s (join s a b))) ≡ true
        → (is_numeric s a ≡ true) × (is_numeric s b ≡ true) × (is_numeric s (cond x (time_own s operator a b) (integral_or_unknown s (join s a b))) ≡ true)
    by_test true e k = let t = time_sum s operator a b behind e k in (time_numeric s a e, t.0, t.1)
    by_test false e k = integral_sum s a b k

-- ---- values of types

pub suits_number : (s : Scope) (a : Own) → is_numeric s a ≡ true → (z : ℤ) → is_value_of s a (Number z) ≡ true
suits_number s a h z = numeric_value s a h (Number z)

pub suits_computed : (s : Scope) (a : Own) → is_numeric s a ≡ true → (r : Checked) → suits s a (computed r) ≡ true
suits_computed s a h (Ok z) = suits_number s a h z
suits_computed s a h (Err x) = refl

abbrev pub Boolean : Scope → Type 0
Boolean s = form_at s boolean_type ≡ Some Booleans

boolean_is : (s : Scope) → Boolean s → is_boolean s (Typed boolean_type) ≡ true
boolean_is s h = ap is_booleans h

suits_truth : (s : Scope) → Boolean s → (b : Bool) → is_value_of s (Typed boolean_type) (Truth b) ≡ true
suits_truth s h b = boolean_value s (Typed boolean_type) (boolean_is s h) (Truth b)

number_of_value : (v : Value) → is_number v ≡ true → (z : ℤ) × (v ≡ Number z)
number_of_value (Number z) h = (z, refl)
number_of_value (Truth b) h = cc
number_of_value (Array vs) h = cc
number_of_value (Record fs) h = cc

truth_of_value : (v : Value) → is_truth v ≡ true → (b : Bool) × (v ≡ Truth b)
truth_of_value (Truth b) h = (b, refl)
truth_of_value (Number z) h = cc
truth_of_value (Array vs) h = cc
truth_of_value (Record fs) h = cc

-- a value of a numeric type is a number, one of Boolean a truth value
pub as_number : (s : Scope) (a : Own) (v : Value) → is_numeric s a ≡ true → is_value_of s a v ≡ true → (z : ℤ) × (v ≡ Number z)
as_number s a v h i = number_of_value v (sym (numeric_value s a h v) ∙ i)

pub as_truth : (s : Scope) (a : Own) (v : Value) → is_boolean s a ≡ true → is_value_of s a v ≡ true → (b : Bool) × (v ≡ Truth b)
as_truth s a v h i = truth_of_value v (sym (boolean_value s a h v) ∙ i)

-- ---- what operators give

arithmetic_value : (operator : BinaryOperator) → is_logical operator ≡ false → is_relation operator ≡ false → (x y : ℤ) → (r : Checked) × (binary_value operator (Number x) (Number y) ≡ computed r)
arithmetic_value binary.Add h k x y = (sum_of x y, refl)
arithmetic_value binary.Subtract h k x y = (difference_of x y, refl)
arithmetic_value binary.Multiply h k x y = (product_of x y, refl)
arithmetic_value binary.Divide h k x y = (quotient_of x y, refl)
arithmetic_value binary.Mod h k x y = (modulus_of x y, refl)
arithmetic_value binary.Rem h k x y = (remainder_of x y, refl)
arithmetic_value _ h k x y = cc

relation_of_numbers : (operator : BinaryOperator) → is_relation operator ≡ true → (x y : ℤ) → (b : Bool) × (binary_value operator (Number x) (Number y) ≡ truth b)
relation_of_numbers binary.Equal h x y = (_, refl)
relation_of_numbers binary.NotEqual h x y = (_, refl)
relation_of_numbers binary.Less h x y = (_, refl)
relation_of_numbers binary.LessOrEqual h x y = (_, refl)
relation_of_numbers binary.Greater h x y = (_, refl)
relation_of_numbers binary.GreaterOrEqual h x y = (_, refl)
relation_of_numbers _ h x y = cc

relation_of_truths : (operator : BinaryOperator) → is_relation operator ≡ true → (x y : Bool) → (b : Bool) × (binary_value operator (Truth x) (Truth y) ≡ truth b)
relation_of_truths binary.Equal h x y = (_, refl)
relation_of_truths binary.NotEqual h x y = (_, refl)
relation_of_truths binary.Less h x y = (_, refl)
relation_of_truths binary.LessOrEqual h x y = (_, refl)
relation_of_truths binary.Greater h x y = (_, refl)
relation_of_truths binary.GreaterOrEqual h x y = (_, refl)
relation_of_truths _ h x y = cc

logical_of_truths : (operator : BinaryOperator) → is_logical operator ≡ true → (x y : Bool) → (b : Bool) × (binary_value operator (Truth x) (Truth y) ≡ truth b)
logical_of_truths binary.And h x y = (_, refl)
logical_of_truths binary.Or h x y = (_, refl)
logical_of_truths binary.Xor h x y = (_, refl)
logical_of_truths binary.AndThen h x y = (_, refl)
logical_of_truths binary.OrElse h x y = (_, refl)
logical_of_truths _ h x y = cc

-- where the left operand decides, the operator is logical and the operand is a truth value
decided : (operator : BinaryOperator) (v : Value) → is_decided operator v ≡ true → (is_logical operator ≡ true) × (is_truth v ≡ true)
decided binary.AndThen (Truth false) h = (refl, refl)
decided binary.OrElse (Truth true) h = (refl, refl)
decided operator v h = cc

abbrev pub Behind : Scope → Type 0
Behind s = (n : ℕ) → is_times (form_at s n) ≡ true → is_spans (form_at s (suc n)) ≡ true

-- both values are there
suits_both : (s : Scope) → Boolean s → Behind s → (operator : BinaryOperator) (a b : Own) (v w : Value) (l r : Bool) → is_logical operator ≡ l → is_relation operator ≡ r
    → cond l (is_boolean s (join s a b)) (cond r (is_scalar s (join s a b)) (is_known (arithmetic_own s operator a b))) ≡ true
    → is_value_of s a v ≡ true → is_value_of s b w ≡ true → suits s (cond (l || r) (Typed boolean_type) (arithmetic_own s operator a b)) (binary_value operator v w) ≡ true
suits_both s boolean behind operator a b v w true r el er h i j =
    let two = joined_boolean s a b h in
    let x = as_truth s a v two.0 i in
    let y = as_truth s b w two.1 j in
    let t = logical_of_truths operator el x.0 y.0 in
    ap (suits s (Typed boolean_type)) ((λ k. binary_value operator (x.1 k) (y.1 k)) ∙ t.1) ∙ suits_truth s boolean t.0
suits_both s boolean behind operator a b v w false true el er h i j =
    elim (scalar_kind s (join s a b) h) [
      | inl n ↦
          let two = joined_numeric s a b n in
          let x = as_number s a v two.0 i in
          let y = as_number s b w two.1 j in
          let t = relation_of_numbers operator er x.0 y.0 in
          ap (suits s (Typed boolean_type)) ((λ k. binary_value operator (x.1 k) (y.1 k)) ∙ t.1) ∙ suits_truth s boolean t.0
      | inr n ↦
          let two = joined_boolean s a b n in
          let x = as_truth s a v two.0 i in
          let y = as_truth s b w two.1 j in
          let t = relation_of_truths operator er x.0 y.0 in
          ap (suits s (Typed boolean_type)) ((λ k. binary_value operator (x.1 k) (y.1 k)) ∙ t.1) ∙ suits_truth s boolean t.0
    ]
suits_both s boolean behind operator a b v w false false el er h i j =
    let all = sum_numeric s operator a b behind h in
    let x = as_number s a v all.0 i in
    let y = as_number s b w all.1 j in
    let t = arithmetic_value operator el er x.0 y.0 in
    ap (suits s (arithmetic_own s operator a b)) ((λ k. binary_value operator (x.1 k) (y.1 k)) ∙ t.1) ∙ suits_computed s (arithmetic_own s operator a b) all.2 t.0

decided_suits : (s : Scope) → Boolean s → (operator : BinaryOperator) (a b : Own) (v : Value) → is_decided operator v ≡ true → is_value_of s (binary_own s operator a b) v ≡ true
decided_suits s boolean operator a b v h =
    let d = decided operator v h in
    ap (λ x. is_value_of s (cond (x || is_relation operator) (Typed boolean_type) (arithmetic_own s operator a b)) v) d.0 ∙ boolean_value s (Typed boolean_type) (boolean_is s boolean) v ∙ d.1

suits_pair : (s : Scope) → Boolean s → Behind s → (operator : BinaryOperator) (a b : Own) (x y : Val Value) → has_binary s operator a b ≡ true → suits s a x ≡ true → suits s b y ≡ true
    → suits s (binary_own s operator a b) (and_then x (λ v. elim (is_decided operator v) [ true ↦ Gives v | false ↦ and_then y (binary_value operator v) ])) ≡ true
suits_pair s boolean behind operator a b (Raises e) y h i j = refl
suits_pair s boolean behind operator a b Meaningless y h i j = cc
suits_pair s boolean behind operator a b (Gives v) y h i j = by_first (is_decided operator v) refl
  where
    second : (y : Val Value) → suits s b y ≡ true → suits s (binary_own s operator a b) (and_then y (binary_value operator v)) ≡ true
    second (Gives w) j = suits_both s boolean behind operator a b v w (is_logical operator) (is_relation operator) refl refl h i j
    second (Raises e) j = refl
    second Meaningless j = cc

    by_first : (d : Bool) → is_decided operator v ≡ d → suits s (binary_own s operator a b) (elim d [ true ↦ Gives v | false ↦ and_then y (binary_value operator v) ]) ≡ true
    by_first true e = decided_suits s boolean operator a b v e
    by_first false e = second y j

pair_known : (s : Scope) → (operator : BinaryOperator) (a b : Own) (l r : Bool) → cond l (is_boolean s (join s a b)) (cond r (is_scalar s (join s a b)) (is_known (arithmetic_own s operator a b))) ≡ true
    → is_known (cond (l || r) (Typed boolean_type) (arithmetic_own s operator a b)) ≡ true
pair_known s operator a b true r h = refl
pair_known s operator a b false true h = refl
pair_known s operator a b false false h = h

integral_kept : (s : Scope) (a : Own) → is_integral s a ≡ true → integral_or_unknown s a ≡ a
integral_kept s a h = ap (λ x. cond x a Unknown) h

signed_suits : (s : Scope) (a : Own) (f : ℤ → Val Value) (v : Value) → is_integral s a ≡ true → is_value_of s a v ≡ true → (operation : Value → Val Value) → ((z : ℤ) → operation (Number z) ≡ f z)
    → ((z : ℤ) → suits s a (f z) ≡ true) → suits s (integral_or_unknown s a) (operation v) ≡ true
signed_suits s a f v h i operation is each =
    let x = as_number s a v (integral_numeric s a h) i in
    (λ k. suits s (integral_kept s a h k) (operation (x.1 k))) ∙ ap (suits s a) (is x.0) ∙ each x.0

suits_unary : (s : Scope) → Boolean s → (operator : UnaryOperator) (a : Own) (x : Val Value) → has_unary s operator a ≡ true → suits s a x ≡ true → suits s (unary_own s operator a) (and_then x (unary_value operator)) ≡ true
suits_unary s boolean operator a (Raises e) h i = refl
suits_unary s boolean operator a Meaningless h i = cc
suits_unary s boolean unary.Not a (Gives v) h i = let x = as_truth s a v h i in ap (λ w. suits s (Typed boolean_type) (unary_value unary.Not w)) x.1 ∙ suits_truth s boolean (not x.0)
suits_unary s boolean unary.Plus a (Gives v) h i = signed_suits s a (λ z. Gives (Number z)) v h i (unary_value unary.Plus) (λ z. refl) (suits_number s a (integral_numeric s a h))
suits_unary s boolean unary.Minus a (Gives v) h i = signed_suits s a (λ z. computed (negation_of z)) v h i (unary_value unary.Minus) (λ z. refl) (λ z. suits_computed s a (integral_numeric s a h) (negation_of z))
suits_unary s boolean unary.Abs a (Gives v) h i = signed_suits s a (λ z. computed (absolute_of z)) v h i (unary_value unary.Abs) (λ z. refl) (λ z. suits_computed s a (integral_numeric s a h) (absolute_of z))

unary_known : (s : Scope) (operator : UnaryOperator) (a : Own) → has_unary s operator a ≡ true → is_known a ≡ true → is_known (unary_own s operator a) ≡ true
unary_known s unary.Not a h k = refl
unary_known s unary.Plus a h k = ap is_known (integral_kept s a h) ∙ k
unary_known s unary.Minus a h k = ap is_known (integral_kept s a h) ∙ k
unary_known s unary.Abs a h k = ap is_known (integral_kept s a h) ∙ k

-- ---- if expressions

-- a value of one type is one of another
abbrev Into : Scope → Own → Own → Type 0
Into s a own = (v : Val Value) → suits s a v ≡ true → suits s own v ≡ true

numeric_into : (s : Scope) (a own : Own) → is_numeric s a ≡ true → is_numeric s own ≡ true → Into s a own
numeric_into s a own h k (Gives v) i = numeric_value s own k v ∙ sym (numeric_value s a h v) ∙ i
numeric_into s a own h k (Raises x) i = refl
numeric_into s a own h k Meaningless i = cc

-- two parts with one type: both are known, and their values are of it
abbrev Joins : Scope → Own → Own → Type 0
Joins s a b = (is_known a ≡ true) × (Into s a (join s a b)) × (Into s b (join s a b))

join_universal : (s : Scope) (n : ℕ) (x : Bool) → is_integers (form_at s n) ≡ x → is_known (cond x (Typed n) Unknown) ≡ true → (Into s Universal (cond x (Typed n) Unknown)) × (Into s (Typed n) (cond x (Typed n) Unknown))
join_universal s n true e h = (numeric_into s Universal (Typed n) refl (integral_numeric s (Typed n) e), λ v i. i)
join_universal s n false e h = cc

joins : (s : Scope) (a b : Own) → is_known (join s a b) ≡ true → Joins s a b
joins s Unknown b h = cc
joins s Universal Unknown h = cc
joins s Universal Universal h = (refl, (λ v i. i), (λ v i. i))
joins s Universal (Typed n) h = let j = join_universal s n (is_integers (form_at s n)) refl h in (refl, j.0, j.1)
joins s (Typed n) Unknown h = cc
joins s (Typed n) Universal h = let j = join_universal s n (is_integers (form_at s n)) refl h in (refl, j.1, j.0)
joins s (Typed n) (Typed m) h = by_test (nat_eq n m) refl h
  where
    by_test : (x : Bool) → nat_eq n m ≡ x → is_known (cond x (Typed n) Unknown) ≡ true → (is_known (Typed n) ≡ true) × (Into s (Typed n) (cond x (Typed n) Unknown)) × (Into s (Typed m) (cond x (Typed n) Unknown))
    by_test true e k = (refl, (λ v i. i), subst (λ o. Into s (Typed m) (Typed o)) (sym (same_number n m e)) (λ v i. i))
    by_test false e k = cc

-- all parts come into a type
abbrev AllInto : Scope → ElsifValueTrees → Own → Type 0
AllInto s NoElsifValues own = ⊤
AllInto s (MoreElsifValues condition value rest) own = (Into s (own_of s value) own) × AllInto s rest own

into_elsif : (s : Scope) (a : Own) (elsifs : ElsifValueTrees) → is_known (elsif_own_of s a elsifs) ≡ true
    → (is_known a ≡ true) × (Into s a (elsif_own_of s a elsifs)) × (AllInto s elsifs (elsif_own_of s a elsifs))
into_elsif s a NoElsifValues h = (h, (λ v i. i), tt)
into_elsif s a (MoreElsifValues condition value rest) h =
    let more = into_elsif s (join s a (own_of s value)) rest h in
    let j = joins s a (own_of s value) more.0 in
    (j.0, (λ v i. more.1 v (j.1 v i)), ((λ v i. more.1 v (j.2 v i)), more.2))

all_further : (s : Scope) (elsifs : ElsifValueTrees) (own further : Own) → AllInto s elsifs own → Into s own further → AllInto s elsifs further
all_further s NoElsifValues own further all into = tt
all_further s (MoreElsifValues condition value rest) own further all into = ((λ v i. into v (all.0 v i)), all_further s rest own further all.1 into)

-- typed, and as expected
pub record Expected (s : Scope) (w : Wanted) (own : Own) (v : Val Value) : Type 0 where
  pub typed : IsTyped s own v
  pub fitting : is_wanted s w own ≡ true

pub expected : (s : Scope) (w : Wanted) (own : Own) (place : ℕ) (v : Val Value) → IsTyped s own v → mismatch s w own place ≡ [] → Expected s w own v
expected s w own place v typed h = record { typed = typed; fitting = judged (is_known own) (is_wanted s w own) (unbroken 12 place (is_known own && not (is_wanted s w own)) h) typed.known }

-- the conditions and the values of elsif parts
abbrev pub AllTyped : Scope → Calls → Place → Wanted → ElsifValueTrees → Type 0
AllTyped s calls p w NoElsifValues = ⊤
AllTyped s calls p w (MoreElsifValues condition value rest) =
    (Expected s boolean_wanted (own_of s condition) (value_with calls p condition)) × (Expected s w (own_of s value) (value_with calls p value)) × (AllTyped s calls p w rest)

-- ---- conditions

abbrev is_meant : Val Bool → Bool
is_meant (Gives b) = true
is_meant (Raises x) = true
is_meant Meaningless = false

boolean_suits : (s : Scope) → Boolean s → (own : Own) (v : Val Value) → Expected s boolean_wanted own v → suits s (Typed boolean_type) v ≡ true
boolean_suits s boolean Unknown v e = let k = e.typed.known in cc
boolean_suits s boolean Universal v e = absurd (integers_not_boolean (form_at s boolean_type) e.fitting (boolean_is s boolean))
boolean_suits s boolean (Typed m) v e = subst (λ n. suits s (Typed n) v ≡ true) (sym (same_number boolean_type m e.fitting)) e.typed.suited

truth_meant : (s : Scope) → Boolean s → (v : Val Value) → suits s (Typed boolean_type) v ≡ true → is_meant (and_then v truth_of) ≡ true
truth_meant s boolean (Gives x) h = let t = as_truth s (Typed boolean_type) x (boolean_is s boolean) h in ap (λ y. is_meant (truth_of y)) t.1
truth_meant s boolean (Raises x) h = refl
truth_meant s boolean Meaningless h = cc

condition_meant : (s : Scope) → Boolean s → (own : Own) (v : Val Value) → Expected s boolean_wanted own v → is_meant (and_then v truth_of) ≡ true
condition_meant s boolean own v e = truth_meant s boolean v (boolean_suits s boolean own v e)

-- ---- the values of if expressions

abbrev suits_found : Scope → Own → Val (Option Value) → Bool
suits_found s own (Gives (Some v)) = is_value_of s own v
suits_found s own (Gives None) = true
suits_found s own (Raises x) = true
suits_found s own Meaningless = false

found_value : (s : Scope) (own : Own) (v : Val Value) → suits s own v ≡ true → suits_found s own (and_then v (λ x. Gives (Some x))) ≡ true
found_value s own (Gives x) h = h
found_value s own (Raises x) h = refl
found_value s own Meaningless h = cc

found_chosen : (s : Scope) (own : Own) (c : Val Bool) (one other : Val (Option Value)) → is_meant c ≡ true → suits_found s own one ≡ true → suits_found s own other ≡ true
    → suits_found s own (and_then c (λ holds. elim holds [ true ↦ one | false ↦ other ])) ≡ true
found_chosen s own (Gives true) one other h i j = i
found_chosen s own (Gives false) one other h i j = j
found_chosen s own (Raises x) one other h i j = refl
found_chosen s own Meaningless one other h i j = cc

chosen_suits : (s : Scope) (own : Own) (c : Val Bool) (one other : Val Value) → is_meant c ≡ true → suits s own one ≡ true → suits s own other ≡ true
    → suits s own (and_then c (λ holds. elim holds [ true ↦ one | false ↦ other ])) ≡ true
chosen_suits s own (Gives true) one other h i j = i
chosen_suits s own (Gives false) one other h i j = j
chosen_suits s own (Raises x) one other h i j = refl
chosen_suits s own Meaningless one other h i j = cc

found_or : (s : Scope) (own : Own) (f : Val (Option Value)) (last : Val Value) → suits_found s own f ≡ true → suits s own last ≡ true
    → suits s own (and_then f (λ found. elim found [ Some v ↦ Gives v | None ↦ last ])) ≡ true
found_or s own (Gives (Some v)) last h i = h
found_or s own (Gives None) last h i = i
found_or s own (Raises x) last h i = refl
found_or s own Meaningless last h i = cc

elsifs_suit : (s : Scope) (calls : Calls) (p : Place) (w : Wanted) → Boolean s → (elsifs : ElsifValueTrees) (own : Own) → AllTyped s calls p w elsifs → AllInto s elsifs own → suits_found s own (elsif_with calls p elsifs) ≡ true
elsifs_suit s calls p w boolean NoElsifValues own all into = refl
elsifs_suit s calls p w boolean (MoreElsifValues condition value rest) own all into =
    found_chosen s own (and_then (value_with calls p condition) truth_of) (and_then (value_with calls p value) (λ v. Gives (Some v))) (elsif_with calls p rest)
    (condition_meant s boolean (own_of s condition) (value_with calls p condition) all.0)
    (found_value s own (value_with calls p value) (into.0 (value_with calls p value) all.1.typed.suited))
    (elsifs_suit s calls p w boolean rest own all.2 into.1)

-- ---- the parts of a legal if expression have one type

abbrev Of : Scope → ℕ → Own → Type 0
Of s n a = (is_known a ≡ true) × (is_wanted s (OfType n) a ≡ true)

of_typed : (s : Scope) (n m : ℕ) (x : Bool) → x ≡ true → nat_eq n m ≡ true → Of s n (cond x (Typed m) Unknown)
of_typed s n m true e h = (refl, h)
of_typed s n m false e h = cc

nat_eq_same : (n m k : ℕ) → nat_eq n m ≡ true → nat_eq n k ≡ true → nat_eq m k ≡ true
nat_eq_same n m k h i = grind (arith, h, i)

of_join : (s : Scope) (n : ℕ) (a b : Own) → Of s n a → Of s n b → Of s n (join s a b)
of_join s n Unknown b i j = let k = i.0 in cc
of_join s n Universal Unknown i j = let k = j.0 in cc
of_join s n Universal Universal i j = (refl, i.1)
of_join s n Universal (Typed m) i j = of_typed s n m (is_integers (form_at s m)) (ap (λ k. is_integers (form_at s k)) (sym (same_number n m j.1)) ∙ i.1) j.1
of_join s n (Typed m) Unknown i j = let k = j.0 in cc
of_join s n (Typed m) Universal i j = of_typed s n m (is_integers (form_at s m)) (ap (λ k. is_integers (form_at s k)) (sym (same_number n m i.1)) ∙ j.1) i.1
of_join s n (Typed m) (Typed k) i j = of_typed s n m (nat_eq m k) (nat_eq_same n m k i.1 j.1) i.1

of_elsif : (s : Scope) (calls : Calls) (p : Place) (n : ℕ) (elsifs : ElsifValueTrees) (a : Own) → Of s n a → AllTyped s calls p (OfType n) elsifs → Of s n (elsif_own_of s a elsifs)
of_elsif s calls p n NoElsifValues a i all = i
of_elsif s calls p n (MoreElsifValues condition value rest) a i all = of_elsif s calls p n rest (join s a (own_of s value)) (of_join s n a (own_of s value) i (all.1.typed.known, all.1.fitting)) all.2

abbrev is_typed : Own → Bool
is_typed (Typed n) = true
is_typed own = false

untyped_first : (a b : Own) → is_typed (or_first a b) ≡ false → (is_typed a ≡ false) × (is_typed b ≡ false)
untyped_first (Typed n) b h = cc
untyped_first Universal b h = (refl, h)
untyped_first Unknown b h = (refl, h)

universal_is : (a : Own) → is_known a ≡ true → is_typed a ≡ false → a ≡ Universal
universal_is Unknown h k = cc
universal_is Universal h k = refl
universal_is (Typed n) h k = cc

universal_elsif : (s : Scope) (calls : Calls) (p : Place) (w : Wanted) (elsifs : ElsifValueTrees) (last : Own) → AllTyped s calls p w elsifs → is_typed (first_typed s elsifs last) ≡ false
    → (elsif_own_of s Universal elsifs ≡ Universal) × (is_typed last ≡ false)
universal_elsif s calls p w NoElsifValues last all h = (refl, h)
universal_elsif s calls p w (MoreElsifValues condition value rest) last all h =
    let u = untyped_first (own_of s value) (first_typed s rest last) h in
    let one = universal_is (own_of s value) all.1.typed.known u.0 in
    let more = universal_elsif s calls p w rest last all.2 u.1 in
    (ap (λ o. elsif_own_of s (join s Universal o) rest) one ∙ more.0, more.1)

-- where one type is expected of each part, or where none of them has a type by itself
parts_of : (s : Scope) (calls : Calls) (p : Place) (n : ℕ) (value last : ExprTree) (elsifs : ElsifValueTrees)
    → Expected s (OfType n) (own_of s value) (value_with calls p value) → AllTyped s calls p (OfType n) elsifs → Expected s (OfType n) (own_of s last) (value_with calls p last)
    → is_known (parts_own s value elsifs last) ≡ true
parts_of s calls p n value last elsifs a all b =
    (of_join s n (elsif_own_of s (own_of s value) elsifs) (own_of s last) (of_elsif s calls p n elsifs (own_of s value) (a.typed.known, a.fitting) all) (b.typed.known, b.fitting)).0

parts_universal : (s : Scope) (calls : Calls) (p : Place) (w : Wanted) (value last : ExprTree) (elsifs : ElsifValueTrees)
    → is_typed (or_first (own_of s value) (first_typed s elsifs (own_of s last))) ≡ false
    → Expected s w (own_of s value) (value_with calls p value) → AllTyped s calls p w elsifs → Expected s w (own_of s last) (value_with calls p last)
    → is_known (parts_own s value elsifs last) ≡ true
parts_universal s calls p w value last elsifs h a all b =
    let u = untyped_first (own_of s value) (first_typed s elsifs (own_of s last)) h in
    let first = universal_is (own_of s value) a.typed.known u.0 in
    let more = universal_elsif s calls p w elsifs (own_of s last) all u.1 in
    let end = universal_is (own_of s last) b.typed.known more.1 in
    let middle = ap (λ o. elsif_own_of s o elsifs) first ∙ more.0 in
    let whole : parts_own s value elsifs last ≡ Universal = λ j. join s (middle j) (end j) in
    ap is_known whole

-- what each part is legal for
pub record Parts (s : Scope) (calls : Calls) (p : Place) (value last : ExprTree) (elsifs : ElsifValueTrees) (w : Wanted) : Type 0 where
  pub first : Expected s w (own_of s value) (value_with calls p value)
  pub middle : AllTyped s calls p w elsifs
  pub end : Expected s w (own_of s last) (value_with calls p last)

first_known : (s : Scope) (calls : Calls) (p : Place) (value last : ExprTree) (elsifs : ElsifValueTrees) (first : Own) → or_first (own_of s value) (first_typed s elsifs (own_of s last)) ≡ first
    → Parts s calls p value last elsifs (typed_wanted first) → is_known (parts_own s value elsifs last) ≡ true
first_known s calls p value last elsifs (Typed n) e all = parts_of s calls p n value last elsifs all.first all.middle all.end
first_known s calls p value last elsifs Universal e all = parts_universal s calls p Anything value last elsifs (ap is_typed e) all.first all.middle all.end
first_known s calls p value last elsifs Unknown e all = parts_universal s calls p Anything value last elsifs (ap is_typed e) all.first all.middle all.end

parts_known : (s : Scope) (calls : Calls) (p : Place) (value last : ExprTree) (elsifs : ElsifValueTrees) (w : Wanted) (own : Own) → parts_own s value elsifs last ≡ own
    → Parts s calls p value last elsifs (parts_wanted own w (or_first (own_of s value) (first_typed s elsifs (own_of s last)))) → is_known (parts_own s value elsifs last) ≡ true
parts_known s calls p value last elsifs w Universal e all = ap is_known e
parts_known s calls p value last elsifs w (Typed n) e all = ap is_known e
parts_known s calls p value last elsifs (OfType n) Unknown e all = parts_of s calls p n value last elsifs all.first all.middle all.end
parts_known s calls p value last elsifs Anything Unknown e all = first_known s calls p value last elsifs (or_first (own_of s value) (first_typed s elsifs (own_of s last))) refl all
parts_known s calls p value last elsifs AnyInteger Unknown e all = first_known s calls p value last elsifs (or_first (own_of s value) (first_typed s elsifs (own_of s last))) refl all

pub conditional_typed : (s : Scope) (calls : Calls) (p : Place) → Boolean s → (place : ℕ) (condition value last : ExprTree) (elsifs : ElsifValueTrees) (w : Wanted)
    → Expected s boolean_wanted (own_of s condition) (value_with calls p condition) → Parts s calls p value last elsifs (conditional_wanted s w value elsifs last)
    → IsTyped s (own_of s (Conditional place condition value elsifs last)) (value_with calls p (Conditional place condition value elsifs last))
conditional_typed s calls p boolean place condition value last elsifs w holds all =
    let known = parts_known s calls p value last elsifs w (parts_own s value elsifs last) refl all in
    let ends = joins s (elsif_own_of s (own_of s value) elsifs) (own_of s last) known in
    let inside = into_elsif s (own_of s value) elsifs ends.0 in
    let own = parts_own s value elsifs last in
    let one = ends.1 (value_with calls p value) (inside.1 (value_with calls p value) all.first.typed.suited) in
    let other = ends.2 (value_with calls p last) all.end.typed.suited in
    let middle = elsifs_suit s calls p (conditional_wanted s w value elsifs last) boolean elsifs own all.middle (all_further s elsifs (elsif_own_of s (own_of s value) elsifs) own inside.2 ends.1) in
    record {
      known = known;
      suited =
          chosen_suits s own (and_then (value_with calls p condition) truth_of) (value_with calls p value)
          (and_then (elsif_with calls p elsifs) (λ found. elim found [ Some v ↦ Gives v | None ↦ value_with calls p last ]))
          (condition_meant s boolean (own_of s condition) (value_with calls p condition) holds) one (found_or s own (elsif_with calls p elsifs) (value_with calls p last) middle other);
    }

pub unary_typed : (s : Scope) (calls : Calls) (p : Place) → Boolean s → (operator : UnaryOperator) (place : ℕ) (e : ExprTree) → IsTyped s (own_of s e) (value_with calls p e) → unary_rule s operator place (own_of s e) ≡ []
    → IsTyped s (unary_own s operator (own_of s e)) (and_then (value_with calls p e) (unary_value operator))
unary_typed s calls p boolean operator place e one h =
    let has = judged (is_known (own_of s e)) (has_unary s operator (own_of s e)) (unbroken 12 place (is_known (own_of s e) && not (has_unary s operator (own_of s e))) h) one.known in
    record { known = unary_known s operator (own_of s e) has one.known; suited = suits_unary s boolean operator (own_of s e) (value_with calls p e) has one.suited }

pub binary_typed : (s : Scope) (calls : Calls) (p : Place) → Boolean s → Behind s → (operator : BinaryOperator) (place : ℕ) (a b : ExprTree) → IsTyped s (own_of s a) (value_with calls p a) → IsTyped s (own_of s b) (value_with calls p b)
    → binary_rule s operator place (own_of s a) (own_of s b) ≡ [] → IsTyped s (own_of s (Binary operator a b)) (value_with calls p (Binary operator a b))
binary_typed s calls p boolean behind operator place a b left right h =
    let test = is_known (own_of s a) && (is_known (own_of s b) && not (has_binary s operator (own_of s a) (own_of s b))) in
    let has = judged_two (is_known (own_of s a)) (is_known (own_of s b)) (has_binary s operator (own_of s a) (own_of s b)) (unbroken 12 place test h) left.known right.known in
    record {
      known = pair_known s operator (own_of s a) (own_of s b) (is_logical operator) (is_relation operator) has;
      suited = suits_pair s boolean behind operator (own_of s a) (own_of s b) (value_with calls p a) (value_with calls p b) has left.suited right.suited;
    }

mutual
  pub typed_values : TypedValues
  typed_values s calls p names (tree.Number z place) w h = record { known = refl; suited = refl }
  typed_values s calls p names (Named first selectors) w h = names.each first selectors w h
  typed_values s calls p names (Parenthesized place e) w h = typed_values s calls p names e w h
  typed_values s calls p names (Unary operator place e) w h =
      let inside = faults_in s (below operator w) e in
      let broken = unary_rule s operator place (own_of s e) in
      unary_typed s calls p names.boolean operator place e (typed_values s calls p names e (below operator w) (front_empty inside broken h)) (back_empty inside broken h)
  typed_values s calls p names (Binary operator a b) w h =
      let wa = beside s operator (own_of s b) in
      let wb = beside s operator (own_of s a) in
      let broken = binary_rule s operator (start_of a) (own_of s a) (own_of s b) in
      let two = front_empty (faults_in s wa a ++ faults_in s wb b) broken h in
      binary_typed s calls p names.boolean names.span operator (start_of a) a b (typed_values s calls p names a wa (front_empty (faults_in s wa a) (faults_in s wb b) two))
      (typed_values s calls p names b wb (back_empty (faults_in s wa a) (faults_in s wb b) two)) (back_empty (faults_in s wa a ++ faults_in s wb b) broken h)
  typed_values s calls p names (Conditional place condition value elsifs last) w h =
      let inner = conditional_wanted s w value elsifs last in
      let c = faults_in s boolean_wanted condition in
      let cm = mismatch s boolean_wanted (own_of s condition) (start_of condition) in
      let v = faults_in s inner value in
      let vm = mismatch s inner (own_of s value) (start_of value) in
      let m = elsif_faults s inner elsifs in
      let l = faults_in s inner last in
      let lm = mismatch s inner (own_of s last) (start_of last) in
      let three = front_empty ((c ++ cm) ++ (v ++ vm) ++ m) (l ++ lm) h in
      let four = back_empty ((c ++ cm) ++ (v ++ vm) ++ m) (l ++ lm) h in
      let two = front_empty ((c ++ cm) ++ (v ++ vm)) m three in
      let first = front_empty (c ++ cm) (v ++ vm) two in
      let second = back_empty (c ++ cm) (v ++ vm) two in
      conditional_typed s calls p names.boolean place condition value last elsifs w
      (expected s boolean_wanted (own_of s condition) (start_of condition) (value_with calls p condition) (typed_values s calls p names condition boolean_wanted (front_empty c cm first)) (back_empty c cm first))
      (record {
        first = expected s inner (own_of s value) (start_of value) (value_with calls p value) (typed_values s calls p names value inner (front_empty v vm second)) (back_empty v vm second);
        middle = typed_elsifs s calls p names elsifs inner (back_empty ((c ++ cm) ++ (v ++ vm)) m three);
        end = expected s inner (own_of s last) (start_of last) (value_with calls p last) (typed_values s calls p names last inner (front_empty l lm four)) (back_empty l lm four);
      })

  typed_elsifs : (s : Scope) (calls : Calls) (p : Place) → AreTyped s calls p → (elsifs : ElsifValueTrees) (w : Wanted) → elsif_faults s w elsifs ≡ [] → AllTyped s calls p w elsifs
  typed_elsifs s calls p names NoElsifValues w h = tt
  typed_elsifs s calls p names (MoreElsifValues condition value rest) w h =
      let c = faults_in s boolean_wanted condition in
      let cm = mismatch s boolean_wanted (own_of s condition) (start_of condition) in
      let v = faults_in s w value in
      let vm = mismatch s w (own_of s value) (start_of value) in
      let m = elsif_faults s w rest in
      let two = front_empty ((c ++ cm) ++ (v ++ vm)) m h in
      let first = front_empty (c ++ cm) (v ++ vm) two in
      let second = back_empty (c ++ cm) (v ++ vm) two in (
        expected s boolean_wanted (own_of s condition) (start_of condition) (value_with calls p condition) (typed_values s calls p names condition boolean_wanted (front_empty c cm first)) (back_empty c cm first),
        expected s w (own_of s value) (start_of value) (value_with calls p value) (typed_values s calls p names value w (front_empty v vm second)) (back_empty v vm second),
        typed_elsifs s calls p names rest w (back_empty ((c ++ cm) ++ (v ++ vm)) m h),
      )
