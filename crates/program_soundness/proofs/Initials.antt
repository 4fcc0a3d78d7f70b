-- Initial values that must be static, and break no rule, are known, and values of their type.
use Rattle.std.proofs.Common.{◌≡◌, ◌++◌, ℕ, ℤ, [], ◌∷◌, Bool, true, false, not, ◌&&◌, ◌⊎◌, inl, inr, pos, Option, Some, None, Ok, Err, refl, sym, ap, ◌∙◌, subst}
use Rattle.std.specs.Prelude.{nat_eq}
use Rattle.expr_soundness.specs.base.specs.Arithmetic.{Checked, absolute_of, difference_of, modulus_of, negation_of, product_of, quotient_of, remainder_of, sum_of}
use Rattle.expr_soundness.specs.base.specs.declared.faults.TheConstants.{NAME_NOT_VISIBLE, NO_MEANING}
use Rattle.expr_soundness.specs.ada_tree.specs.declared.expression.Identifier.{Identifier}
use Rattle.expr_soundness.specs.ada_tree.specs.declared.expression.UnaryOperator.{UnaryOperator}
use Rattle.expr_soundness.specs.ada_tree.specs.declared.expression.UnaryOperator.TheVariants as unary
use Rattle.expr_soundness.specs.ada_tree.specs.declared.expression.BinaryOperator.{BinaryOperator}
use Rattle.expr_soundness.specs.ada_tree.specs.declared.expression.BinaryOperator.TheVariants as binary
use Rattle.expr_soundness.specs.ada_tree.specs.ExpressionTree as tree
use Rattle.expr_soundness.specs.ada_tree.specs.ExpressionTree.{ExprTree, Named, Parenthesized, Conditional, Unary, Binary, SelectorTrees, NoSelectors, MoreSelectors, Arguments, NoArguments, MoreArguments}
use Rattle.types.specs.declared.entity.Subtype.{Subtype}
use Rattle.types.specs.declared.entity.Value.{Value as Scalar}
use Rattle.types.specs.declared.entity.Value.TheVariants as scalar
use Rattle.types.specs.declared.entity.PredefinedOperation.{PredefinedOperation}
use Rattle.types.specs.declared.entity.PredefinedOperation.TheVariants as predefined
use Rattle.types.specs.declared.standing.Callee.TheVariants as callee
use Rattle.types.specs.declared.standing.Standing.TheVariants as standing
use Rattle.types.specs.declared.statics.StaticForm.{StaticForm}
use Rattle.types.specs.declared.statics.StaticForm.TheVariants.{Static, NotStatic, Doubtful}
use Rattle.types.specs.Entities.{Entity, Predefined, Profile}
use Rattle.types.specs.Scopes.{Scope, entity_at, form_at, integer_type, is_visible, number_of, profile_of}
use Rattle.types.specs.Standings.{call_stands, callee_profile, result_stands, select, select_all, settle, standing_of, stands_first, stands_for}
use Rattle.types.specs.Shapes.{has_shape, shape_of}
use Rattle.types.specs.Values.{Value, Number, Truth, Array, Record, value_of}
use Rattle.types.specs.Evaluations.{Val, Gives, Raises, Meaningless, and_then, computed}
use Rattle.types.specs.Operators.{binary_value, is_decided, unary_value}
use Rattle.types.specs.Places.{meaning_of}
use Rattle.types.specs.Evaluating.{name_with}
use Rattle.types.specs.Statics.{no_calls, start_of, static_form, static_place, static_value}
use Rattle.expr_soundness.specs.expr_rules.specs.declared.own.Own.{Own}
use Rattle.expr_soundness.specs.expr_rules.specs.declared.own.Own.TheVariants.{Unknown, Universal, Typed}
use Rattle.expr_soundness.specs.expr_rules.specs.declared.own.Wanted.TheVariants as wanted
use Rattle.expr_soundness.specs.expr_rules.specs.declared.names.Slot.TheVariants.{Expects}
use Rattle.expr_soundness.specs.expr_rules.specs.Faults.{Faults, rule}
use Rattle.expr_soundness.specs.expr_rules.specs.Typing.{is_integers, is_known, is_spans, is_times, is_wanted, own_of, own_of_standing}
use Rattle.expr_soundness.specs.expr_rules.specs.NameRules.{call_slot, mismatch, part_rule, slot_at, value_rule}
use Rattle.expr_soundness.specs.expr_rules.specs.ExpressionRules.{argument_faults, arguments_faults, faults_in, faults_of, selector_faults, selectors_faults}
use Rattle.expr_soundness.specs.expr_rules.specs.Laws.{is_value_of, type_shape}
use Rattle.expr_soundness.specs.expr_rules.specs.StaticRules.{form_rule, if_unbroken, static_faults, static_scalar}
use Rattle.expr_soundness.specs.expr_rules.specs.StaticRules as statics
use Rattle.expr_soundness.specs.expr_rules.proofs.TypedLaw.{back_empty, front_empty, integral_numeric, judged, same_number, span_numeric, suits_number, time_numeric, unbroken}
use Rattle.expr_soundness.specs.type_rules.specs.SubtypeNames.{entity_at_or_none, named_entity, wanted_by}
use Rattle.expr_soundness.specs.type_rules.specs.ObjectRules.{called_faults, called_scalar, computed_faults, fixed_faults, fixed_scalar, fixed_value, is_clock, is_clock_entity, known_scalar, scalar_if_unbroken, scalar_of, single_argument, span_by, span_call, span_faults, span_of, span_of_scalar, span_rule, span_value}
use Rattle.expr_soundness.specs.SoundScopes.{HasOperation, IsSoundPredefined, SoundScope, integer_formal}
use Rattle.expr_soundness.proofs.Parts.{subtype_values}
use Rattle.program_soundness.proofs.Statics.{IsStatic, both_left, must_be_static, static_name, static_number}

-- ---- static values are scalar

abbrev pub is_scalar_value : Value → Bool
is_scalar_value (Number z) = true
is_scalar_value (Truth b) = true
is_scalar_value v = false

abbrev pub gives_scalar : Val Value → Bool
gives_scalar (Gives v) = is_scalar_value v
gives_scalar v = true

computed_scalar : (r : Checked) → gives_scalar (computed r) ≡ true
computed_scalar (Ok z) = refl
computed_scalar (Err x) = refl

unary_scalar : (operator : UnaryOperator) (v : Value) → gives_scalar (unary_value operator v) ≡ true
unary_scalar unary.Plus (Number z) = refl
unary_scalar unary.Minus (Number z) = computed_scalar (negation_of z)
unary_scalar unary.Abs (Number z) = computed_scalar (absolute_of z)
unary_scalar unary.Not (Truth b) = refl
unary_scalar operator v = refl

binary_scalar : (operator : BinaryOperator) (v w : Value) → gives_scalar (binary_value operator v w) ≡ true
binary_scalar binary.Add (Number x) (Number y) = computed_scalar (sum_of x y)
binary_scalar binary.Subtract (Number x) (Number y) = computed_scalar (difference_of x y)
binary_scalar binary.Multiply (Number x) (Number y) = computed_scalar (product_of x y)
binary_scalar binary.Divide (Number x) (Number y) = computed_scalar (quotient_of x y)
binary_scalar binary.Mod (Number x) (Number y) = computed_scalar (modulus_of x y)
binary_scalar binary.Rem (Number x) (Number y) = computed_scalar (remainder_of x y)
binary_scalar binary.Equal (Number x) (Number y) = refl
binary_scalar binary.NotEqual (Number x) (Number y) = refl
binary_scalar binary.Less (Number x) (Number y) = refl
binary_scalar binary.LessOrEqual (Number x) (Number y) = refl
binary_scalar binary.Greater (Number x) (Number y) = refl
binary_scalar binary.GreaterOrEqual (Number x) (Number y) = refl
binary_scalar binary.Equal (Truth x) (Truth y) = refl
binary_scalar binary.NotEqual (Truth x) (Truth y) = refl
binary_scalar binary.Less (Truth x) (Truth y) = refl
binary_scalar binary.LessOrEqual (Truth x) (Truth y) = refl
binary_scalar binary.Greater (Truth x) (Truth y) = refl
binary_scalar binary.GreaterOrEqual (Truth x) (Truth y) = refl
binary_scalar binary.And (Truth x) (Truth y) = refl
binary_scalar binary.Or (Truth x) (Truth y) = refl
binary_scalar binary.Xor (Truth x) (Truth y) = refl
binary_scalar binary.AndThen (Truth x) (Truth y) = refl
binary_scalar binary.OrElse (Truth x) (Truth y) = refl
binary_scalar operator v w = refl

one_scalar : (operator : UnaryOperator) (x : Val Value) → gives_scalar (and_then x (unary_value operator)) ≡ true
one_scalar operator (Gives v) = unary_scalar operator v
one_scalar operator (Raises x) = refl
one_scalar operator Meaningless = refl

second_scalar : (operator : BinaryOperator) (v : Value) (y : Val Value) → gives_scalar (and_then y (binary_value operator v)) ≡ true
second_scalar operator v (Gives w) = binary_scalar operator v w
second_scalar operator v (Raises x) = refl
second_scalar operator v Meaningless = refl

two_scalar : (operator : BinaryOperator) (x y : Val Value) → gives_scalar x ≡ true
    → gives_scalar (and_then x (λ v. elim (is_decided operator v) [ true ↦ Gives v | false ↦ and_then y (binary_value operator v) ])) ≡ true
two_scalar operator (Gives v) y h = by_test (is_decided operator v)
  where
    by_test : (b : Bool) → gives_scalar (elim b [ true ↦ Gives v | false ↦ and_then y (binary_value operator v) ]) ≡ true
    by_test true = h
    by_test false = second_scalar operator v y
two_scalar operator (Raises x) y h = refl
two_scalar operator Meaningless y h = refl

fixed_scalar_value : (c : Scalar) → is_scalar_value (value_of c) ≡ true
fixed_scalar_value (scalar.Number z) = refl
fixed_scalar_value (scalar.Truth b) = refl

pub known_value : (v : Value) → is_scalar_value v ≡ true → (c : Scalar) × (known_scalar (Some v) ≡ Some c) × (value_of c ≡ v)
known_value (Number z) h = (scalar.Number z, refl, refl)
known_value (Truth b) h = (scalar.Truth b, refl, refl)
known_value (Array vs) h = cc
known_value (Record fs) h = cc

pub static_is_scalar : (s : Scope) (e : ExprTree) → static_form s e ≡ Static → gives_scalar (static_value s e) ≡ true
static_is_scalar s (tree.Number z place) h = refl
static_is_scalar s (Named first selectors) h =
    let v = static_name (standing_of s first selectors) h in
    subst (λ o. gives_scalar (elim o [ Some c ↦ Gives (value_of c) | None ↦ name_with no_calls (static_place s) (meaning_of (static_place s) first.name) selectors ]) ≡ true) (sym v.1)
    (fixed_scalar_value v.0)
static_is_scalar s (Parenthesized place e) h = static_is_scalar s e h
static_is_scalar s (Unary operator place e) h = one_scalar operator (static_value s e)
static_is_scalar s (Binary operator a b) h = two_scalar operator (static_value s a) (static_value s b) (static_is_scalar s a (both_left (static_form s a) (static_form s b) h))
static_is_scalar s (Conditional place condition value elsifs last) h = cc

-- ---- values of the type that is expected

pub of_wanted : (s : Scope) (n : ℕ) (own : Own) (v : Value) → is_known own ≡ true → is_wanted s (wanted.OfType n) own ≡ true → is_value_of s own v ≡ true
    → has_shape (type_shape s n) v ≡ true
of_wanted s n Unknown v k h i = cc
of_wanted s n Universal (Number z) k h i = suits_number s (Typed n) (integral_numeric s (Typed n) h) z
of_wanted s n Universal (Truth b) k h i = cc
of_wanted s n Universal (Array vs) k h i = cc
of_wanted s n Universal (Record fs) k h i = cc
of_wanted s n (Typed m) v k h i = subst (λ a. has_shape (type_shape s a) v ≡ true) (sym (same_number n m h)) i

-- ---- the operations of Ada.Real_Time, and a call with one actual

abbrev pub is_now : PredefinedOperation → Bool
is_now predefined.Clock = true
is_now o = false

abbrev pub is_span : PredefinedOperation → Bool
is_span predefined.Milliseconds = true
is_span predefined.Microseconds = true
is_span o = false

abbrev pub with_argument : ExprTree → SelectorTrees
with_argument a = MoreSelectors (Arguments (MoreArguments (tree.Value a) NoArguments)) NoSelectors

-- ---- the whole

module _ (s : Scope) (sound : SoundScope s) where
  pub record IsInitial (t : Subtype) (e : ExprTree) : Type 0 where
    pub value : Scalar
    pub is : fixed_scalar s (Some t) e ≡ Some value
    pub suited : has_shape (shape_of s t) (value_of value) ≡ true

  -- what an operation of the language gives is of the type that is expected
  given_type : (w n : ℕ) (place : ℕ) → mismatch s (wanted.OfType w) (Typed n) place ≡ [] → w ≡ n
  given_type w n place h = same_number w n (judged true (nat_eq w n) (unbroken NO_MEANING place (true && not (nat_eq w n)) h) refl)

  -- the name of an operation of the language
  pub record IsOperation (first : Identifier) (test : PredefinedOperation → Bool) : Type 0 where
    pub number : ℕ
    pub operation : PredefinedOperation
    pub profile : Profile
    pub numbered : number_of s first.name ≡ Some number
    pub stands : entity_at s number ≡ Some (Predefined operation profile)
    pub passes : test operation ≡ true

  stands_callee : (first : Identifier) (test : PredefinedOperation → Bool) (o : IsOperation first test)
      → stands_first s (number_of s first.name) ≡ standing.Callee (callee.Direct o.number)
  stands_callee first test o = ap (stands_first s) o.numbered ∙ ap (stands_for o.number) o.stands

  -- ---- `Clock`

  pub clock_operation : (first : Identifier) → is_clock_entity (named_entity s first) ≡ true → IsOperation first is_now
  clock_operation first h = by_number (number_of s first.name) refl h
    where
      by_entity : (n : ℕ) (o : Option Entity) → number_of s first.name ≡ Some n → entity_at s n ≡ o → is_clock_entity o ≡ true → IsOperation first is_now
      by_entity n (Some (Predefined predefined.Clock p)) is at k =
          record { number = n; operation = predefined.Clock; profile = p; numbered = is; stands = at; passes = refl }
      by_entity n o is at k = cc

      by_number : (o : Option ℕ) → number_of s first.name ≡ o → is_clock_entity (entity_at_or_none s o) ≡ true → IsOperation first is_now
      by_number (Some n) is k = by_entity n (entity_at s n) is refl k
      by_number None is k = cc

  clock_profile : (first : Identifier) → (o : IsOperation first is_now) → HasOperation s [] is_times o.profile
  clock_profile first o = by_operation o.operation o.passes (sound.each o.number (Predefined o.operation o.profile) o.stands)
    where
      by_operation : (x : PredefinedOperation) → is_now x ≡ true → IsSoundPredefined s x o.profile → HasOperation s [] is_times o.profile
      by_operation predefined.Clock h k = k
      by_operation predefined.Milliseconds h k = cc
      by_operation predefined.Microseconds h k = cc
      by_operation predefined.Read h k = cc

  pub clock_type : (n : ℕ) (e : ExprTree) → is_clock s e ≡ true → faults_of s (wanted.OfType n) e ≡ [] → is_times (form_at s n) ≡ true
  clock_type n (Named first NoSelectors) h k =
      let o = clock_operation first h in
      let x = clock_profile first o in
      let own : own_of s (Named first NoSelectors) ≡ Typed x.subtype.type_number =
      ap (λ w. own_of_standing (settle s w)) (stands_callee first is_now o) ∙ ap (λ y. own_of_standing (call_stands (profile_of y))) o.stands
      ∙ ap (λ r. own_of_standing (result_stands r)) x.result in
      let last = back_empty (faults_in s (wanted.OfType n) (Named first NoSelectors)) (mismatch s (wanted.OfType n) (own_of s (Named first NoSelectors)) first.place) k in
      let same = given_type n x.subtype.type_number first.place (sym (ap (λ a. mismatch s (wanted.OfType n) a first.place) own) ∙ last) in
      ap (λ m. is_times (form_at s m)) same ∙ x.form
  clock_type n e h k = cc

  -- ---- `Milliseconds (N)` and `Microseconds (N)`

  pub record IsSpanCall (e : ExprTree) (x : PredefinedOperation × ExprTree) : Type 0 where
    pub first : Identifier
    pub is : e ≡ Named first (with_argument x.1)
    pub callee : IsOperation first is_span
    pub same : callee.operation ≡ x.0

  pub single_cases : (selectors : SelectorTrees) → (single_argument selectors ≡ None) ⊎ ((a : ExprTree) × (selectors ≡ with_argument a))
  single_cases (MoreSelectors (Arguments (MoreArguments (tree.Value a) NoArguments)) NoSelectors) = inr (a, refl)
  single_cases (MoreSelectors (Arguments (MoreArguments (tree.Value a) (MoreArguments b rest))) NoSelectors) = inl refl
  single_cases (MoreSelectors (Arguments (MoreArguments (tree.Text label place) rest)) NoSelectors) = inl refl
  single_cases (MoreSelectors (Arguments NoArguments) NoSelectors) = inl refl
  single_cases (MoreSelectors (Arguments a) (MoreSelectors x rest)) = inl refl
  single_cases (MoreSelectors (tree.Component name) rest) = inl refl
  single_cases (MoreSelectors (tree.Attribute name) rest) = inl refl
  single_cases NoSelectors = inl refl

  pub span_none : (o : Option Entity) → span_by o None ≡ None
  span_none (Some (Predefined predefined.Milliseconds p)) = refl
  span_none (Some (Predefined predefined.Microseconds p)) = refl
  span_none o = refl

  same_call : (y x : PredefinedOperation × ExprTree) → Some y ≡ Some x → y ≡ x
  same_call y x k = let f : Option (PredefinedOperation × ExprTree) → PredefinedOperation × ExprTree = λ o. elim o [ Some z ↦ z | None ↦ y ] in ap f k

  span_of_call : (first : Identifier) (a : ExprTree) (x : PredefinedOperation × ExprTree) → span_by (named_entity s first) (Some a) ≡ Some x
      → IsSpanCall (Named first (with_argument a)) x
  span_of_call first a x h = by_number (number_of s first.name) refl h
    where
      call : (n : ℕ) (o : PredefinedOperation) (p : Profile) → number_of s first.name ≡ Some n → entity_at s n ≡ Some (Predefined o p) → is_span o ≡ true
          → (o, a) ≡ x → IsSpanCall (Named first (with_argument a)) x
      call n o p is at passes k =
          record {
            first = first;
            is = ap (λ y. Named first (with_argument y.1)) k;
            callee = record { number = n; operation = o; profile = p; numbered = is; stands = at; passes = passes };
            same = ap (λ y. y.0) k;
          }

      by_entity : (n : ℕ) (o : Option Entity) → number_of s first.name ≡ Some n → entity_at s n ≡ o → span_by o (Some a) ≡ Some x
          → IsSpanCall (Named first (with_argument a)) x
      by_entity n (Some (Predefined predefined.Milliseconds p)) is at k = call n predefined.Milliseconds p is at refl (same_call (predefined.Milliseconds, a) x k)
      by_entity n (Some (Predefined predefined.Microseconds p)) is at k = call n predefined.Microseconds p is at refl (same_call (predefined.Microseconds, a) x k)
      by_entity n o is at k = cc

      by_number : (o : Option ℕ) → number_of s first.name ≡ o → span_by (entity_at_or_none s o) (Some a) ≡ Some x → IsSpanCall (Named first (with_argument a)) x
      by_number (Some n) is k = by_entity n (entity_at s n) is refl k
      by_number None is k = cc

  pub span_is : (e : ExprTree) (x : PredefinedOperation × ExprTree) → span_call s e ≡ Some x → IsSpanCall e x
  span_is (Named first selectors) x h =
      elim (single_cases selectors) [
        | inl none ↦ (let never = sym (span_none (named_entity s first)) ∙ ap (span_by (named_entity s first)) (sym none) ∙ h in cc)
        | inr single ↦
            subst (λ l. IsSpanCall (Named first l) x) (sym single.1)
            (span_of_call first single.0 x (ap (λ l. span_by (named_entity s first) (single_argument l)) (sym single.1) ∙ h))
      ]
  span_is e x h = cc

  span_profile : (first : Identifier) (o : IsOperation first is_span) → HasOperation s (integer_formal ∷ []) is_spans o.profile
  span_profile first o = by_operation o.operation o.passes (sound.each o.number (Predefined o.operation o.profile) o.stands)
    where
      by_operation : (x : PredefinedOperation) → is_span x ≡ true → IsSoundPredefined s x o.profile → HasOperation s (integer_formal ∷ []) is_spans o.profile
      by_operation predefined.Milliseconds h k = k
      by_operation predefined.Microseconds h k = k
      by_operation predefined.Clock h k = cc
      by_operation predefined.Read h k = cc

  -- the type is a span of time, and the argument an Integer that breaks no rule
  pub record IsSpan (n : ℕ) (a : ExprTree) : Type 0 where
    pub form : is_spans (form_at s n) ≡ true
    pub argument : faults_of s (wanted.OfType integer_type) a ≡ []

  pub span_type : (n : ℕ) (first : Identifier) (a : ExprTree) → IsOperation first is_span → faults_of s (wanted.OfType n) (Named first (with_argument a)) ≡ []
      → IsSpan n a
  span_type n first a o h =
      let e = Named first (with_argument a) in
      let w = standing.Callee (callee.Direct o.number) in
      let x = span_profile first o in
      let is = stands_callee first is_span o in
      let profiled : callee_profile s (callee.Direct o.number) ≡ Some o.profile = ap profile_of o.stands in
      let own : own_of s e ≡ Typed x.subtype.type_number =
      ap (λ u. own_of_standing (select_all s u (with_argument a))) is ∙ ap (λ p. own_of_standing (settle s (call_stands p))) profiled
      ∙ ap (λ r. own_of_standing (settle s (result_stands r))) x.result in
      let inside = faults_in s (wanted.OfType n) e in
      let last = back_empty inside (mismatch s (wanted.OfType n) (own_of s e) first.place) h in
      let same = given_type n x.subtype.type_number first.place (sym (ap (λ b. mismatch s (wanted.OfType n) b first.place) own) ∙ last) in
      let hidden = rule NAME_NOT_VISIBLE first.place (not (is_visible s first.name)) in
      let parts = selectors_faults s first.place (stands_first s (number_of s first.name)) (with_argument a) in
      let whole = value_rule first.place (standing_of s first (with_argument a)) in
      let part = back_empty hidden parts (front_empty (hidden ++ parts) whole (front_empty inside (mismatch s (wanted.OfType n) (own_of s e) first.place) h)) in
      let here : selectors_faults s first.place w (with_argument a) ≡ [] = sym (ap (λ u. selectors_faults s first.place u (with_argument a)) is) ∙ part in
      let selected = selector_faults s first.place w (Arguments (MoreArguments (tree.Value a) NoArguments)) in
      let ended = selectors_faults s first.place (select s w (Arguments (MoreArguments (tree.Value a) NoArguments))) NoSelectors in
      let ruled = part_rule s first.place w (Arguments (MoreArguments (tree.Value a) NoArguments)) in
      let all = arguments_faults s w 0 (MoreArguments (tree.Value a) NoArguments) in
      let one = back_empty ruled all (front_empty selected ended here) in
      let slot : slot_at s w 0 ≡ Expects (wanted.OfType integer_type) = ap (λ p. call_slot p 0) profiled ∙ ap (λ f. call_slot (Some (record { formals = f; result = o.profile.result })) 0) x.takes in
      let argument = front_empty (argument_faults s (slot_at s w 0) (tree.Value a)) [] one in
      record {
        form = ap (λ m. is_spans (form_at s m)) same ∙ x.form;
        argument = sym (ap (λ l. argument_faults s l (tree.Value a)) slot) ∙ argument;
      }

  -- ---- what is known of the span

  pub form_anywhere : (p q : ℕ) (f : StaticForm) → form_rule p f ≡ [] → form_rule q f ≡ []
  form_anywhere p q NotStatic h = cc
  form_anywhere p q Static h = refl
  form_anywhere p q Doubtful h = refl

  pub value_anywhere : (p q : ℕ) (f : StaticForm) (v : Val Value) → statics.value_rule p None f v ≡ [] → statics.value_rule q None f v ≡ []
  value_anywhere p q Static (Gives v) h = refl
  value_anywhere p q Static (Raises x) h = cc
  value_anywhere p q Static Meaningless h = refl
  value_anywhere p q NotStatic v h = refl
  value_anywhere p q Doubtful v h = refl

  pub record HasSpan (operation : PredefinedOperation) (a : ExprTree) : Type 0 where
    pub argument : IsStatic s sound (wanted.OfType integer_type) None a
    pub number : ℤ
    pub is : span_value s operation a ≡ Gives (Number number)

  span_gives : (place : ℕ) (operation : PredefinedOperation) (z : ℤ) → span_rule place (span_of operation z) ≡ [] → (k : ℤ) × (span_of operation z ≡ Gives (Number k))
  span_gives place predefined.Milliseconds z h = by_result (product_of (pos 1000) z) h
    where
      by_result : (r : Checked) → span_rule place (computed r) ≡ [] → (k : ℤ) × (computed r ≡ Gives (Number k))
      by_result (Ok k) i = (k, refl)
      by_result (Err x) i = cc
  span_gives place predefined.Clock z h = (z, refl)
  span_gives place predefined.Microseconds z h = (z, refl)
  span_gives place predefined.Read z h = (z, refl)

  pub span_known : (place : ℕ) (operation : PredefinedOperation) (a : ExprTree) → faults_of s (wanted.OfType integer_type) a ≡ []
      → form_rule place (static_form s a) ≡ []
      → computed_faults s place operation a ≡ []
      → HasSpan operation a
  span_known place operation a h f k =
      let value = statics.value_rule place None (static_form s a) (static_value s a) in
      let raised = value_anywhere place (start_of a) (static_form s a) (static_value s a) (front_empty value (span_rule place (span_value s operation a)) k) in
      let span = back_empty value (span_rule place (span_value s operation a)) k in
      let form = form_anywhere place (start_of a) (static_form s a) f in
      let all : static_faults s (wanted.OfType integer_type) None a ≡ [] = λ j. h j ++ form j ++ if_unbroken (h j) (raised j) in
      let x = must_be_static s sound (wanted.OfType integer_type) None a all in
      let z = static_number s sound (wanted.OfType integer_type) None a (ap is_integers sound.integer) x in
      let is : span_value s operation a ≡ span_of operation z.0 = ap (span_of_scalar operation) z.1 in
      let y = span_gives place operation z.0 (sym (ap (span_rule place) is) ∙ span) in
      record { argument = x; number = y.0; is = is ∙ y.1 }

  -- ---- the three kinds

  unbroken_value : (fs : Faults) (v : Option Scalar) → fs ≡ [] → scalar_if_unbroken fs v ≡ v
  unbroken_value [] v h = refl
  unbroken_value (f ∷ fs) v h = cc

  clock_initial : (t : Subtype) (e : ExprTree) → is_clock s e ≡ true → fixed_faults s (Some t) e ≡ [] → IsInitial t e
  clock_initial t e is h =
      let faults = sym (ap (λ b. elim b [ true ↦ faults_of s (wanted_by (Some t)) e | false ↦ called_faults s (Some t) e (span_call s e) ]) is) ∙ h in
      let times = clock_type t.type_number e is faults in
      let value = suits_number s (Typed t.type_number) (time_numeric s (Typed t.type_number) times) (pos 0) in
      record {
        value = scalar.Number (pos 0);
        is = unbroken_value (fixed_faults s (Some t) e) (fixed_value s (Some t) e) h
            ∙ ap (λ b. elim b [ true ↦ Some (scalar.Number (pos 0)) | false ↦ called_scalar s (Some t) e (span_call s e) ]) is;
        suited = subtype_values s t (Number (pos 0)) ∙ value;
      }

  span_initial : (t : Subtype) (e : ExprTree) (x : PredefinedOperation × ExprTree) → IsSpanCall e x → span_faults s (Some t) e x.0 x.1 ≡ []
      → (k : ℤ) × (span_value s x.0 x.1 ≡ Gives (Number k)) × (has_shape (shape_of s t) (Number k) ≡ true)
  span_initial t e x c h =
      let expected = faults_of s (wanted_by (Some t)) e in
      let form = form_rule (start_of e) (static_form s x.1) in
      let computed = computed_faults s (start_of e) x.0 x.1 in
      let two = front_empty (expected ++ form) (if_unbroken expected computed) h in
      let one = front_empty expected form two in
      let typed = span_type t.type_number c.first x.1 c.callee (ap (faults_of s (wanted.OfType t.type_number)) (sym c.is) ∙ one) in
      let last = subst (λ l. if_unbroken l computed ≡ []) one (back_empty (expected ++ form) (if_unbroken expected computed) h) in
      let y = span_known (start_of e) x.0 x.1 typed.argument (back_empty expected form two) last in
      (y.number, y.is, subtype_values s t (Number y.number) ∙ suits_number s (Typed t.type_number) (span_numeric s (Typed t.type_number) typed.form) y.number)

  static_initial : (t : Subtype) (e : ExprTree) → IsStatic s sound (wanted.OfType t.type_number) (Some t) e
      → (c : Scalar) × (known_scalar (static_scalar s (wanted.OfType t.type_number) (Some t) e) ≡ Some c) × (has_shape (shape_of s t) (value_of c) ≡ true)
  static_initial t e x =
      let is_scalar = sym (ap gives_scalar x.gives) ∙ static_is_scalar s e x.static in
      let c = known_value x.value (sym (ap gives_scalar x.gives) ∙ static_is_scalar s e x.static) in
      let shaped = of_wanted s t.type_number (own_of s e) x.value x.known x.fitting x.typed in
      (c.0, ap known_scalar x.scalar ∙ c.1, ap (has_shape (shape_of s t)) c.2 ∙ subtype_values s t x.value ∙ shaped)

  pub initial_known : (t : Subtype) (e : ExprTree) → fixed_faults s (Some t) e ≡ [] → IsInitial t e
  initial_known t e h = by_clock (is_clock s e) refl
    where
      faults_by : Bool → Option (PredefinedOperation × ExprTree) → Faults
      faults_by b o = elim b [ true ↦ faults_of s (wanted_by (Some t)) e | false ↦ called_faults s (Some t) e o ]

      whole : fixed_scalar s (Some t) e ≡ fixed_value s (Some t) e
      whole = unbroken_value (fixed_faults s (Some t) e) (fixed_value s (Some t) e) h

      value_by : Bool → Option (PredefinedOperation × ExprTree) → Option Scalar
      value_by b o = elim b [ true ↦ Some (scalar.Number (pos 0)) | false ↦ called_scalar s (Some t) e o ]

      by_call : (o : Option (PredefinedOperation × ExprTree)) → is_clock s e ≡ false → span_call s e ≡ o → IsInitial t e
      by_call (Some x) clock is =
          let faults : span_faults s (Some t) e x.0 x.1 ≡ [] = sym (λ j. faults_by (clock j) (is j)) ∙ h in
          let y = span_initial t e x (span_is e x is) faults in
          record { value = scalar.Number y.0; is = whole ∙ (λ j. value_by (clock j) (is j)) ∙ ap scalar_of y.1; suited = y.2 }
      by_call None clock is =
          let faults : static_faults s (wanted.OfType t.type_number) (Some t) e ≡ [] = sym (λ j. faults_by (clock j) (is j)) ∙ h in
          let y = static_initial t e (must_be_static s sound (wanted.OfType t.type_number) (Some t) e faults) in
          record { value = y.0; is = whole ∙ (λ j. value_by (clock j) (is j)) ∙ y.1; suited = y.2 }

      by_clock : (b : Bool) → is_clock s e ≡ b → IsInitial t e
      by_clock true is = clock_initial t e is h
      by_clock false is = by_call (span_call s e) is refl
