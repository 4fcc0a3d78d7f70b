-- The initial value of a variable, as its text tells it where it breaks no rule, is the value that the variable has at the start.
use Rattle.std.proofs.Common.{◌≡◌, ◌++◌, ℕ, zero, suc, ◌*◌, ℤ, pos, negsuc, ◌*ℤ◌, [], ◌∷◌, Bool, true, false, Option, Some, None, Ok, refl, sym, ap, ◌∙◌, subst, arith}
use Rattle.std.specs.Prelude.{⊤, ◌-◌, ◌^◌, ◌&&◌, cond, neg_ℤ, nat_le}
use Rattle.std.proofs.lemmas.Bool.{le-leb, lt-ltb, ltb-true}
use Rattle.std.proofs.Math.IntN.{pos-*ℤ-negsuc, pos-*ℤ-pos}
use Rattle.expr_soundness.specs.base.specs.Arithmetic.{constraint_error, in_range, is_in_base_range}
use Rattle.expr_soundness.specs.ada_tree.specs.ExpressionTree.{ExprTree, Named, NoSelectors}
use Rattle.types.specs.declared.entity.PredefinedOperation.{PredefinedOperation}
use Rattle.types.specs.declared.entity.PredefinedOperation.TheVariants as predefined
use Rattle.types.specs.declared.entity.Subtype.{Subtype}
use Rattle.types.specs.declared.entity.Value.{Value as Scalar}
use Rattle.types.specs.declared.entity.Value.TheVariants as scalar
use Rattle.types.specs.Places.{IsPredefined, IsValue, Place}
use Rattle.types.specs.Scopes.{Scope, integer, integer_type}
use Rattle.types.specs.Statics.{StaticIsValue, start_of, static_form, static_place}
use Rattle.types.specs.Values.{Value, Number, Truth, Array, Record, fits, value_of}
use Rattle.types.specs.Evaluations.{Val, Gives, Raises, Meaningless, and_then, computed}
use Rattle.types.specs.Evaluating.{Calls, applied, call, ended, name_with, passed, predefined_value, val, value_with}
use Rattle.expr_soundness.specs.expr_rules.specs.declared.own.Wanted.TheVariants as wanted
use Rattle.expr_soundness.specs.expr_rules.specs.Faults.{Faults}
use Rattle.expr_soundness.specs.expr_rules.specs.ExpressionRules.{faults_of}
use Rattle.expr_soundness.specs.expr_rules.specs.StaticRules.{form_rule, if_unbroken, static_faults, static_scalar}
use Rattle.expr_soundness.specs.expr_rules.specs.Typing.{is_integers}
use Rattle.expr_soundness.specs.expr_rules.proofs.TypedLaw.{back_empty, front_empty}
use Rattle.expr_soundness.specs.type_rules.specs.ObjectRules.{called_faults, called_scalar, computed_faults, fixed_faults, fixed_scalar, fixed_value, is_clock, known_scalar, scalar_if_unbroken, scalar_of, span_call, span_faults, span_of, span_of_scalar, span_value}
use Rattle.expr_soundness.specs.type_rules.specs.SubtypeNames.{wanted_by}
use Rattle.expr_soundness.specs.SoundScopes.{SoundScope}
use Rattle.program_soundness.proofs.Extending.{Extends}
use Rattle.program_soundness.proofs.Firsts.{operation_value, static_keeps}
use Rattle.program_soundness.proofs.Initials.{clock_operation, is_now, is_span, span_is, span_known, span_type, with_argument}
use Rattle.program_soundness.proofs.Statics.{must_be_static, static_number}

-- ---- numbers of 64 bits

abbrev pub IsWord : Scalar → Type 0
IsWord (scalar.Number z) = is_in_base_range z ≡ true
IsWord (scalar.Truth b) = ⊤

-- they are the numbers of Integer
pub word_fits : (z : ℤ) → is_in_base_range z ≡ true → fits integer (Number z) ≡ true
word_fits (pos n) h = let less = ltb-true n (2 ^ 63) h in le-leb n (2 ^ 63 - 1) (omega (arith, less))
word_fits (negsuc n) h = below (nat_le n (2 ^ 63 - 1)) (let less = ltb-true n (2 ^ 63) h in le-leb n (2 ^ 63 - 1) (omega (arith, less)))
  where
    below : (b : Bool) → b ≡ true → (b && true) ≡ true
    below true e = refl
    below false e = cc

-- a number of which a thousand times has 64 bits
small_positive : (n : ℕ) → is_in_base_range (pos (1000 * n)) ≡ true → is_in_base_range (pos n) ≡ true
small_positive n h = let less = ltb-true (1000 * n) (2 ^ 63) h in lt-ltb n (2 ^ 63) (omega (arith, less))

small_negative : (n : ℕ) → is_in_base_range (neg_ℤ (pos (1000 * suc n))) ≡ true → is_in_base_range (negsuc n) ≡ true
small_negative n h = by_number (1000 * suc n) refl h
  where
    by_number : (m : ℕ) → m ≡ 1000 * suc n → is_in_base_range (neg_ℤ (pos m)) ≡ true → is_in_base_range (negsuc n) ≡ true
    by_number zero e k = absurd (omega (arith, e))
    by_number (suc m) e k = let less = ltb-true m (2 ^ 63) k in lt-ltb n (2 ^ 63) (omega (arith, e, less))

thousandth : (z : ℤ) → is_in_base_range (pos 1000 *ℤ z) ≡ true → is_in_base_range z ≡ true
thousandth (pos n) h = small_positive n (ap is_in_base_range (sym (pos-*ℤ-pos 1000 n)) ∙ h)
thousandth (negsuc n) h = small_negative n (ap is_in_base_range (sym (pos-*ℤ-negsuc 1000 n)) ∙ h)

-- ---- spans

checked_small : (w k : ℤ) → computed (in_range w) ≡ Gives (Number k) → is_in_base_range w ≡ true
checked_small w k h = by_test (is_in_base_range w) refl h
  where
    by_test : (b : Bool) → is_in_base_range w ≡ b → computed (cond b (Ok w) constraint_error) ≡ Gives (Number k) → is_in_base_range w ≡ true
    by_test true e j = e
    by_test false e j = cc

same_given : (z k : ℤ) → Gives (Number z) ≡ Gives (Number k) → z ≡ k
same_given z k h = let read : Val Value → ℤ = λ r. elim r [ Gives v ↦ number v | Raises e ↦ z | Meaningless ↦ z ] in ap read h
  where
    number : Value → ℤ
    number (Number i) = i
    number v = z

-- what a span of 64 bits was made of has them too
made_small : (o : PredefinedOperation) (z k : ℤ) → span_of o z ≡ Gives (Number k) → is_in_base_range k ≡ true → is_in_base_range z ≡ true
made_small predefined.Milliseconds z k h small = thousandth z (checked_small (pos 1000 *ℤ z) k h)
made_small predefined.Microseconds z k h small = ap is_in_base_range (same_given z k h) ∙ small
made_small predefined.Clock z k h small = ap is_in_base_range (same_given z k h) ∙ small
made_small predefined.Read z k h small = ap is_in_base_range (same_given z k h) ∙ small

-- ---- calls of the language's operations

now_value : (p : Place) (o : PredefinedOperation) → is_now o ≡ true → predefined_value p o [] ≡ Gives (Number p.now)
now_value p predefined.Clock h = refl
now_value p predefined.Milliseconds h = cc
now_value p predefined.Microseconds h = cc
now_value p predefined.Read h = cc

module _ (calls : Calls) (p : Place) where
  settled : (v : Val Value) → and_then (and_then v (λ x. Gives (IsValue x))) (ended calls p) ≡ v
  settled (Gives v) = refl
  settled (Raises e) = refl
  settled Meaningless = refl

  -- the call, by the value of its argument in front of the check
  abbrev after : PredefinedOperation → Val Value → Val Value
  after o v = and_then (and_then (and_then (and_then v (passed integer)) (λ w. Gives (w ∷ []))) (applied calls p (IsPredefined o))) (ended calls p)

  within : (z : ℤ) → is_in_base_range z ≡ true → passed integer (Number z) ≡ Gives (Number z)
  within z small = ap (λ b. cond b (Gives (Number z)) (Raises 1)) (word_fits z small)

  after_given : (o : PredefinedOperation) → is_span o ≡ true → (z : ℤ) → is_in_base_range z ≡ true → after o (Gives (Number z)) ≡ span_of o z
  after_given predefined.Milliseconds h z small =
      ap (λ v. and_then (and_then (and_then v (λ w. Gives (w ∷ []))) (applied calls p (IsPredefined predefined.Milliseconds))) (ended calls p)) (within z small)
      ∙ settled (span_of predefined.Milliseconds z)
  after_given predefined.Microseconds h z small =
      ap (λ v. and_then (and_then (and_then v (λ w. Gives (w ∷ []))) (applied calls p (IsPredefined predefined.Microseconds))) (ended calls p)) (within z small)
      ∙ settled (span_of predefined.Microseconds z)
  after_given predefined.Clock h z small = cc
  after_given predefined.Read h z small = cc

  -- that of its argument is this number
  pub span_given : (o : PredefinedOperation) → is_span o ≡ true → (a : ExprTree) (z : ℤ) → value_with calls p a ≡ Gives (Number z) → is_in_base_range z ≡ true
      → name_with calls p (IsPredefined o) (with_argument a) ≡ span_of o z
  span_given predefined.Milliseconds h a z given small = ap (after predefined.Milliseconds) given ∙ after_given predefined.Milliseconds refl z small
  span_given predefined.Microseconds h a z given small = ap (after predefined.Microseconds) given ∙ after_given predefined.Microseconds refl z small
  span_given predefined.Clock h a z given small = cc
  span_given predefined.Read h a z given small = cc

-- ---- the whole

none_broken : (fs : Faults) (v : Option Scalar) (c : Scalar) → scalar_if_unbroken fs v ≡ Some c → (fs ≡ []) × (v ≡ Some c)
none_broken [] v c h = (refl, h)
none_broken (f ∷ fs) v c h = cc

same_known : (a b : Scalar) → Some a ≡ Some b → a ≡ b
same_known a b h = let read : Option Scalar → Scalar = λ o. elim o [ Some c ↦ c | None ↦ a ] in ap read h

known_is : (v : Value) (c : Scalar) → known_scalar (Some v) ≡ Some c → v ≡ value_of c
known_is (Number z) c h = ap value_of (same_known (scalar.Number z) c h)
known_is (Truth b) c h = ap value_of (same_known (scalar.Truth b) c h)
known_is (Array vs) c h = cc
known_is (Record fs) c h = cc

module _ (law : StaticIsValue) (s : Scope) (sound : SoundScope s) (g : Scope) (x : Extends s g) where
  pub clock_first : (e : ExprTree) → is_clock s e ≡ true → val (static_place g) e ≡ Gives (Number (pos 0))
  clock_first (Named first NoSelectors) h =
      let o = clock_operation s sound first h in
      operation_value law s sound g x first is_now o NoSelectors ∙ now_value (static_place g) o.operation o.passes
  clock_first e h = cc

  span_first : (t : Subtype) (e : ExprTree) (y : PredefinedOperation × ExprTree) (c : Scalar) → span_call s e ≡ Some y → span_faults s (Some t) e y.0 y.1 ≡ []
      → scalar_of (span_value s y.0 y.1) ≡ Some c
      → IsWord c
      → val (static_place g) e ≡ Gives (value_of c)
  span_first t e y c called faults known word =
      let o = span_is s sound e y called in
      let expected = faults_of s (wanted_by (Some t)) e in
      let form = form_rule (start_of e) (static_form s y.1) in
      let later = computed_faults s (start_of e) y.0 y.1 in
      let two = front_empty (expected ++ form) (if_unbroken expected later) faults in
      let one = front_empty expected form two in
      let typed = span_type s sound t.type_number o.first y.1 o.callee (ap (faults_of s (wanted.OfType t.type_number)) (sym o.is) ∙ one) in
      let last = subst (λ l. if_unbroken l later ≡ []) one (back_empty (expected ++ form) (if_unbroken expected later) faults) in
      let k = span_known s sound (start_of e) y.0 y.1 typed.argument (back_empty expected form two) last in
      let same = same_known (scalar.Number k.number) c (sym (ap scalar_of k.is) ∙ known) in
      let z = static_number s sound (wanted.OfType integer_type) None y.1 (ap is_integers sound.integer) k.argument in
      let span : span_of y.0 z.0 ≡ Gives (Number k.number) = sym (ap (span_of_scalar y.0) z.1) ∙ k.is in
      let small = made_small y.0 z.0 k.number span (subst IsWord (sym same) word) in
      let argument = law s (static_place g) (call 0) (static_keeps s g x) y.1 k.argument.static ∙ z.2 in
      ap (val (static_place g)) o.is ∙ operation_value law s sound g x o.first is_span o.callee (with_argument y.1)
      ∙ span_given (call 0) (static_place g) o.callee.operation o.callee.passes y.1 z.0 argument small
      ∙ ap (λ i. span_of i z.0) o.same ∙ span ∙ ap (λ i. Gives (value_of i)) same

  static_first : (t : Subtype) (e : ExprTree) (c : Scalar) → static_faults s (wanted_by (Some t)) (Some t) e ≡ []
      → known_scalar (static_scalar s (wanted_by (Some t)) (Some t) e) ≡ Some c
      → val (static_place g) e ≡ Gives (value_of c)
  static_first t e c faults known =
      let y = must_be_static s sound (wanted.OfType t.type_number) (Some t) e faults in
      law s (static_place g) (call 0) (static_keeps s g x) e y.static ∙ y.gives ∙ ap Gives (known_is y.value c (sym (ap known_scalar y.scalar) ∙ known))

  -- where the value has 64 bits: in a tree of a source text each number has them
  pub fixed_is_first : (t : Subtype) (e : ExprTree) (c : Scalar) → fixed_scalar s (Some t) e ≡ Some c → IsWord c → val (static_place g) e ≡ Gives (value_of c)
  fixed_is_first t e c known word = by_clock (is_clock s e) refl
    where
      both : (fixed_faults s (Some t) e ≡ []) × (fixed_value s (Some t) e ≡ Some c)
      both = none_broken (fixed_faults s (Some t) e) (fixed_value s (Some t) e) c known

      faults_by : Bool → Option (PredefinedOperation × ExprTree) → Faults
      faults_by b o = elim b [ true ↦ faults_of s (wanted_by (Some t)) e | false ↦ called_faults s (Some t) e o ]

      value_by : Bool → Option (PredefinedOperation × ExprTree) → Option Scalar
      value_by b o = elim b [ true ↦ Some (scalar.Number (pos 0)) | false ↦ called_scalar s (Some t) e o ]

      by_call : (o : Option (PredefinedOperation × ExprTree)) → is_clock s e ≡ false → span_call s e ≡ o → val (static_place g) e ≡ Gives (value_of c)
      by_call (Some y) clock called =
          span_first t e y c called (sym (λ j. faults_by (clock j) (called j)) ∙ both.0) (sym (λ j. value_by (clock j) (called j)) ∙ both.1) word
      by_call None clock called =
          static_first t e c (sym (λ j. faults_by (clock j) (called j)) ∙ both.0) (sym (λ j. value_by (clock j) (called j)) ∙ both.1)

      by_clock : (b : Bool) → is_clock s e ≡ b → val (static_place g) e ≡ Gives (value_of c)
      by_clock true clock =
          let same = same_known (scalar.Number (pos 0)) c (sym (ap (λ b. value_by b (span_call s e)) clock) ∙ both.1) in
          clock_first e clock ∙ ap (λ i. Gives (value_of i)) same
      by_clock false clock = by_call (span_call s e) clock refl
