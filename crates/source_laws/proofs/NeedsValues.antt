-- How many words of the operand stack the expressions of statements take, by what is expected of them.
use Rattle.std.proofs.Common.{◌≡◌, ◌≤◌, ◌⊎◌, inl, inr, ◌+◌, ◌*◌, ℕ, max, [], true, false, Bool, ◌||◌, refl, sym, ap, ◌∙◌, arith}
use Rattle.std.specs.Prelude.{not}
use Rattle.base.specs.declared.faults.TheConstants.{NO_MEANING}
use Rattle.ada_tree.specs.Depth.{expr_depth}
use Rattle.ada_tree.specs.ExpressionGrammar.{Expression, Production, derives, expression, made_by}
use Rattle.ada_tree.specs.ExpressionTree.{ExprTree}
use Rattle.ada_tree.specs.Language.{Limit, Tokens}
use Rattle.ada_tree.specs.StatementTree.{DelayUntil}
use Rattle.types.specs.declared.entity.Subtype.{Subtype}
use Rattle.types.specs.Layouts.{words_of}
use Rattle.types.specs.Scopes.{Scope}
use Rattle.types.specs.Statics.{start_of}
use Rattle.expr_soundness.specs.expr_rules.specs.declared.own.Own.{Own}
use Rattle.expr_soundness.specs.expr_rules.specs.declared.own.Own.TheVariants.{Typed, Universal, Unknown}
use Rattle.expr_soundness.specs.expr_rules.specs.declared.own.Wanted.TheVariants.{AnyInteger, Anything, OfType}
use Rattle.expr_soundness.specs.expr_rules.specs.ExpressionRules.{faults_in, faults_of}
use Rattle.expr_soundness.specs.expr_rules.specs.NameRules.{mismatch}
use Rattle.expr_soundness.specs.expr_rules.specs.Typing.{is_boolean, is_integral, is_time, own_of}
use Rattle.expr_soundness.specs.expr_rules.proofs.TypedLaw.{back_empty, front_empty, same_number, time_numeric, unbroken}
use Rattle.program_soundness.specs.stmt_rules.specs.CaseRules.{discrete_rule, is_discrete, selecting_faults}
use Rattle.program_soundness.specs.stmt_rules.specs.SimpleRules.{condition_faults, time_rule, time_wanted}
use Rattle.expr_soundness.proofs.Expressions.{not_false}
use Rattle.expr_code.specs.Emitting.{IsLegalExpression}
use Rattle.expr_code.specs.Refusing.{peak}
use Rattle.expr_code.specs.Widths.{own_words, width_of}
use Rattle.expr_code.proofs.Widths.{Fits, boolean_one, condition_width, fits, integral_one, known, numeric_one, words_by_type}
use Rattle.stmt_code.specs.Emitting.{IsLegalStatement}
use Rattle.source_laws.specs.Depths.{IsSmallScope}
use Rattle.source_laws.proofs.PeakBounds.{through}
use Rattle.source_laws.proofs.Peaks.{legal_of, peak_low, waiting, waits}
use Rattle.source_laws.proofs.NeedsScopes.{integral}

one_low : (p v n d : ℕ) → p ≤ max v (2 + n + 12 * d) → v ≡ 1 → n ≤ 4 → p ≤ 6 + 12 * d
one_low p v n d h one few = omega (arith, h, one, few)

wide_low : (p v w n d : ℕ) → p ≤ max v (2 + n + 12 * d) → v ≤ max 1 w → n ≤ 4 → p ≤ max w (6 + 12 * d)
wide_low p v w n d h wide few = omega (arith, h, wide, few)

either : (a b : Bool) → (a || b) ≡ true → (a ≡ true) ⊎ (b ≡ true)
either true b h = inl refl
either false b h = inr h

module _ (s : Scope) (small : IsSmallScope s) where
  -- what the production derives, in which at most four operators wait
  pub single_low : (n : Production) (e : ExprTree) (l : Limit) (ts : Tokens) → derives n l e ts → waiting n ≤ 4 → IsLegalExpression s e → width_of s e ≡ 1
      → peak s e ≤ 6 + 12 * expr_depth e
  single_low n e l ts d few legal one =
      one_low (peak s e) (width_of s e) (waiting (made_by e)) (expr_depth e) (peak_low s small.sound small.formals e l ts d.1 legal) one
      (through (waiting (made_by e)) (waiting n) 4 (waits (made_by e) n d.0) few)

  pub condition_low : (e : ExprTree) (l : Limit) (ts : Tokens) → expression l e ts → condition_faults s e ≡ [] → peak s e ≤ 6 + 12 * expr_depth e
  condition_low e l ts d h = single_low Expression e l ts d (omega arith) (legal_of s small.sound _ e h) (condition_width s small.sound e h)

  pub integer_low : (n : Production) (e : ExprTree) (l : Limit) (ts : Tokens) → derives n l e ts → waiting n ≤ 4 → faults_of s AnyInteger e ≡ []
      → peak s e ≤ 6 + 12 * expr_depth e
  integer_low n e l ts d few h =
      single_low n e l ts d few (legal_of s small.sound AnyInteger e h) (integral_one s (own_of s e) (integral s small.sound e h))

  discrete_one : (own : Own) (place : ℕ) → discrete_rule s own place ≡ [] → own_words s own ≡ 1
  discrete_one Unknown place h = refl
  discrete_one Universal place h = refl
  discrete_one (Typed n) place h =
      elim (either (is_integral s (Typed n)) (is_boolean s (Typed n)) (not_false (is_discrete s (Typed n)) (unbroken NO_MEANING place _ h)))
      [ inl i ↦ integral_one s (Typed n) i | inr b ↦ boolean_one s (Typed n) b ]

  pub selecting_low : (e : ExprTree) (l : Limit) (ts : Tokens) → expression l e ts → selecting_faults s e ≡ [] → peak s e ≤ 6 + 12 * expr_depth e
  selecting_low e l ts d h =
      let whole = faults_of s Anything e in
      let rest = discrete_rule s (own_of s e) (start_of e) in
      single_low Expression e l ts d (omega arith) (legal_of s small.sound Anything e (front_empty whole rest h))
      (discrete_one (own_of s e) (start_of e) (back_empty whole rest h))

  time_one : (own : Own) (place : ℕ) → time_rule s own place ≡ [] → own_words s own ≡ 1
  time_one Unknown place h = refl
  time_one Universal place h = refl
  time_one (Typed n) place h =
      numeric_one s (Typed n) (time_numeric s (Typed n) (not_false (is_time s (Typed n)) (unbroken _ place (not (is_time s (Typed n))) h)))

  -- what is waited for, a time
  pub until_low : (place : ℕ) (e : ExprTree) (l : Limit) (ts : Tokens) → expression l e ts → IsLegalStatement s (DelayUntil place e)
      → peak s e ≤ 6 + 12 * expr_depth e
  until_low place e l ts d h =
      let whole = faults_of s (time_wanted s) e in
      let rest = time_rule s (own_of s e) (start_of e) in
      single_low Expression e l ts d (omega arith) (legal_of s small.sound (time_wanted s) e (front_empty whole rest h.unbroken))
      (time_one (own_of s e) (start_of e) (back_empty whole rest h.unbroken))

  -- ---- values of a type

  typed_words : (t : Subtype) (own : Own) → Fits s small.sound (OfType t.type_number) own → own_words s own ≤ max 1 (words_of s t)
  typed_words t Unknown f = omega arith
  typed_words t Universal f = omega arith
  typed_words t (Typed m) f =
      let same : own_words s (Typed m) ≡ words_of s t = ap (λ k. own_words s (Typed k)) (sym (same_number t.type_number m f.wanted)) ∙ words_by_type s t in
      omega (arith, same)

  pub typed_low : (t : Subtype) (e : ExprTree) (l : Limit) (ts : Tokens) → expression l e ts → faults_of s (OfType t.type_number) e ≡ []
      → peak s e ≤ max (words_of s t) (6 + 12 * expr_depth e)
  typed_low t e l ts d h =
      let w = OfType t.type_number in
      let inside = faults_in s w e in
      let ends = mismatch s w (own_of s e) (start_of e) in
      let fit = fits s small.sound w (own_of s e) (start_of e) (known s small.sound e w (front_empty inside ends h)) (back_empty inside ends h) in
      wide_low (peak s e) (width_of s e) (words_of s t) (waiting (made_by e)) (expr_depth e)
      (peak_low s small.sound small.formals e l ts d.1 (legal_of s small.sound w e h)) (typed_words t (own_of s e) fit)
      (through (waiting (made_by e)) (waiting Expression) 4 (waits (made_by e) Expression d.0) (omega arith))
