-- The code of `delay until`: a test, the time, and the delay.
use Rattle.std.proofs.Common.{◌≡◌, [], ℕ, refl, subst, arith, ℤ, pos, negsuc, true}
use Rattle.std.specs.Prelude.{not}
use Rattle.ada_tree.specs.ExpressionTree.{ExprTree}
use Rattle.ada_tree.specs.StatementTree.{DelayUntil}
use Rattle.types.specs.Scopes.{Scope, integer, least_number, greatest_number}
use Rattle.types.specs.Statics.{start_of}
use Rattle.expr_soundness.specs.expr_rules.specs.ExpressionRules.{faults_of}
use Rattle.expr_soundness.specs.expr_rules.specs.Typing.{is_time, own_of}
use Rattle.expr_soundness.specs.expr_rules.specs.declared.own.Own.{Own}
use Rattle.expr_soundness.specs.expr_rules.specs.declared.own.Own.TheVariants.{Typed, Universal, Unknown}
use Rattle.expr_soundness.specs.expr_rules.proofs.TypedLaw.{back_empty, front_empty, time_numeric, unbroken}
use Rattle.expr_soundness.proofs.Expressions.{not_false}
use Rattle.part_code.specs.stmt_rules.specs.SimpleRules.{time_rule, time_wanted}
use Rattle.expr_code.specs.Emitting.{IsLegalExpression}
use Rattle.expr_code.specs.Seeing.{Package}
use Rattle.expr_code.specs.Widths.{own_words, width_of}
use Rattle.expr_code.proofs.Widths.{numeric_one}
use Rattle.part_code.specs.Statements.{IsTimely}
use Rattle.stmt_code.specs.Emitting.{IsLegalStatement}
use Rattle.stmt_code.proofs.Adding.{wanted_legal}
use Rattle.base.specs.Arithmetic.{is_in_base_range}
use Rattle.types.specs.Bounds.{bounds_of}
use Rattle.types.specs.Values.{Number, is_within}
use Rattle.types.specs.Evaluations.{Gives}
use Rattle.expr_soundness.specs.BoundsLaw.{ValuesAreBounded, VisibleValuesLie, is_inside}
use Rattle.expr_soundness.specs.Lying.{comes_between}
use Rattle.part_code.specs.Resting.{Framed}

-- ---- what is legal

module _ (s : Scope) (place : ℕ) (e : ExprTree) (h : IsLegalStatement s (DelayUntil place e)) where
  pub until_legal : IsLegalExpression s e
  until_legal = wanted_legal s (time_wanted s) e (front_empty (faults_of s (time_wanted s) e) (time_rule s (own_of s e) (start_of e)) h.unbroken)

  -- a time is one word
  pub until_wide : width_of s e ≡ 1
  until_wide = by_own (own_of s e) (back_empty (faults_of s (time_wanted s) e) (time_rule s (own_of s e) (start_of e)) h.unbroken)
    where
      by_own : (own : Own) → time_rule s own (start_of e) ≡ [] → own_words s own ≡ 1
      by_own Unknown r = refl
      by_own Universal r = refl
      by_own (Typed n) r =
          numeric_one s (Typed n)
          (time_numeric s (Typed n) (not_false (is_time s (Typed n)) (unbroken _ (start_of e) (not (is_time s (Typed n))) r)))

-- ---- the time

-- a number between bounds that 64 bits hold
base_again : (z : ℤ) → is_within least_number greatest_number z ≡ true → is_in_base_range z ≡ true
base_again (pos n) h = grind (arith, h)
base_again (negsuc n) h = grind (arith, h)

between_base : (b : ℤ × ℤ) (z : ℤ) → is_inside b integer ≡ true → comes_between b (Gives (Number z)) ≡ true → is_within least_number greatest_number z ≡ true
between_base b z h k = grind (arith, h, k)

module _ (bounded : ValuesAreBounded) (visible : VisibleValuesLie) (g : Package) (v : Framed) (e : ExprTree) (legal : IsLegalExpression v.names.scope e)
    (inside : is_inside (bounds_of v.names.scope e) integer ≡ true) where
  pub timely : IsTimely g v e
  timely p view z knows gives =
      let s = v.names.scope in
      let agrees = knows.sees.names.agrees in
      let all = visible s p agrees knows.sees.unit.values knows.sees.loops in
      base_again z
      (between_base (bounds_of s e) z inside
      (subst (λ x. comes_between (bounds_of s e) x ≡ true) gives (bounded s p agrees knows.sees.unit.sound all e legal.wanted legal.unbroken)))
