-- Operators over declared types have the same types and meanings where more names are visible behind those in front of them.
use Rattle.std.proofs.Common.{◌≡◌, ℕ, suc, Bool, true, false, not, ◌&&◌, ◌||◌, cond, [], refl, ap, ◌∙◌}
use Rattle.std.specs.Prelude.{is_some, nat_eq}
use Rattle.base.specs.declared.faults.TheConstants.{NO_MEANING}
use Rattle.ada_tree.specs.declared.expression.BinaryOperator.{BinaryOperator}
use Rattle.ada_tree.specs.declared.expression.BinaryOperator.TheVariants as binary
use Rattle.ada_tree.specs.declared.expression.UnaryOperator.{UnaryOperator}
use Rattle.ada_tree.specs.declared.expression.UnaryOperator.TheVariants as unary
use Rattle.types.specs.Scopes.{Scope, boolean_type, form_at}
use Rattle.expr_soundness.specs.expr_rules.specs.declared.own.Own.{Own}
use Rattle.expr_soundness.specs.expr_rules.specs.declared.own.Own.TheVariants.{Typed, Universal, Unknown}
use Rattle.expr_soundness.specs.expr_rules.specs.declared.own.Wanted.{Wanted}
use Rattle.expr_soundness.specs.expr_rules.specs.declared.own.Wanted.TheVariants.{Anything, AnyInteger, OfType}
use Rattle.expr_soundness.specs.expr_rules.specs.Faults.{rule}
use Rattle.expr_soundness.specs.expr_rules.specs.Typing.{arithmetic_own, binary_own, boolean_wanted, has_binary, has_unary, integral_or_unknown, is_boolean, is_booleans, is_integers, is_integral, is_known, is_logical, is_relation, is_scalar, is_span, is_spans, is_time, is_times, is_wanted, join, time_own, unary_own}
use Rattle.expr_soundness.specs.expr_rules.specs.NameRules.{mismatch}
use Rattle.expr_soundness.specs.expr_rules.specs.ExpressionRules.{beside, binary_rule, unary_rule}
use Rattle.expr_soundness.specs.expr_rules.proofs.TypedLaw.{judged, unbroken}
use Rattle.expr_soundness.specs.SoundScopes.{SoundScope}
use Rattle.expr_soundness.proofs.Growing.{test_kept}
use Rattle.program_soundness.proofs.Extending.{Extends, has_types}
use Rattle.source_laws.proofs.LaterNames.{IsDeclaredOwn, same_form, some_by}

-- ---- what operators give is of declared types

chosen_declared : (s : Scope) (a b : Own) (test : Bool) → IsDeclaredOwn s a → IsDeclaredOwn s b → IsDeclaredOwn s (cond test a b)
chosen_declared s a b true h k = h
chosen_declared s a b false h k = k

pub join_declared : (s : Scope) (a b : Own) → IsDeclaredOwn s a → IsDeclaredOwn s b → IsDeclaredOwn s (join s a b)
join_declared s Unknown b h k = tt
join_declared s Universal Unknown h k = tt
join_declared s Universal Universal h k = tt
join_declared s Universal (Typed n) h k = chosen_declared s (Typed n) Unknown (is_integers (form_at s n)) k tt
join_declared s (Typed n) Unknown h k = tt
join_declared s (Typed n) Universal h k = chosen_declared s (Typed n) Unknown (is_integers (form_at s n)) h tt
join_declared s (Typed n) (Typed m) h k = chosen_declared s (Typed n) Unknown (nat_eq n m) h tt

integral_declared : (s : Scope) (a : Own) → IsDeclaredOwn s a → IsDeclaredOwn s (integral_or_unknown s a)
integral_declared s a h = chosen_declared s a Unknown (is_integral s a) h tt

module _ (s : Scope) (sound : SoundScope s) where
  boolean_declared : IsDeclaredOwn s (Typed boolean_type)
  boolean_declared = ap is_some sound.boolean

  span_declared : (n : ℕ) → is_times (form_at s n) ≡ true → IsDeclaredOwn s (Typed (suc n))
  span_declared n h = some_by is_spans refl (form_at s (suc n)) (sound.span n h)

  pub unary_declared : (operator : UnaryOperator) (a : Own) → IsDeclaredOwn s a → IsDeclaredOwn s (unary_own s operator a)
  unary_declared unary.Not a h = boolean_declared
  unary_declared unary.Plus a h = integral_declared s a h
  unary_declared unary.Minus a h = integral_declared s a h
  unary_declared unary.Abs a h = integral_declared s a h

  time_declared : (operator : BinaryOperator) (a b : Own) → IsDeclaredOwn s a → is_time s a ≡ true → IsDeclaredOwn s (time_own s operator a b)
  time_declared binary.Add (Typed n) b h time = chosen_declared s (Typed n) Unknown (is_span s b) h tt
  time_declared binary.Subtract (Typed n) b h time = chosen_declared s (Typed (suc n)) Unknown (is_time s b) (span_declared n time) tt
  time_declared operator a b h time = tt

  arithmetic_declared : (operator : BinaryOperator) (a b : Own) → IsDeclaredOwn s a → IsDeclaredOwn s b → IsDeclaredOwn s (arithmetic_own s operator a b)
  arithmetic_declared operator a b h k = by_time (is_time s a) refl
    where
      by_time : (test : Bool) → is_time s a ≡ test → IsDeclaredOwn s (cond test (time_own s operator a b) (integral_or_unknown s (join s a b)))
      by_time true e = time_declared operator a b h e
      by_time false e = integral_declared s (join s a b) (join_declared s a b h k)

  pub binary_declared : (operator : BinaryOperator) (a b : Own) → IsDeclaredOwn s a → IsDeclaredOwn s b → IsDeclaredOwn s (binary_own s operator a b)
  binary_declared operator a b h k =
      chosen_declared s (Typed boolean_type) (arithmetic_own s operator a b) (is_logical operator || is_relation operator) boolean_declared
      (arithmetic_declared operator a b h k)

-- ---- with more names

module _ (s g : Scope) (x : Extends s g) where
  integral_same : (a : Own) → IsDeclaredOwn s a → is_integral g a ≡ is_integral s a
  integral_same Unknown h = refl
  integral_same Universal h = refl
  integral_same (Typed n) h = ap is_integers (same_form s g x n h)

  boolean_same : (a : Own) → IsDeclaredOwn s a → is_boolean g a ≡ is_boolean s a
  boolean_same Unknown h = refl
  boolean_same Universal h = refl
  boolean_same (Typed n) h = ap is_booleans (same_form s g x n h)

  time_same : (a : Own) → IsDeclaredOwn s a → is_time g a ≡ is_time s a
  time_same Unknown h = refl
  time_same Universal h = refl
  time_same (Typed n) h = ap is_times (same_form s g x n h)

  span_same : (a : Own) → IsDeclaredOwn s a → is_span g a ≡ is_span s a
  span_same Unknown h = refl
  span_same Universal h = refl
  span_same (Typed n) h = ap is_spans (same_form s g x n h)

  scalar_same : (a : Own) → IsDeclaredOwn s a → is_scalar g a ≡ is_scalar s a
  scalar_same a h = λ j. integral_same a h j || (boolean_same a h j || (time_same a h j || span_same a h j))

  pub join_same : (a b : Own) → IsDeclaredOwn s a → IsDeclaredOwn s b → join g a b ≡ join s a b
  join_same Unknown b h k = refl
  join_same Universal Unknown h k = refl
  join_same Universal Universal h k = refl
  join_same Universal (Typed n) h k = ap (λ f. cond (is_integers f) (Typed n) Unknown) (same_form s g x n k)
  join_same (Typed n) Unknown h k = refl
  join_same (Typed n) Universal h k = ap (λ f. cond (is_integers f) (Typed n) Unknown) (same_form s g x n h)
  join_same (Typed n) (Typed m) h k = refl

  integral_own_same : (a : Own) → IsDeclaredOwn s a → integral_or_unknown g a ≡ integral_or_unknown s a
  integral_own_same a h = ap (λ b. cond b a Unknown) (integral_same a h)

  pub unary_same : (operator : UnaryOperator) (a : Own) → IsDeclaredOwn s a → unary_own g operator a ≡ unary_own s operator a
  unary_same unary.Not a h = refl
  unary_same unary.Plus a h = integral_own_same a h
  unary_same unary.Minus a h = integral_own_same a h
  unary_same unary.Abs a h = integral_own_same a h

  time_own_same : (operator : BinaryOperator) (a b : Own) → IsDeclaredOwn s b → time_own g operator a b ≡ time_own s operator a b
  time_own_same binary.Add (Typed n) b k = ap (λ t. cond t (Typed n) Unknown) (span_same b k)
  time_own_same binary.Subtract (Typed n) b k = ap (λ t. cond t (Typed (suc n)) Unknown) (time_same b k)
  time_own_same operator a b k = refl

  arithmetic_same : (operator : BinaryOperator) (a b : Own) → IsDeclaredOwn s a → IsDeclaredOwn s b
      → arithmetic_own g operator a b ≡ arithmetic_own s operator a b
  arithmetic_same operator a b h k =
      let joined : integral_or_unknown g (join g a b) ≡ integral_or_unknown s (join s a b) =
      ap (integral_or_unknown g) (join_same a b h k) ∙ integral_own_same (join s a b) (join_declared s a b h k) in
      λ j. cond (time_same a h j) (time_own_same operator a b k j) (joined j)

  pub binary_same : (operator : BinaryOperator) (a b : Own) → IsDeclaredOwn s a → IsDeclaredOwn s b → binary_own g operator a b ≡ binary_own s operator a b
  binary_same operator a b h k = ap (cond (is_logical operator || is_relation operator) (Typed boolean_type)) (arithmetic_same operator a b h k)

  -- ---- rules

  has_unary_same : (operator : UnaryOperator) (a : Own) → IsDeclaredOwn s a → has_unary g operator a ≡ has_unary s operator a
  has_unary_same unary.Not a h = boolean_same a h
  has_unary_same unary.Plus a h = integral_same a h
  has_unary_same unary.Minus a h = integral_same a h
  has_unary_same unary.Abs a h = integral_same a h

  pub unary_rule_same : (operator : UnaryOperator) (place : ℕ) (a : Own) → IsDeclaredOwn s a → unary_rule g operator place a ≡ unary_rule s operator place a
  unary_rule_same operator place a h = ap (λ b. rule NO_MEANING place (is_known a && not b)) (has_unary_same operator a h)

  has_binary_same : (operator : BinaryOperator) (a b : Own) → IsDeclaredOwn s a → IsDeclaredOwn s b → has_binary g operator a b ≡ has_binary s operator a b
  has_binary_same operator a b h k =
      let joined = join_declared s a b h k in
      let logical : is_boolean g (join g a b) ≡ is_boolean s (join s a b) = ap (is_boolean g) (join_same a b h k) ∙ boolean_same (join s a b) joined in
      let relation_ : is_scalar g (join g a b) ≡ is_scalar s (join s a b) = ap (is_scalar g) (join_same a b h k) ∙ scalar_same (join s a b) joined in
      λ j. cond (is_logical operator) (logical j) (cond (is_relation operator) (relation_ j) (is_known (arithmetic_same operator a b h k j)))

  pub binary_rule_same : (operator : BinaryOperator) (place : ℕ) (a b : Own) → IsDeclaredOwn s a → IsDeclaredOwn s b
      → binary_rule g operator place a b ≡ binary_rule s operator place a b
  binary_rule_same operator place a b h k = ap (λ t. rule NO_MEANING place (is_known a && (is_known b && not t))) (has_binary_same operator a b h k)

  pub beside_same : (operator : BinaryOperator) (a : Own) → IsDeclaredOwn s a → beside g operator a ≡ beside s operator a
  beside_same operator Unknown h = refl
  beside_same operator Universal h = refl
  beside_same operator (Typed n) h =
      ap (λ f. cond (is_logical operator) boolean_wanted (cond (is_relation operator || is_integers f) (OfType n) Anything)) (same_form s g x n h)

  -- ---- what is expected

  wanted_kept : (w : Wanted) (own : Own) → is_wanted s w own ≡ true → is_wanted g w own ≡ true
  wanted_kept Anything own h = refl
  wanted_kept AnyInteger Unknown h = cc
  wanted_kept AnyInteger Universal h = refl
  wanted_kept AnyInteger (Typed n) h = test_kept s g (has_types s g x) is_integers refl n h
  wanted_kept (OfType n) Unknown h = refl
  wanted_kept (OfType n) Universal h = test_kept s g (has_types s g x) is_integers refl n h
  wanted_kept (OfType n) (Typed m) h = h

  pub mismatch_kept : (w : Wanted) (own : Own) (place : ℕ) → mismatch s w own place ≡ [] → mismatch g w own place ≡ []
  mismatch_kept w own place h = by_known (is_known own) refl
    where
      by_known : (b : Bool) → is_known own ≡ b → rule NO_MEANING place (b && not (is_wanted g w own)) ≡ []
      by_known false e = refl
      by_known true e =
          ap (λ t. rule NO_MEANING place (not t))
          (wanted_kept w own (judged (is_known own) (is_wanted s w own) (unbroken NO_MEANING place (is_known own && not (is_wanted s w own)) h) e))
