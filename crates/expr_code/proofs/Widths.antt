-- The words of the values of legal expressions, by their own types: operands, conditions and what is checked take one, and the values of an if expression the same.
use Rattle.std.proofs.Common.{◌≡◌, ◌++◌, ◌⊎◌, inl, inr, ℕ, suc, ℤ, [], ◌∷◌, List, Bool, true, false, ◌&&◌, ◌||◌, not, Some, None, refl, sym, ap, ◌∙◌, subst, arith}
use Rattle.std.specs.Prelude.{⊤, cond, nat_eq, pos, slice_get}
use Rattle.base.specs.declared.faults.TheConstants.{NAME_NOT_VISIBLE, NO_MEANING}
use Rattle.ada_tree.specs.declared.expression.Identifier.{Identifier}
use Rattle.ada_tree.specs.declared.expression.UnaryOperator.{UnaryOperator}
use Rattle.ada_tree.specs.declared.expression.UnaryOperator.TheVariants as unary
use Rattle.ada_tree.specs.declared.expression.BinaryOperator.{BinaryOperator}
use Rattle.ada_tree.specs.declared.expression.BinaryOperator.TheVariants as binary
use Rattle.ada_tree.specs.ExpressionTree as tree
use Rattle.ada_tree.specs.ExpressionTree.{ExprTree, ElsifValueTrees, NoElsifValues, MoreElsifValues, SelectorTrees, NoSelectors, MoreSelectors, Arguments, ArgumentTrees}
use Rattle.types.specs.declared.entity.Subtype.{Subtype}
use Rattle.types.specs.declared.entity.Role.{Role}
use Rattle.types.specs.declared.entity.Value.{Value as Scalar}
use Rattle.types.specs.declared.entity.Value.TheVariants as scalar
use Rattle.types.specs.declared.standing.Callee.TheVariants as callee
use Rattle.types.specs.declared.standing.Standing.TheVariants as standing
use Rattle.types.specs.Entities.{Integers, Profile}
use Rattle.types.specs.Evaluating.{fixed_value}
use Rattle.types.specs.Layouts.{words_of}
use Rattle.types.specs.Scopes.{Scope, base_range_of, boolean_type, form_at, is_visible, number_of, profile_of}
use Rattle.types.specs.Shapes.{Shape, Ranged, Logical, Timed, Repeated, Grouped, Shapeless, has_shape, narrowed, shape_of, shape_or_none, shapes, words}
use Rattle.types.specs.Standings.{call_stands, callee_profile, conversion_stands, result_stands, select_all, standing_of, stands_first, stands_for}
use Rattle.types.specs.Statics.{start_of}
use Rattle.types.specs.Values.{Number, Truth, value_of}
use Rattle.expr_soundness.specs.expr_rules.specs.declared.own.Own.{Own}
use Rattle.expr_soundness.specs.expr_rules.specs.declared.own.Own.TheVariants.{Unknown, Universal, Typed}
use Rattle.expr_soundness.specs.expr_rules.specs.declared.own.Wanted.{Wanted}
use Rattle.expr_soundness.specs.expr_rules.specs.declared.own.Wanted.TheVariants.{Anything, AnyInteger, OfType}
use Rattle.expr_soundness.specs.expr_rules.specs.Faults.{Faults, rule}
use Rattle.expr_soundness.specs.expr_rules.specs.NameRules.{mismatch, value_rule}
use Rattle.expr_soundness.specs.expr_rules.specs.Typing.{own_of, own_of_standing, elsif_own_of, unary_own, binary_own, arithmetic_own, time_own, integral_or_unknown, join, has_unary, has_binary, is_integers, is_times, is_spans, is_booleans, is_integral, is_boolean, is_time, is_span, is_scalar, is_known, is_logical, is_relation, is_wanted, boolean_wanted, typed_wanted}
use Rattle.expr_soundness.specs.expr_rules.specs.ExpressionRules.{faults_in, faults_of, elsif_faults, selectors_faults, below, beside, unary_rule, binary_rule, parts_own, parts_wanted, conditional_wanted, first_typed, or_first}
use Rattle.expr_soundness.specs.expr_rules.proofs.TypeShapes.{boolean_value, is_numeric, numeric_value}
use Rattle.expr_soundness.specs.expr_rules.proofs.TypedLaw.{back_empty, front_empty, integral_numeric, judged, judged_two, same_number, span_numeric, time_numeric, unbroken}
use Rattle.expr_soundness.specs.SoundScopes.{SoundScope}
use Rattle.expr_soundness.proofs.Expressions.{not_false}
use Rattle.expr_soundness.proofs.Goods.{Good, fixed_suits, good_all, good_first, known_all}
use Rattle.expr_soundness.proofs.Positions.{named}
use Rattle.expr_soundness.specs.expr_rules.specs.Laws.{is_value_of}
use Rattle.expr_code.specs.Branches.{Branch, in_front}
use Rattle.expr_code.specs.Emitting.{has_numbers, IsFit, IsLegalExpression, WantedFits}
use Rattle.expr_code.specs.Providing.{is_passable}
use Rattle.expr_code.specs.Seeing.{NamesProfile}
use Rattle.expr_code.specs.Widths.{AreWide, own_words, width_of}
use Rattle.expr_code.proofs.Conversions.{integers, with_argument}

-- ---- shapes

number_words : (x : Shape) (z : ℤ) → has_shape x (Number z) ≡ true → words x ≡ 1
number_words (Ranged first) z h = refl
number_words Logical z h = cc
number_words Timed z h = refl
number_words (Repeated n x) z h = cc
number_words (Grouped parts) z h = cc
number_words Shapeless z h = cc

truth_words : (x : Shape) (b : Bool) → has_shape x (Truth b) ≡ true → words x ≡ 1
truth_words (Ranged first) b h = cc
truth_words Logical b h = refl
truth_words Timed b h = cc
truth_words (Repeated n x) b h = cc
truth_words (Grouped parts) b h = cc
truth_words Shapeless b h = cc

narrowed_words : (t u : Subtype) (x : Shape) → words (narrowed t x) ≡ words (narrowed u x)
narrowed_words t u (Ranged first) = refl
narrowed_words t u Logical = refl
narrowed_words t u Timed = refl
narrowed_words t u (Repeated n x) = refl
narrowed_words t u (Grouped parts) = refl
narrowed_words t u Shapeless = refl

-- the words of an object are told by its type
pub words_by_type : (s : Scope) (t : Subtype) → words_of s (base_range_of t.type_number) ≡ words_of s t
words_by_type s t = narrowed_words (base_range_of t.type_number) t (shape_or_none (slice_get (shapes s) t.type_number))

-- ---- types of one word

module _ (s : Scope) where
  pub numeric_one : (a : Own) → is_numeric s a ≡ true → own_words s a ≡ 1
  numeric_one Unknown h = refl
  numeric_one Universal h = refl
  numeric_one (Typed n) h = number_words (shape_of s (base_range_of n)) (pos 0) (numeric_value s (Typed n) h (Number (pos 0)))

  pub boolean_one : (a : Own) → is_boolean s a ≡ true → own_words s a ≡ 1
  boolean_one Unknown h = refl
  boolean_one Universal h = refl
  boolean_one (Typed n) h = truth_words (shape_of s (base_range_of n)) true (boolean_value s (Typed n) h (Truth true))

  pub integral_one : (a : Own) → is_integral s a ≡ true → own_words s a ≡ 1
  integral_one a h = numeric_one a (integral_numeric s a h)

  either : (a b : Bool) → (a || b) ≡ true → (a ≡ true) ⊎ (b ≡ true)
  either true b h = inl refl
  either false b h = inr h

  scalar_one : (a : Own) → is_scalar s a ≡ true → own_words s a ≡ 1
  scalar_one a h =
      elim (either (is_integral s a) (is_boolean s a || (is_time s a || is_span s a)) h) [
        | inl i ↦ integral_one a i
        | inr r ↦ elim (either (is_boolean s a) (is_time s a || is_span s a) r) [
          | inl b ↦ boolean_one a b
          | inr t ↦ elim (either (is_time s a) (is_span s a) t) [ inl x ↦ numeric_one a (time_numeric s a x) | inr y ↦ numeric_one a (span_numeric s a y) ]
        ]
      ]

  -- two types with one type of both have the same words
  pub record SameWords (a b : Own) : Type 0 where
    pub left : own_words s a ≡ own_words s (join s a b)
    pub right : own_words s b ≡ own_words s (join s a b)
    pub known_left : is_known a ≡ true
    pub known_right : is_known b ≡ true

  same_words : (a b : Own) → is_known (join s a b) ≡ true → SameWords a b
  same_words Unknown b h = cc
  same_words Universal Unknown h = cc
  same_words Universal Universal h = record { left = refl; right = refl; known_left = refl; known_right = refl }
  same_words Universal (Typed n) h = by_test (is_integers (form_at s n)) refl h
    where
      by_test : (x : Bool) → is_integers (form_at s n) ≡ x → is_known (cond x (Typed n) Unknown) ≡ true → SameWords Universal (Typed n)
      by_test true e k =
          let one = integral_one (Typed n) e in
          let whole : join s Universal (Typed n) ≡ Typed n = ap (λ x. cond x (Typed n) Unknown) e in
          record { left = sym one ∙ ap (own_words s) (sym whole); right = ap (own_words s) (sym whole); known_left = refl; known_right = refl }
      by_test false e k = cc
  same_words (Typed n) Unknown h = cc
  same_words (Typed n) Universal h = by_test (is_integers (form_at s n)) refl h
    where
      by_test : (x : Bool) → is_integers (form_at s n) ≡ x → is_known (cond x (Typed n) Unknown) ≡ true → SameWords (Typed n) Universal
      by_test true e k =
          let one = integral_one (Typed n) e in
          let whole : join s (Typed n) Universal ≡ Typed n = ap (λ x. cond x (Typed n) Unknown) e in
          record { left = ap (own_words s) (sym whole); right = sym one ∙ ap (own_words s) (sym whole); known_left = refl; known_right = refl }
      by_test false e k = cc
  same_words (Typed n) (Typed m) h = by_test (nat_eq n m) refl h
    where
      by_test : (x : Bool) → nat_eq n m ≡ x → is_known (cond x (Typed n) Unknown) ≡ true → SameWords (Typed n) (Typed m)
      by_test true e k =
          let whole : join s (Typed n) (Typed m) ≡ Typed n = ap (λ x. cond x (Typed n) Unknown) e in
          record {
            left = ap (own_words s) (sym whole);
            right = ap (λ k. own_words s (Typed k)) (sym (same_number n m e)) ∙ ap (own_words s) (sym whole);
            known_left = refl;
            known_right = refl;
          }
      by_test false e k = cc

  -- ---- operators

  pub record OneEach (a b : Own) : Type 0 where
    pub left : own_words s a ≡ 1
    pub right : own_words s b ≡ 1

  joined_one : (a b : Own) → is_known (join s a b) ≡ true → own_words s (join s a b) ≡ 1 → OneEach a b
  joined_one a b known one = let same = same_words a b known in record { left = same.left ∙ one; right = same.right ∙ one }

  scalar_known : (a : Own) → is_scalar s a ≡ true → is_known a ≡ true
  scalar_known Unknown h = cc
  scalar_known Universal h = refl
  scalar_known (Typed n) h = refl

  boolean_known : (a : Own) → is_boolean s a ≡ true → is_known a ≡ true
  boolean_known Unknown h = cc
  boolean_known Universal h = refl
  boolean_known (Typed n) h = refl

  integral_known : (a : Own) → is_integral s a ≡ true → is_known a ≡ true
  integral_known Unknown h = cc
  integral_known Universal h = refl
  integral_known (Typed n) h = refl

  -- what an arithmetic operator takes and gives
  pub record AllOne (a b whole : Own) : Type 0 where
    pub left : own_words s a ≡ 1
    pub right : own_words s b ≡ 1
    pub both : own_words s whole ≡ 1

  integral_sum : (a b : Own) (x : Bool) → is_integral s (join s a b) ≡ x → is_known (cond x (join s a b) Unknown) ≡ true
      → AllOne a b (cond x (join s a b) Unknown)
  integral_sum a b true e k =
      let one = integral_one (join s a b) e in
      let each = joined_one a b (integral_known (join s a b) e) one in
      record { left = each.left; right = each.right; both = one }
  integral_sum a b false e k = cc

  time_sum : (operator : BinaryOperator) (a b : Own) → ((n : ℕ) → is_times (form_at s n) ≡ true → is_spans (form_at s (suc n)) ≡ true) → is_time s a ≡ true
      → is_known (time_own s operator a b) ≡ true
      → AllOne a b (time_own s operator a b)
  time_sum binary.Add (Typed n) b behind t h = by_test (is_span s b) refl h
    where
      by_test : (x : Bool) → is_span s b ≡ x → is_known (cond x (Typed n) Unknown) ≡ true → AllOne (Typed n) b (cond x (Typed n) Unknown)
      by_test true e k = let one = numeric_one (Typed n) (time_numeric s (Typed n) t) in record
          { left = one; right = numeric_one b (span_numeric s b e); both = one }
      by_test false e k = cc
  time_sum binary.Subtract (Typed n) b behind t h = by_test (is_time s b) refl h
    where
      by_test : (x : Bool) → is_time s b ≡ x → is_known (cond x (Typed (suc n)) Unknown) ≡ true → AllOne (Typed n) b (cond x (Typed (suc n)) Unknown)
      by_test true e k = record {
        left = numeric_one (Typed n) (time_numeric s (Typed n) t);
        right = numeric_one b (time_numeric s b e);
        both = numeric_one (Typed (suc n)) (span_numeric s (Typed (suc n)) (behind n t));
      }
      by_test false e k = cc
  time_sum operator Unknown b behind t h = cc
  time_sum operator Universal b behind t h = cc
  time_sum operator (Typed n) b behind t h = cc

  sum_one : (operator : BinaryOperator) (a b : Own) → ((n : ℕ) → is_times (form_at s n) ≡ true → is_spans (form_at s (suc n)) ≡ true)
      → is_known (arithmetic_own s operator a b) ≡ true
      → AllOne a b (arithmetic_own s operator a b)
  sum_one operator a b behind h = by_test (is_time s a) refl h
    where
      by_test : (x : Bool) → is_time s a ≡ x → is_known (cond x (time_own s operator a b) (integral_or_unknown s (join s a b))) ≡ true
          → AllOne a b (cond x (time_own s operator a b) (integral_or_unknown s (join s a b)))
      by_test true e k = time_sum operator a b behind e k
      by_test false e k = integral_sum a b (is_integral s (join s a b)) refl k

  module _ (sound : SoundScope s) where
    boolean_width : own_words s (Typed boolean_type) ≡ 1
    boolean_width = boolean_one (Typed boolean_type) (ap is_booleans sound.boolean)

    pub binary_one : (operator : BinaryOperator) (a b : Own) → has_binary s operator a b ≡ true → AllOne a b (binary_own s operator a b)
    binary_one operator a b h = by_tests (is_logical operator) (is_relation operator) h
      where
        by_tests : (l r : Bool) → cond l (is_boolean s (join s a b)) (cond r (is_scalar s (join s a b)) (is_known (arithmetic_own s operator a b))) ≡ true
            → AllOne a b (cond (l || r) (Typed boolean_type) (arithmetic_own s operator a b))
        by_tests true r k =
            let each = joined_one a b (boolean_known (join s a b) k) (boolean_one (join s a b) k) in
            record { left = each.left; right = each.right; both = boolean_width }
        by_tests false true k =
            let each = joined_one a b (scalar_known (join s a b) k) (scalar_one (join s a b) k) in
            record { left = each.left; right = each.right; both = boolean_width }
        by_tests false false k = sum_one operator a b sound.span k

    kept : (a : Own) → is_integral s a ≡ true → integral_or_unknown s a ≡ a
    kept a h = ap (λ x. cond x a Unknown) h

    pub unary_one : (operator : UnaryOperator) (a : Own) → has_unary s operator a ≡ true → OneEach a (unary_own s operator a)
    unary_one unary.Not a h = record { left = boolean_one a h; right = boolean_width }
    unary_one unary.Plus a h = let one = integral_one a h in record { left = one; right = ap (own_words s) (kept a h) ∙ one }
    unary_one unary.Minus a h = let one = integral_one a h in record { left = one; right = ap (own_words s) (kept a h) ∙ one }
    unary_one unary.Abs a h = let one = integral_one a h in record { left = one; right = ap (own_words s) (kept a h) ∙ one }

    unary_known : (operator : UnaryOperator) (a : Own) → has_unary s operator a ≡ true → is_known a ≡ true → is_known (unary_own s operator a) ≡ true
    unary_known unary.Not a h k = refl
    unary_known unary.Plus a h k = ap is_known (kept a h) ∙ k
    unary_known unary.Minus a h k = ap is_known (kept a h) ∙ k
    unary_known unary.Abs a h k = ap is_known (kept a h) ∙ k

    pair_known : (operator : BinaryOperator) (a b : Own) (l r : Bool)
        → cond l (is_boolean s (join s a b)) (cond r (is_scalar s (join s a b)) (is_known (arithmetic_own s operator a b))) ≡ true
        → is_known (cond (l || r) (Typed boolean_type) (arithmetic_own s operator a b)) ≡ true
    pair_known operator a b true r h = refl
    pair_known operator a b false true h = refl
    pair_known operator a b false false h = h

    -- ---- if expressions

    -- a known type, and the one that is wanted
    pub record Fits (w : Wanted) (own : Own) : Type 0 where
      pub known : is_known own ≡ true
      pub wanted : is_wanted s w own ≡ true

    pub fits : (w : Wanted) (own : Own) (place : ℕ) → is_known own ≡ true → mismatch s w own place ≡ [] → Fits w own
    fits w own place known h = record {
      known = known;
      wanted = judged (is_known own) (is_wanted s w own)
          (unbroken NO_MEANING place (is_known own && not (is_wanted s w own)) h) known;
    }

    abbrev AllFit : Wanted → ElsifValueTrees → Type 0
    AllFit w NoElsifValues = ⊤
    AllFit w (MoreElsifValues condition value rest) = (Fits boolean_wanted (own_of s condition)) × (Fits w (own_of s value)) × (AllFit w rest)

    typed_if : (n m : ℕ) (x : Bool) → x ≡ true → nat_eq n m ≡ true → Fits (OfType n) (cond x (Typed m) Unknown)
    typed_if n m true e h = record { known = refl; wanted = h }
    typed_if n m false e h = cc

    nat_eq_same : (n m k : ℕ) → nat_eq n m ≡ true → nat_eq n k ≡ true → nat_eq m k ≡ true
    nat_eq_same n m k h i = grind (arith, h, i)

    join_fits : (n : ℕ) (a b : Own) → Fits (OfType n) a → Fits (OfType n) b → Fits (OfType n) (join s a b)
    join_fits n Unknown b i j = let k = i.known in cc
    join_fits n Universal Unknown i j = let k = j.known in cc
    join_fits n Universal Universal i j = i
    join_fits n Universal (Typed m) i j = typed_if n m (is_integers (form_at s m))
        (ap (λ k. is_integers (form_at s k)) (sym (same_number n m j.wanted)) ∙ i.wanted) j.wanted
    join_fits n (Typed m) Unknown i j = let k = j.known in cc
    join_fits n (Typed m) Universal i j = typed_if n m (is_integers (form_at s m))
        (ap (λ k. is_integers (form_at s k)) (sym (same_number n m i.wanted)) ∙ j.wanted) i.wanted
    join_fits n (Typed m) (Typed k) i j = typed_if n m (nat_eq m k) (nat_eq_same n m k i.wanted j.wanted) i.wanted

    elsif_fits : (n : ℕ) (elsifs : ElsifValueTrees) (a : Own) → Fits (OfType n) a → AllFit (OfType n) elsifs → Fits (OfType n) (elsif_own_of s a elsifs)
    elsif_fits n NoElsifValues a i all = i
    elsif_fits n (MoreElsifValues condition value rest) a i all = elsif_fits n rest (join s a (own_of s value)) (join_fits n a (own_of s value) i all.1) all.2

    abbrev is_typed : Own → Bool
    is_typed (Typed n) = true
    is_typed own = false

    untyped_first : (a b : Own) → is_typed (or_first a b) ≡ false → (is_typed a ≡ false) × (is_typed b ≡ false)
    untyped_first (Typed n) b h = cc
    untyped_first Universal b h = (refl, h)
    untyped_first Unknown b h = (refl, h)

    universal_is : (a : Own) → is_known a ≡ true → is_typed a ≡ false → a ≡ Universal
    universal_is Unknown h k = cc
    universal_is Universal h k = refl
    universal_is (Typed n) h k = cc

    universal_elsif : (w : Wanted) (elsifs : ElsifValueTrees) (last : Own) → AllFit w elsifs → is_typed (first_typed s elsifs last) ≡ false
        → (elsif_own_of s Universal elsifs ≡ Universal) × (is_typed last ≡ false)
    universal_elsif w NoElsifValues last all h = (refl, h)
    universal_elsif w (MoreElsifValues condition value rest) last all h =
        let u = untyped_first (own_of s value) (first_typed s rest last) h in
        let one = universal_is (own_of s value) all.1.known u.0 in
        let more = universal_elsif w rest last all.2 u.1 in
        (ap (λ o. elsif_own_of s (join s Universal o) rest) one ∙ more.0, more.1)

    pub record PartsFit (w : Wanted) (value : ExprTree) (elsifs : ElsifValueTrees) (last : ExprTree) : Type 0 where
      pub first : Fits w (own_of s value)
      pub middle : AllFit w elsifs
      pub end : Fits w (own_of s last)

    parts_of : (n : ℕ) (value last : ExprTree) (elsifs : ElsifValueTrees) → PartsFit (OfType n) value elsifs last
        → is_known (parts_own s value elsifs last) ≡ true
    parts_of n value last elsifs all = (join_fits n (elsif_own_of s (own_of s value) elsifs) (own_of s last)
        (elsif_fits n elsifs (own_of s value) all.first all.middle) all.end).known

    parts_universal : (w : Wanted) (value last : ExprTree) (elsifs : ElsifValueTrees)
        → is_typed (or_first (own_of s value) (first_typed s elsifs (own_of s last))) ≡ false
        → PartsFit w value elsifs last → is_known (parts_own s value elsifs last) ≡ true
    parts_universal w value last elsifs h all =
        let u = untyped_first (own_of s value) (first_typed s elsifs (own_of s last)) h in
        let first = universal_is (own_of s value) all.first.known u.0 in
        let more = universal_elsif w elsifs (own_of s last) all.middle u.1 in
        let end = universal_is (own_of s last) all.end.known more.1 in
        let middle = ap (λ o. elsif_own_of s o elsifs) first ∙ more.0 in
        let whole : parts_own s value elsifs last ≡ Universal = λ j. join s (middle j) (end j) in
        ap is_known whole

    first_known : (value last : ExprTree) (elsifs : ElsifValueTrees) (first : Own) → or_first (own_of s value) (first_typed s elsifs (own_of s last)) ≡ first
        → PartsFit (typed_wanted first) value elsifs last → is_known (parts_own s value elsifs last) ≡ true
    first_known value last elsifs (Typed n) e all = parts_of n value last elsifs all
    first_known value last elsifs Universal e all = parts_universal Anything value last elsifs (ap is_typed e) all
    first_known value last elsifs Unknown e all = parts_universal Anything value last elsifs (ap is_typed e) all

    parts_known : (value last : ExprTree) (elsifs : ElsifValueTrees) (w : Wanted) (own : Own) → parts_own s value elsifs last ≡ own
        → PartsFit (parts_wanted own w (or_first (own_of s value) (first_typed s elsifs (own_of s last)))) value elsifs last
        → is_known (parts_own s value elsifs last) ≡ true
    parts_known value last elsifs w Universal e all = ap is_known e
    parts_known value last elsifs w (Typed n) e all = ap is_known e
    parts_known value last elsifs (OfType n) Unknown e all = parts_of n value last elsifs all
    parts_known value last elsifs Anything Unknown e all = first_known value last elsifs (or_first (own_of s value) (first_typed s elsifs (own_of s last)))
        refl all
    parts_known value last elsifs AnyInteger Unknown e all = first_known value last elsifs
        (or_first (own_of s value) (first_typed s elsifs (own_of s last))) refl all

    -- ---- names

    known_name : (first : Identifier) (selectors : SelectorTrees) (w : Wanted) → faults_in s w (tree.Named first selectors) ≡ []
        → is_known (own_of s (tree.Named first selectors)) ≡ true
    known_name first selectors w h =
        let hidden = rule NAME_NOT_VISIBLE first.place (not (is_visible s first.name)) in
        let parts = selectors_faults s first.place (stands_first s (number_of s first.name)) selectors in
        let whole = value_rule first.place (standing_of s first selectors) in
        let two = front_empty (hidden ++ parts) whole h in
        let visible = not_false (is_visible s first.name) (unbroken NAME_NOT_VISIBLE first.place (not (is_visible s first.name))
        (front_empty hidden parts two)) in
        let x = named s first.name visible in
        let is : stands_first s (number_of s first.name) ≡ stands_for x.number (Some x.entity) = ap (stands_first s) x.numbered ∙ ap (stands_for x.number)
        x.stands in
        ap (λ u. is_known (own_of_standing (select_all s u selectors))) is
        ∙ known_all s sound first.place selectors (stands_for x.number (Some x.entity)) (good_first s sound x.number x.entity x.stands)
        (subst (λ u. selectors_faults s first.place u selectors ≡ []) is (back_empty hidden parts two))
        (subst (λ u. value_rule first.place (select_all s u selectors) ≡ []) is (back_empty (hidden ++ parts) whole h))

    -- ---- expressions

    has_of : (o : BinaryOperator) (a b : ExprTree) → is_known (own_of s a) ≡ true → is_known (own_of s b) ≡ true
        → binary_rule s o (start_of a) (own_of s a) (own_of s b) ≡ []
        → has_binary s o (own_of s a) (own_of s b) ≡ true
    has_of o a b j k h = judged_two (is_known (own_of s a)) (is_known (own_of s b)) (has_binary s o (own_of s a) (own_of s b))
        (unbroken NO_MEANING (start_of a) _ h) j k

    has_sign : (o : UnaryOperator) (place : ℕ) (e : ExprTree) → is_known (own_of s e) ≡ true → unary_rule s o place (own_of s e) ≡ []
        → has_unary s o (own_of s e) ≡ true
    has_sign o place e k h = judged (is_known (own_of s e)) (has_unary s o (own_of s e)) (unbroken NO_MEANING place _ h) k

    mutual
      pub known : (e : ExprTree) (w : Wanted) → faults_in s w e ≡ [] → is_known (own_of s e) ≡ true
      known (tree.Number z place) w h = refl
      known (tree.Named first selectors) w h = known_name first selectors w h
      known (tree.Parenthesized place e) w h = known e w h
      known (tree.Unary o place e) w h =
          let inside = faults_in s (below o w) e in
          let broken = unary_rule s o place (own_of s e) in
          let one = known e (below o w) (front_empty inside broken h) in
          unary_known o (own_of s e) (has_sign o place e one (back_empty inside broken h)) one
      known (tree.Binary o a b) w h =
          let wa = beside s o (own_of s b) in
          let wb = beside s o (own_of s a) in
          let broken = binary_rule s o (start_of a) (own_of s a) (own_of s b) in
          let two = front_empty (faults_in s wa a ++ faults_in s wb b) broken h in
          let left = known a wa (front_empty (faults_in s wa a) (faults_in s wb b) two) in
          let right = known b wb (back_empty (faults_in s wa a) (faults_in s wb b) two) in
          pair_known o (own_of s a) (own_of s b) (is_logical o) (is_relation o)
          (has_of o a b left right (back_empty (faults_in s wa a ++ faults_in s wb b) broken h))
      known (tree.Conditional place condition value elsifs last) w h =
          let inner = conditional_wanted s w value elsifs last in
          let c = faults_in s boolean_wanted condition in
          let cm = mismatch s boolean_wanted (own_of s condition) (start_of condition) in
          let v = faults_in s inner value in
          let vm = mismatch s inner (own_of s value) (start_of value) in
          let m = elsif_faults s inner elsifs in
          let l = faults_in s inner last in
          let lm = mismatch s inner (own_of s last) (start_of last) in
          let three = front_empty (((c ++ cm) ++ (v ++ vm)) ++ m) (l ++ lm) h in
          let two = front_empty ((c ++ cm) ++ (v ++ vm)) m three in
          let its = back_empty (c ++ cm) (v ++ vm) two in
          let ends = back_empty (((c ++ cm) ++ (v ++ vm)) ++ m) (l ++ lm) h in
          parts_known value last elsifs w (parts_own s value elsifs last) refl
          (record {
            first = fits inner (own_of s value) (start_of value) (known value inner (front_empty v vm its)) (back_empty v vm its);
            middle = all_fit inner elsifs (back_empty ((c ++ cm) ++ (v ++ vm)) m three);
            end = fits inner (own_of s last) (start_of last) (known last inner (front_empty l lm ends)) (back_empty l lm ends);
          })

      all_fit : (w : Wanted) (elsifs : ElsifValueTrees) → elsif_faults s w elsifs ≡ [] → AllFit w elsifs
      all_fit w NoElsifValues h = tt
      all_fit w (MoreElsifValues condition value rest) h =
          let c = faults_in s boolean_wanted condition in
          let cm = mismatch s boolean_wanted (own_of s condition) (start_of condition) in
          let v = faults_in s w value in
          let vm = mismatch s w (own_of s value) (start_of value) in
          let more = elsif_faults s w rest in
          let two = front_empty ((c ++ cm) ++ (v ++ vm)) more h in
          let holds = front_empty (c ++ cm) (v ++ vm) two in
          let its = back_empty (c ++ cm) (v ++ vm) two in (
            fits boolean_wanted (own_of s condition) (start_of condition) (known condition boolean_wanted (front_empty c cm holds)) (back_empty c cm holds),
            fits w (own_of s value) (start_of value) (known value w (front_empty v vm its)) (back_empty v vm its),
            all_fit w rest (back_empty ((c ++ cm) ++ (v ++ vm)) more h),
          )

    -- ---- operators and their operands

    pub binary_width : (o : BinaryOperator) (a b : ExprTree) → IsLegalExpression s (tree.Binary o a b) → AllOne (own_of s a) (own_of s b) (own_of s (tree.Binary o a b))
    binary_width o a b h =
        let wa = beside s o (own_of s b) in
        let wb = beside s o (own_of s a) in
        let broken = binary_rule s o (start_of a) (own_of s a) (own_of s b) in
        let two = front_empty (faults_in s wa a ++ faults_in s wb b) broken h.unbroken in
        let left = known a wa (front_empty (faults_in s wa a) (faults_in s wb b) two) in
        let right = known b wb (back_empty (faults_in s wa a) (faults_in s wb b) two) in
        binary_one o (own_of s a) (own_of s b) (has_of o a b left right (back_empty (faults_in s wa a ++ faults_in s wb b) broken h.unbroken))

    pub unary_width : (o : UnaryOperator) (place : ℕ) (e : ExprTree) → IsLegalExpression s (tree.Unary o place e) → OneEach (own_of s e) (own_of s (tree.Unary o place e))
    unary_width o place e h =
        let inside = faults_in s (below o h.wanted) e in
        let broken = unary_rule s o place (own_of s e) in
        unary_one o (own_of s e) (has_sign o place e (known e (below o h.wanted) (front_empty inside broken h.unbroken)) (back_empty inside broken h.unbroken))

    -- ---- the parts of if expressions

    boolean_fits : (own : Own) → Fits boolean_wanted own → own_words s own ≡ 1
    boolean_fits Unknown h = refl
    boolean_fits Universal h = refl
    boolean_fits (Typed m) h = ap (λ n. own_words s (Typed n)) (sym (same_number boolean_type m h.wanted)) ∙ boolean_width

    branches_wide : (w : Wanted) (a : Own) (all : List Branch) → AllFit w (in_front all NoElsifValues)
        → is_known (elsif_own_of s a (in_front all NoElsifValues)) ≡ true
        → (is_known a ≡ true) × (own_words s a ≡ own_words s (elsif_own_of s a (in_front all NoElsifValues))) × AreWide s
        (own_words s (elsif_own_of s a (in_front all NoElsifValues))) all
    branches_wide w a [] fit h = (h, refl, tt)
    branches_wide w a (b ∷ all) fit h =
        let more = branches_wide w (join s a (own_of s b.value)) all fit.2 h in
        let same = same_words a (own_of s b.value) more.0 in
        (same.known_left, same.left ∙ more.1, (boolean_fits (own_of s b.condition) fit.0, same.right ∙ more.1, more.2))

    -- conditions take one word, and all values those of the first
    pub record PartsAreWide (c v : ExprTree) (all : List Branch) (l e : ExprTree) : Type 0 where
      pub condition : width_of s c ≡ 1
      pub elsifs : AreWide s (width_of s v) all
      pub last : width_of s l ≡ width_of s v
      pub whole : width_of s v ≡ width_of s e

    pub conditional_wide : (place : ℕ) (condition value : ExprTree) (all : List Branch) (last : ExprTree)
        → IsLegalExpression s (tree.Conditional place condition value (in_front all NoElsifValues) last)
        → PartsAreWide condition value all last (tree.Conditional place condition value (in_front all NoElsifValues) last)
    conditional_wide place condition value all last h =
        let elsifs = in_front all NoElsifValues in
        let inner = conditional_wanted s h.wanted value elsifs last in
        let c = faults_in s boolean_wanted condition in
        let cm = mismatch s boolean_wanted (own_of s condition) (start_of condition) in
        let v = faults_of s inner value in
        let m = elsif_faults s inner elsifs in
        let l = faults_of s inner last in
        let three = front_empty (((c ++ cm) ++ v) ++ m) l h.unbroken in
        let two = front_empty ((c ++ cm) ++ v) m three in
        let holds = front_empty (c ++ cm) v two in
        let fit = all_fit inner elsifs (back_empty ((c ++ cm) ++ v) m three) in
        let whole = known (tree.Conditional place condition value elsifs last) h.wanted h.unbroken in
        let ends = same_words (elsif_own_of s (own_of s value) elsifs) (own_of s last) whole in
        let inside = branches_wide inner (own_of s value) all fit ends.known_left in
        record {
          condition = boolean_fits (own_of s condition) (fits boolean_wanted (own_of s condition) (start_of condition)
              (known condition boolean_wanted (front_empty c cm holds)) (back_empty c cm holds));
          elsifs = subst (λ n. AreWide s n all) (sym inside.1) inside.2;
          last = ends.right ∙ sym ends.left ∙ sym inside.1;
          whole = inside.1 ∙ ends.left;
        }

    -- a condition, wherever one is wanted
    pub condition_width : (e : ExprTree) → faults_of s boolean_wanted e ≡ [] → width_of s e ≡ 1
    condition_width e h =
        let inside = faults_in s boolean_wanted e in
        let ends = mismatch s boolean_wanted (own_of s e) (start_of e) in
        boolean_fits (own_of s e) (fits boolean_wanted (own_of s e) (start_of e) (known e boolean_wanted (front_empty inside ends h)) (back_empty inside ends h))

    -- ---- what is checked against a subtype

    passable_one : (t : Subtype) → is_passable s t ≡ true → own_words s (Typed t.type_number) ≡ 1
    passable_one t h = elim (either (has_numbers (form_at s t.type_number)) (is_booleans (form_at s t.type_number)) h)
        [ inl i ↦ numeric_one (Typed t.type_number) i | inr b ↦ boolean_one (Typed t.type_number) b ]

    pub fit_width : (t : Subtype) (e : ExprTree) → IsFit s t e → is_passable s t ≡ true → width_of s e ≡ 1
    fit_width t e h passable = by_wanted h.wanted h.fits (own_of s e)
        (fits h.wanted (own_of s e) (start_of e) (known e h.wanted (front_empty inside ends h.unbroken)) (back_empty inside ends h.unbroken))
      where
        inside : Faults
        inside = faults_in s h.wanted e

        ends : Faults
        ends = mismatch s h.wanted (own_of s e) (start_of e)

        by_wanted : (w : Wanted) → WantedFits s w t → (own : Own) → Fits w own → own_words s own ≡ 1
        by_wanted (OfType n) same Unknown f = refl
        by_wanted (OfType n) same Universal f = refl
        by_wanted (OfType n) same (Typed m) f = ap (λ k. own_words s (Typed k)) (sym (same_number n m f.wanted) ∙ same) ∙ passable_one t passable
        by_wanted AnyInteger same own f = integral_one own f.wanted
        by_wanted Anything same own f = absurd same

    pub numbers_fit_width : (t : Subtype) (e : ExprTree) → IsFit s t e → has_numbers (form_at s t.type_number) ≡ true → width_of s e ≡ 1
    numbers_fit_width t e h numbers = fit_width t e h (ap (λ b. b || is_booleans (form_at s t.type_number)) numbers)

    pub integers_fit_width : (t : Subtype) (e : ExprTree) → IsFit s t e → form_at s t.type_number ≡ Some Integers → width_of s e ≡ 1
    integers_fit_width t e h form = numbers_fit_width t e h (ap has_numbers form)

    -- ---- names

    value_one : (own : Own) (v : Scalar) → is_value_of s own (value_of v) ≡ true → own_words s own ≡ 1
    value_one Unknown v h = refl
    value_one Universal v h = refl
    value_one (Typed n) (scalar.Number z) h = number_words (shape_of s (base_range_of n)) z h
    value_one (Typed n) (scalar.Truth b) h = truth_words (shape_of s (base_range_of n)) b h

    pub fixed_width : (first : Identifier) (selectors : SelectorTrees) (v : Scalar) → IsLegalExpression s (tree.Named first selectors)
        → fixed_value (standing_of s first selectors) ≡ Some v
        → width_of s (tree.Named first selectors) ≡ 1
    fixed_width first selectors v h fixed =
        let hidden = rule NAME_NOT_VISIBLE first.place (not (is_visible s first.name)) in
        let parts = selectors_faults s first.place (stands_first s (number_of s first.name)) selectors in
        let whole = value_rule first.place (standing_of s first selectors) in
        let two = front_empty (hidden ++ parts) whole h.unbroken in
        let visible = not_false (is_visible s first.name) (unbroken NAME_NOT_VISIBLE first.place (not (is_visible s first.name))
        (front_empty hidden parts two)) in
        let x = named s first.name visible in
        let is : stands_first s (number_of s first.name) ≡ stands_for x.number (Some x.entity) = ap (stands_first s) x.numbered ∙ ap (stands_for x.number)
        x.stands in
        let good = good_all s sound first.place selectors (stands_for x.number (Some x.entity)) (good_first s sound x.number x.entity x.stands)
        (subst (λ u. selectors_faults s first.place u selectors ≡ []) is (back_empty hidden parts two)) in
        value_one (own_of s (tree.Named first selectors)) v
        (fixed_suits s sound (standing_of s first selectors) v (subst (λ u. Good s (select_all s u selectors)) (sym is) good) fixed)

  -- ---- names of objects, conversions and calls

  module _ (first : Identifier) where
    pub object_width : (r : Role) (t : Subtype) → stands_first s (number_of s first.name) ≡ standing.Part r t
        → width_of s (tree.Named first NoSelectors) ≡ words_of s t
    object_width r t stands = ap (λ u. own_words s (own_of_standing (select_all s u NoSelectors))) stands ∙ words_by_type s t

    pub part_width : (selectors : SelectorTrees) (r : Role) (t last : Subtype) → stands_first s (number_of s first.name) ≡ standing.Part r t
        → select_all s (standing.Part r t) selectors ≡ standing.Part r last
        → width_of s (tree.Named first selectors) ≡ words_of s last
    part_width selectors r t last stands ends = ap (λ u. own_words s (own_of_standing (select_all s u selectors))) stands ∙ ap
        (λ u. own_words s (own_of_standing u)) ends ∙ words_by_type s last

    pub conversion_width : (e : ExprTree) (t : Subtype) → stands_first s (number_of s first.name) ≡ standing.Named t
        → IsLegalExpression s (tree.Named first (with_argument e)) → width_of s (tree.Named first (with_argument e)) ≡ 1
    conversion_width e t stands legal =
        let form = integers s first e t stands legal in
        ap (λ u. own_words s (own_of_standing (select_all s u (with_argument e)))) stands
        ∙ ap (λ o. own_words s (own_of_standing (select_all s (conversion_stands t o true) NoSelectors))) form
        ∙ integral_one (Typed t.type_number) (ap is_integers form)

    module _ (profile : Profile) (t : Subtype) (names : NamesProfile s first.name profile) (result : profile.result ≡ Some t) (single : words_of s t ≡ 1) where
      callee_is : stands_first s (number_of s first.name) ≡ standing.Callee (callee.Direct names.number)
      callee_is = ap (stands_first s) names.numbered ∙ ap (stands_for names.number) names.stands

      ends_one : call_stands (callee_profile s (callee.Direct names.number)) ≡ standing.Given t None
      ends_one = ap (λ o. call_stands (profile_of o)) names.stands ∙ ap result_stands result

      pub call_alone_width : width_of s (tree.Named first NoSelectors) ≡ 1
      call_alone_width =
          ap (λ u. own_words s (own_of_standing (select_all s u NoSelectors))) callee_is ∙ ap (λ u. own_words s (own_of_standing u)) ends_one ∙
          words_by_type s t ∙ single

      pub call_width : (all : ArgumentTrees) → width_of s (tree.Named first (MoreSelectors (Arguments all) NoSelectors)) ≡ 1
      call_width all =
          ap (λ u. own_words s (own_of_standing (select_all s u (MoreSelectors (Arguments all) NoSelectors)))) callee_is
          ∙ ap (λ u. own_words s (own_of_standing (select_all s u NoSelectors))) ends_one
          ∙ words_by_type s t
          ∙ single
