-- A static expression that breaks no rule has a value, of the type that is expected.
use Rattle.std.proofs.Common.{◌≡◌, ◌++◌, ℤ, [], Bool, true, false, not, Option, Some, None, refl, sym, ap, ◌∙◌, subst}
use Rattle.expr_soundness.specs.ada_tree.specs.declared.expression.Identifier.{Identifier}
use Rattle.expr_soundness.specs.ada_tree.specs.ExpressionTree as tree
use Rattle.expr_soundness.specs.ada_tree.specs.ExpressionTree.{ExprTree, Named, Parenthesized, Conditional, Unary, Binary, SelectorTrees}
use Rattle.types.specs.declared.entity.Subtype.{Subtype}
use Rattle.types.specs.declared.entity.Value.{Value as Scalar}
use Rattle.types.specs.declared.standing.Standing.{Standing}
use Rattle.types.specs.declared.standing.Standing.TheVariants as standing
use Rattle.types.specs.declared.statics.StaticForm.{StaticForm}
use Rattle.types.specs.declared.statics.StaticForm.TheVariants.{Static, NotStatic, Doubtful}
use Rattle.types.specs.Scopes.{Scope, form_at, is_visible, number_of}
use Rattle.types.specs.Standings.{select_all, standing_of, stands_first, stands_for}
use Rattle.types.specs.Values.{Value, Number, value_of}
use Rattle.types.specs.Evaluations.{Val, Gives, Raises, Meaningless}
use Rattle.types.specs.Places.{meaning_of}
use Rattle.types.specs.Evaluating.{fixed_value, name_with}
use Rattle.types.specs.Statics.{both, name_form, no_calls, start_of, static_form, static_place, static_value}
use Rattle.expr_soundness.specs.expr_rules.specs.declared.own.Own.{Own}
use Rattle.expr_soundness.specs.expr_rules.specs.declared.own.Own.TheVariants.{Unknown, Universal, Typed}
use Rattle.expr_soundness.specs.expr_rules.specs.declared.own.Wanted.{Wanted}
use Rattle.expr_soundness.specs.expr_rules.specs.declared.own.Wanted.TheVariants as wanted
use Rattle.expr_soundness.specs.expr_rules.specs.Faults.{rule}
use Rattle.expr_soundness.specs.expr_rules.specs.Typing.{is_integers, is_integral, is_known, is_wanted, own_of, own_of_standing}
use Rattle.expr_soundness.specs.expr_rules.specs.NameRules.{mismatch, value_rule}
use Rattle.expr_soundness.specs.expr_rules.specs.ExpressionRules.{below, beside, binary_rule, faults_in, faults_of, selectors_faults, unary_rule}
use Rattle.expr_soundness.specs.expr_rules.specs.Laws.{IsTyped, is_value_of, suits}
use Rattle.expr_soundness.specs.expr_rules.specs.StaticRules.{form_rule, if_unbroken, is_outside, scalar_if_known, static_faults, static_result, static_scalar}
use Rattle.expr_soundness.specs.expr_rules.specs.StaticRules as statics
use Rattle.expr_soundness.specs.expr_rules.proofs.TypedLaw.{Expected, as_number, back_empty, binary_typed, expected, front_empty, integral_numeric, same_number, unary_typed, unbroken}
use Rattle.expr_soundness.specs.SoundScopes.{SoundScope}
use Rattle.expr_soundness.proofs.Positions.{named}
use Rattle.expr_soundness.proofs.Expressions.{not_false}
use Rattle.expr_soundness.proofs.Goods.{Good, fixed_suits, good_all, good_first, known_all}

-- ---- whether it is known of an expression that it is static, or not

abbrev pub is_decided : StaticForm → Bool
is_decided Doubtful = false
is_decided f = true

both_decided : (a b : StaticForm) → is_decided a ≡ true → is_decided b ≡ true → is_decided (both a b) ≡ true
both_decided Static b h k = k
both_decided NotStatic b h k = refl
both_decided Doubtful b h k = cc

pub both_left : (a b : StaticForm) → both a b ≡ Static → a ≡ Static
both_left Static b h = refl
both_left NotStatic b h = cc
both_left Doubtful Static h = cc
both_left Doubtful NotStatic h = cc
both_left Doubtful Doubtful h = cc

pub both_right : (a b : StaticForm) → both a b ≡ Static → b ≡ Static
both_right Static b h = h
both_right NotStatic b h = cc
both_right Doubtful Static h = refl
both_right Doubtful NotStatic h = cc
both_right Doubtful Doubtful h = cc

-- a name that is static has a fixed value
pub static_name : (w : Standing) → name_form w ≡ Static → (v : Scalar) × (fixed_value w ≡ Some v)
static_name (standing.Fixed t (Some v)) h = (v, refl)
static_name (standing.Given t (Some v)) h = (v, refl)
static_name (standing.Plain z) h = (_, refl)
static_name standing.Doubtful h = cc
static_name (standing.Fixed t None) h = cc
static_name (standing.Given t None) h = cc
static_name _ h = cc

module _ (s : Scope) (sound : SoundScope s) where
  good_decided : (w : Standing) → Good s w → is_decided (name_form w) ≡ true
  good_decided (standing.Fixed t (Some v)) g = refl
  good_decided (standing.Fixed t None) g = refl
  good_decided (standing.Given t (Some v)) g = refl
  good_decided (standing.Given t None) g = refl
  good_decided (standing.Plain z) g = refl
  good_decided standing.Doubtful g = absurd g
  good_decided (standing.Part r t) g = refl
  good_decided (standing.Named t) g = refl
  good_decided (standing.Callee f) g = refl
  good_decided standing.Put g = refl
  good_decided (standing.Protected n) g = refl
  good_decided standing.Statement g = refl
  good_decided standing.Task g = refl
  good_decided standing.Other g = refl

  -- ---- names

  -- what is known of a name that breaks no rule
  pub record IsGoodName (first : Identifier) (selectors : SelectorTrees) : Type 0 where
    pub good : Good s (standing_of s first selectors)
    pub known : is_known (own_of_standing (standing_of s first selectors)) ≡ true

  pub good_name : (w : Wanted) (first : Identifier) (selectors : SelectorTrees) → faults_in s w (Named first selectors) ≡ [] → IsGoodName first selectors
  good_name w first selectors h =
      let hidden = rule 10 first.place (not (is_visible s first.name)) in
      let parts = selectors_faults s first.place (stands_first s (number_of s first.name)) selectors in
      let whole = value_rule first.place (standing_of s first selectors) in
      let two = front_empty (hidden ++ parts) whole h in
      let visible = not_false (is_visible s first.name) (unbroken 10 first.place (not (is_visible s first.name)) (front_empty hidden parts two)) in
      let x = named s first.name visible in
      let is : stands_first s (number_of s first.name) ≡ stands_for x.number (Some x.entity) = ap (stands_first s) x.numbered ∙ ap (stands_for x.number) x.stands in
      let good : Good s (stands_for x.number (Some x.entity)) = good_first s sound x.number x.entity x.stands in
      let part = subst (λ u. selectors_faults s first.place u selectors ≡ []) is (back_empty hidden parts two) in
      let value = subst (λ u. value_rule first.place (select_all s u selectors) ≡ []) is (back_empty (hidden ++ parts) whole h) in
      record {
        good = subst (λ u. Good s (select_all s u selectors)) (sym is) (good_all s sound first.place selectors (stands_for x.number (Some x.entity)) good part);
        known =
            subst (λ u. is_known (own_of_standing (select_all s u selectors)) ≡ true) (sym is)
            (known_all s sound first.place selectors (stands_for x.number (Some x.entity)) good part value);
      }

  name_typed : (first : Identifier) (selectors : SelectorTrees) → IsGoodName first selectors → name_form (standing_of s first selectors) ≡ Static
      → IsTyped s (own_of s (Named first selectors)) (static_value s (Named first selectors))
  name_typed first selectors g h =
      let v = static_name (standing_of s first selectors) h in
      let suited : suits s (own_of s (Named first selectors)) (Gives (value_of v.0)) ≡ true = fixed_suits s sound (standing_of s first selectors) v.0 g.good v.1 in
      record {
        known = g.known;
        suited =
            subst (λ o. suits s (own_of s (Named first selectors))
            (elim o [ Some c ↦ Gives (value_of c) | None ↦ name_with no_calls (static_place s) (meaning_of (static_place s) first.name) selectors ]) ≡ true)
            (sym v.1)
            suited;
      }

  -- ---- expressions

  pub decided : (e : ExprTree) (w : Wanted) → faults_in s w e ≡ [] → is_decided (static_form s e) ≡ true
  decided (tree.Number z place) w h = refl
  decided (Named first selectors) w h = good_decided (standing_of s first selectors) (good_name w first selectors h).good
  decided (Parenthesized place e) w h = decided e w h
  decided (Unary operator place e) w h = decided e (below operator w) (front_empty (faults_in s (below operator w) e) (unary_rule s operator place (own_of s e)) h)
  decided (Binary operator a b) w h =
      let wa = beside s operator (own_of s b) in
      let wb = beside s operator (own_of s a) in
      let two = front_empty (faults_in s wa a ++ faults_in s wb b) (binary_rule s operator (start_of a) (own_of s a) (own_of s b)) h in
      both_decided (static_form s a) (static_form s b) (decided a wa (front_empty (faults_in s wa a) (faults_in s wb b) two))
      (decided b wb (back_empty (faults_in s wa a) (faults_in s wb b) two))
  decided (Conditional place condition value elsifs last) w h = refl

  pub static_typed : (e : ExprTree) (w : Wanted) → faults_in s w e ≡ [] → static_form s e ≡ Static → IsTyped s (own_of s e) (static_value s e)
  static_typed (tree.Number z place) w h k = record { known = refl; suited = refl }
  static_typed (Named first selectors) w h k = name_typed first selectors (good_name w first selectors h) k
  static_typed (Parenthesized place e) w h k = static_typed e w h k
  static_typed (Unary operator place e) w h k =
      let inside = faults_in s (below operator w) e in
      let broken = unary_rule s operator place (own_of s e) in
      unary_typed s no_calls (static_place s) sound.boolean operator place e (static_typed e (below operator w) (front_empty inside broken h) k)
      (back_empty inside broken h)
  static_typed (Binary operator a b) w h k =
      let wa = beside s operator (own_of s b) in
      let wb = beside s operator (own_of s a) in
      let broken = binary_rule s operator (start_of a) (own_of s a) (own_of s b) in
      let two = front_empty (faults_in s wa a ++ faults_in s wb b) broken h in
      binary_typed s no_calls (static_place s) sound.boolean sound.span operator (start_of a) a b
      (static_typed a wa (front_empty (faults_in s wa a) (faults_in s wb b) two) (both_left (static_form s a) (static_form s b) k))
      (static_typed b wb (back_empty (faults_in s wa a) (faults_in s wb b) two) (both_right (static_form s a) (static_form s b) k))
      (back_empty (faults_in s wa a ++ faults_in s wb b) broken h)
  static_typed (Conditional place condition value elsifs last) w h k = cc

  -- ---- where an expression must be static

  pub record IsStatic (w : Wanted) (within : Option Subtype) (e : ExprTree) : Type 0 where
    pub value : Value
    pub scalar : static_scalar s w within e ≡ Some value
    pub static : static_form s e ≡ Static
    pub gives : static_value s e ≡ Gives value
    pub typed : is_value_of s (own_of s e) value ≡ true
    pub known : is_known (own_of s e) ≡ true
    pub fitting : is_wanted s w (own_of s e) ≡ true
    pub inside : is_outside within value ≡ false

  is_static : (w : Wanted) (within : Option Subtype) (e : ExprTree) (f : StaticForm) (v : Val Value) → static_form s e ≡ f → static_value s e ≡ v
      → is_decided f ≡ true
      → form_rule (start_of e) f ≡ []
      → statics.value_rule (start_of e) within f v ≡ []
      → static_faults s w within e ≡ []
      → (static_form s e ≡ Static → Expected s w (own_of s e) (static_value s e))
      → IsStatic w within e
  is_static w within e Static (Gives v) form value d h k all typed =
      let x = typed form in
      record {
        value = v;
        scalar = ap (λ l. static_result l (static_form s e) (static_value s e)) all ∙ (λ j. scalar_if_known (form j) (value j));
        static = form;
        gives = value;
        typed = subst (λ y. suits s (own_of s e) y ≡ true) value x.typed.suited;
        known = x.typed.known;
        fitting = x.fitting;
        inside = unbroken 15 (start_of e) (is_outside within v) k;
      }
  is_static w within e Static (Raises x) form value d h k all typed = cc
  is_static w within e Static Meaningless form value d h k all typed = let never = sym (ap (suits s (own_of s e)) value) ∙ (typed form).typed.suited in cc
  is_static w within e NotStatic v form value d h k all typed = cc
  is_static w within e Doubtful v form value d h k all typed = cc

  pub must_be_static : (w : Wanted) (within : Option Subtype) (e : ExprTree) → static_faults s w within e ≡ [] → IsStatic w within e
  must_be_static w within e h =
      let value = statics.value_rule (start_of e) within (static_form s e) (static_value s e) in
      let two = front_empty (faults_of s w e ++ form_rule (start_of e) (static_form s e)) (if_unbroken (faults_of s w e) value) h in
      let one = front_empty (faults_of s w e) (form_rule (start_of e) (static_form s e)) two in
      let inner = front_empty (faults_in s w e) (mismatch s w (own_of s e) (start_of e)) one in
      let last = back_empty (faults_of s w e ++ form_rule (start_of e) (static_form s e)) (if_unbroken (faults_of s w e) value) h in
      is_static w within e (static_form s e) (static_value s e) refl refl (decided e w inner)
      (back_empty (faults_of s w e) (form_rule (start_of e) (static_form s e)) two)
      (subst (λ l. if_unbroken l value ≡ []) one last)
      h
      (λ k. expected s w (own_of s e) (start_of e) (static_value s e) (static_typed e w inner k) (back_empty (faults_in s w e) (mismatch s w (own_of s e) (start_of e)) one))

  -- ---- numbers

  -- what is expected is an integer
  abbrev pub WantsInteger : Wanted → Type 0
  WantsInteger wanted.AnyInteger = Unit {0}
  WantsInteger (wanted.OfType n) = is_integers (form_at s n) ≡ true
  WantsInteger wanted.Anything = ⊥

  pub integral : (w : Wanted) (own : Own) → WantsInteger w → is_known own ≡ true → is_wanted s w own ≡ true → is_integral s own ≡ true
  integral wanted.AnyInteger own i k h = h
  integral (wanted.OfType n) Unknown i k h = cc
  integral (wanted.OfType n) Universal i k h = refl
  integral (wanted.OfType n) (Typed m) i k h = subst (λ a. is_integers (form_at s a) ≡ true) (same_number n m h) i
  integral wanted.Anything own i k h = absurd i

  pub static_number : (w : Wanted) (within : Option Subtype) (e : ExprTree) → WantsInteger w → IsStatic w within e
      → (z : ℤ) × (static_scalar s w within e ≡ Some (Number z)) × (static_value s e ≡ Gives (Number z))
  static_number w within e i x =
      let number = as_number s (own_of s e) x.value (integral_numeric s (own_of s e) (integral w (own_of s e) i x.known x.fitting)) x.typed in
      (number.0, x.scalar ∙ ap Some number.1, x.gives ∙ ap Gives number.1)
