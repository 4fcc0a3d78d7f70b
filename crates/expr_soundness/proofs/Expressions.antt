-- Legal expressions come to values of their types: by recursion on the expression, with the parts of names and their arguments.
use Rattle.std.proofs.Common.{◌≡◌, ◌++◌, ℕ, zero, suc, pos, List, [], ◌∷◌, Bool, true, false, not, ◌⊎◌, inl, inr, Option, Some, None, refl, sym, ap, ◌∙◌, subst, arith}
use Rattle.std.specs.Prelude.{bytes_eq, codes, cond, length}
use Rattle.meaning.specs.ada_tree.specs.declared.expression.Identifier.{Identifier}
use Rattle.meaning.specs.ada_tree.specs.ExpressionTree as tree
use Rattle.meaning.specs.ada_tree.specs.ExpressionTree.{ExprTree, Named, Parenthesized, Conditional, Unary, Binary, ElsifValueTrees, NoElsifValues, MoreElsifValues, SelectorTrees, NoSelectors, MoreSelectors, SelectorTree, Component, Arguments, Attribute, ArgumentTrees, NoArguments, MoreArguments, ArgumentTree, Text}
use Rattle.meaning.specs.types.specs.declared.entity.Subtype.{Subtype}
use Rattle.meaning.specs.types.specs.declared.entity.Role.{Role}
use Rattle.meaning.specs.types.specs.declared.entity.Value.{Value as Scalar}
use Rattle.meaning.specs.types.specs.declared.entity.Value.TheVariants as scalar
use Rattle.meaning.specs.types.specs.declared.entity.PredefinedOperation.{PredefinedOperation}
use Rattle.meaning.specs.types.specs.declared.standing.Callee.TheVariants as callee
use Rattle.meaning.specs.types.specs.declared.standing.Standing.{Standing}
use Rattle.meaning.specs.types.specs.declared.standing.Standing.TheVariants as standing
use Rattle.meaning.specs.types.specs.Entities.{TypeForm, Integers, Arrays, Profile, Entity, OfType, OfSubtype, Object, Constant, Literal, Exception, Subprogram, Entry, Predefined, Put, Task, Protected, LibraryUnit, Doubtful}
use Rattle.meaning.specs.types.specs.Scopes.{Scope, boolean, entity_at, form_at, is_visible, number_of, profile_at, profile_of, protected_of}
use Rattle.meaning.specs.types.specs.Standings.{array_attribute, bound_stands, bounds_stand, count, object_attribute, select, select_all, settle, standing_of, stands_first, stands_for, subtype_attribute}
use Rattle.meaning.specs.types.specs.Statics.{start_of}
use Rattle.meaning.specs.types.specs.Values.{value_of}
use Rattle.meaning.specs.types.specs.Evaluations.{Val, Gives, Raises, Meaningless, and_then}
use Rattle.meaning.specs.types.specs.Places.{Place, Meaning, IsFunction, IsPredefined, IsProtected, meaning_of, stands_here}
use Rattle.meaning.specs.types.specs.Evaluating.{Calls, actual_with, actuals_with, ended, fixed_name, fixed_value, name_with, part_with, value_with}
use Rattle.meaning.specs.expr_rules.specs.declared.own.Own.{Own}
use Rattle.meaning.specs.expr_rules.specs.declared.own.Own.TheVariants.{Typed}
use Rattle.meaning.specs.expr_rules.specs.declared.own.Wanted.{Wanted}
use Rattle.meaning.specs.expr_rules.specs.declared.own.Wanted.TheVariants.{OfType}
use Rattle.meaning.specs.expr_rules.specs.declared.names.Slot.{Slot}
use Rattle.meaning.specs.expr_rules.specs.declared.names.Slot.TheVariants.{Expects, Takes, TakesLabel}
use Rattle.meaning.specs.expr_rules.specs.Faults.{rule}
use Rattle.meaning.specs.expr_rules.specs.Typing.{boolean_wanted, own_of, own_of_standing}
use Rattle.meaning.specs.expr_rules.specs.NameRules.{end_rule, label_rule, mismatch, part_rule, slot_at, slot_rule, slot_wanted, value_rule}
use Rattle.meaning.specs.expr_rules.specs.ExpressionRules.{argument_faults, arguments_faults, below, beside, binary_rule, conditional_wanted, elsif_faults, faults_in, faults_of, selector_faults, selectors_faults, unary_rule}
use Rattle.meaning.specs.expr_rules.specs.Laws.{IsTyped, suits}
use Rattle.meaning.specs.expr_rules.proofs.TypedLaw.{AllTyped, back_empty, binary_typed, conditional_typed, expected, front_empty, unary_typed, unbroken}
use Rattle.expr_soundness.specs.SoundScopes.{IsKnown, IsSoundConstant, IsSoundEntry, IsSoundPredefined}
use Rattle.expr_soundness.specs.Agreeing.{Agrees, Means, MeansFunction}
use Rattle.expr_soundness.specs.Answers.{CallsAnswer}
use Rattle.expr_soundness.specs.Laws.{ExpressionsAreTyped}
use Rattle.expr_soundness.proofs.Positions.{named}
use Rattle.expr_soundness.proofs.Goods.{Good, fixed_suits, good_all, good_first, good_select, known_all, known_type, object_known, part_unbroken}
use Rattle.expr_soundness.proofs.FixedNames.{Corresponds, all_valueless, constant_same, corresponds, function_found, given_same, is_valueless, number_same, object_same, subtype_same, valueless_same}
use Rattle.expr_soundness.proofs.Denoting.{Comes, Denotes, DenotesCallee, DenotesProtected, DenotesResult, MeansPart, empty_ends, gives_nothing, is_empty, is_statement, means_part}
use Rattle.expr_soundness.proofs.Applying.{ActualsSuit, component_comes, ended_suits}
use Rattle.expr_soundness.proofs.Arguments.{ActualSuits, SlotFits, Slots, arguments_come, expected_suits, next_suits, passed_suits, slot_suits}

-- ---- the first name

-- the name is worth the same at the place, and means there what it stands for
pub record IsHere (s : Scope) (p : Place) (name : List ℕ) (selectors : SelectorTrees) (w : Standing) : Type 0 where
  pub same : fixed_value (select_all p.scope (stands_here p name) selectors) ≡ fixed_value (select_all s w selectors)
  pub denotes : Denotes s p w (meaning_of p name)

-- it has no value
abbrev pub IsNone : Scope → Standing → Type 0
IsNone s w = (is_empty s w ≡ true) × (is_valueless w ≡ true)

module _ (s : Scope) (p : Place) (agrees : Agrees s p) (name : List ℕ) (selectors : SelectorTrees) (n : ℕ) where
  stands_valueless : (m : Meaning) → meaning_of p name ≡ m → Corresponds m (stands_here p name)
  stands_valueless m h = subst (λ k. Corresponds k (stands_here p name)) h (corresponds p name)

  abbrev Callable : Profile → Type 0
  Callable profile = IsNone s (standing.Callee (callee.Direct n)) ⊎ IsHere s p name selectors (standing.Callee (callee.Direct n))

  statement_none : (profile : Profile) → profile_at s n ≡ Some profile → profile.result ≡ None → IsNone s (standing.Callee (callee.Direct n))
  statement_none profile at r = (ap is_statement at ∙ ap gives_nothing r, refl)

  function_here : (profile : Profile) (r : Option Subtype) → profile_at s n ≡ Some profile → profile.result ≡ r → MeansFunction p (meaning_of p name) profile r
      → Callable profile
  function_here profile None at e h = inl (statement_none profile at e)
  function_here profile (Some t) at e h =
      let found = function_found p name h.0 h.1 in
      let declared : DenotesResult s p profile (Some t) (meaning_of p name) =
      inl (record { function = h.0; through = None; owner = found.0; name = name; is = h.1; found = found.1; profiled = h.2 }) in
      inr (record {
        same = valueless_same s p agrees selectors (standing.Callee (callee.Direct n)) (stands_here p name) refl (stands_valueless (IsFunction h.0 None) h.1);
        denotes = subst (λ o. DenotesCallee s p o (meaning_of p name)) (sym at) (subst (λ r. DenotesResult s p profile r (meaning_of p name)) (sym e) declared);
      })

  language_here : (o : PredefinedOperation) (profile : Profile) → profile_at s n ≡ Some profile → IsSoundPredefined s o profile
      → meaning_of p name ≡ IsPredefined o → Callable profile
  language_here o profile at sound h =
      inr (record {
        same = valueless_same s p agrees selectors (standing.Callee (callee.Direct n)) (stands_here p name) refl (stands_valueless (IsPredefined o) h);
        denotes = subst (λ x. DenotesCallee s p x (meaning_of p name)) (sym at) (by_result profile.result);
      })
    where
      by_result : (r : Option Subtype) → DenotesResult s p profile r (meaning_of p name)
      by_result (Some t) = inr (record { operation = o; is = h; sound = sound })
      by_result None = tt

  object_here : (r : Role) (t : Subtype) → MeansPart s p.scope (meaning_of p name) t → IsKnown s t → IsHere s p name selectors (standing.Part r t)
  object_here r t (inl h) known = record { same = object_same s p agrees name selectors r t h.value known h.is; denotes = inl h }
  object_here r t (inr h) known = record { same = number_same s p agrees name selectors r t h.integers h.number; denotes = inr h }

  pub first_here : (e : Entity) → entity_at s n ≡ Some e → Means s p name e → IsNone s (stands_for n (Some e)) ⊎ IsHere s p name selectors (stands_for n (Some e))
  first_here (OfType form t) at h = inr (record { same = subtype_same s p agrees name selectors t (known_type s agrees.sound n form t at) h; denotes = h })
  first_here (OfSubtype t) at h = inr (record { same = subtype_same s p agrees name selectors t (agrees.sound.each n (OfSubtype t) at) h; denotes = h })
  first_here (Object r t) at h = inr (object_here r t (means_part s p.scope (meaning_of p name) r t (agrees.sound.each n (Object r t) at) h) (object_known s r t (agrees.sound.each n (Object r t) at)))
  first_here (Constant t v) at h = let c : IsSoundConstant s t v = agrees.sound.each n (Constant t v) at in inr (record { same = constant_same s p agrees name selectors t v c.known h; denotes = tt })
  first_here (Literal b) at h = inr (record { same = given_same s p agrees name selectors boolean (Some (scalar.Truth b)) h; denotes = tt })
  first_here Exception at h = inl (refl, refl)
  first_here (Subprogram profile) at h = function_here profile profile.result (ap profile_of at) refl h
  first_here (Entry profile) at h = let e : IsSoundEntry s profile = agrees.sound.each n (Entry profile) at in inl (statement_none profile (ap profile_of at) e.none)
  first_here (Predefined o profile) at h = language_here o profile (ap profile_of at) (agrees.sound.each n (Predefined o profile) at) h
  first_here Put at h = inl (refl, refl)
  first_here (Task k) at h = inl (refl, refl)
  first_here (Protected o) at h =
      inr (record {
        same = valueless_same s p agrees selectors (standing.Protected n) (stands_here p name) refl (stands_valueless (IsProtected h.object) h.is);
        denotes = subst (λ x. DenotesProtected p x (meaning_of p name)) (sym (ap protected_of at)) h;
      })
  first_here LibraryUnit at h = inl (refl, refl)
  first_here Doubtful at h = inl (refl, refl)

-- ---- attributes are evaluated by types alone

bounds_empty : (s : Scope) (t : Subtype) (name : List ℕ) → is_empty s (bounds_stand t name) ≡ true
bounds_empty s t name = by_first (bytes_eq name (codes "FIRST")) (bytes_eq name (codes "LAST"))
  where
    by_first : (a b : Bool) → is_empty s (cond a (bound_stands t t.first) (cond b (bound_stands t t.last) standing.Doubtful)) ≡ true
    by_first true b = refl
    by_first false true = refl
    by_first false false = refl

array_empty : (s : Scope) (index : Subtype) (size : ℕ) (name : List ℕ) → is_empty s (array_attribute index size name) ≡ true
array_empty s index size name = by_test (bytes_eq name (codes "LENGTH"))
  where
    by_test : (b : Bool) → is_empty s (cond b (standing.Plain (pos size)) (bounds_stand index name)) ≡ true
    by_test true = refl
    by_test false = bounds_empty s index name

object_empty : (s : Scope) (o : Option TypeForm) (name : List ℕ) → is_empty s (object_attribute o name) ≡ true
object_empty s (Some (Arrays index size element)) name = array_empty s index size name
object_empty s o name = refl

subtype_empty : (s : Scope) (t : Subtype) (o : Option TypeForm) (name : List ℕ) → is_empty s (subtype_attribute t o name) ≡ true
subtype_empty s t (Some Integers) name = bounds_empty s t name
subtype_empty s t (Some (Arrays index size element)) name = array_empty s index size name
subtype_empty s t o name = refl

attribute_empty : (s : Scope) (w : Standing) (name : Identifier) → is_empty s (select s w (Attribute name)) ≡ true
attribute_empty s (standing.Part r t) name = object_empty s (form_at s t.type_number) name.name
attribute_empty s (standing.Fixed t v) name = object_empty s (form_at s t.type_number) name.name
attribute_empty s (standing.Named t) name = subtype_empty s t (form_at s t.type_number) name.name
attribute_empty s (standing.Given t v) name = refl
attribute_empty s (standing.Plain z) name = refl
attribute_empty s (standing.Callee f) name = refl
attribute_empty s (standing.Protected n) name = refl
attribute_empty s standing.Put name = refl
attribute_empty s standing.Statement name = refl
attribute_empty s standing.Task name = refl
attribute_empty s standing.Other name = refl
attribute_empty s standing.Doubtful name = refl

-- ---- labels

no_label : (s : Scope) (slot : Slot) (t : Subtype) (place : ℕ) → SlotFits s slot t → label_rule slot place ≡ [] → ⊥
no_label s (Expects w) t place fits h = cc
no_label s (Takes n) t place fits h = fits
no_label s TakesLabel t place fits h = fits

pub not_false : (b : Bool) → not b ≡ false → b ≡ true
not_false true h = refl
not_false false h = cc

one_less : (n m : ℕ) → suc n ≡ suc m → n ≡ m
one_less n m h = omega (arith, h)

-- ---- expressions

module _ (s : Scope) (p : Place) (agrees : Agrees s p) (calls : Calls) (answers : CallsAnswer calls p) where
  -- what is left of a name behind its first part
  abbrev Goes : SelectorTrees → Type 0
  Goes selectors =
      (place : ℕ) (w : Standing) (m : Meaning) → Good s w → Denotes s p w m → selectors_faults s place w selectors ≡ [] → value_rule place (select_all s w selectors) ≡ [] → fixed_value (select_all s w selectors) ≡ None
      → suits s (own_of_standing (select_all s w selectors)) (name_with calls p m selectors) ≡ true

  named_value : (first : Identifier) (selectors : SelectorTrees) (own : Own) (o : Option Scalar) → fixed_name p first selectors ≡ o
      → suits s own (elim o [ Some v ↦ Gives (value_of v) | None ↦ name_with calls p (meaning_of p first.name) selectors ]) ≡ true
      → suits s own (value_with calls p (Named first selectors)) ≡ true
  named_value first selectors own o e h = subst (λ x. suits s own (elim x [ Some v ↦ Gives (value_of v) | None ↦ name_with calls p (meaning_of p first.name) selectors ]) ≡ true) (sym e) h

  whole_name : (first : Identifier) (selectors : SelectorTrees) (w : Standing) → Good s w → selectors_faults s first.place w selectors ≡ []
      → value_rule first.place (select_all s w selectors) ≡ []
      → IsNone s w ⊎ IsHere s p first.name selectors w → Goes selectors
      → IsTyped s (own_of_standing (select_all s w selectors)) (value_with calls p (Named first selectors))
  whole_name first selectors w g h v (inl none) goes = absurd (empty_ends s agrees.sound first.place selectors w none.0 g h v (all_valueless s selectors w none.1))
  whole_name first selectors w g h v (inr here) goes =
      record {
        known = known_all s agrees.sound first.place selectors w g h v;
        suited = by_value (fixed_value (select_all s w selectors)) refl;
      }
    where
      by_value : (o : Option Scalar) → fixed_value (select_all s w selectors) ≡ o
          → suits s (own_of_standing (select_all s w selectors)) (value_with calls p (Named first selectors)) ≡ true
      by_value (Some c) k =
          named_value first selectors (own_of_standing (select_all s w selectors)) (Some c) (here.same ∙ k)
          (fixed_suits s agrees.sound (select_all s w selectors) c (good_all s agrees.sound first.place selectors w g h) k)
      by_value None k =
          named_value first selectors (own_of_standing (select_all s w selectors)) None (here.same ∙ k) (goes first.place w (meaning_of p first.name) g here.denotes h v k)

  name_typed : (w : Wanted) (first : Identifier) (selectors : SelectorTrees) → faults_in s w (Named first selectors) ≡ [] → Goes selectors
      → IsTyped s (own_of s (Named first selectors)) (value_with calls p (Named first selectors))
  name_typed w first selectors h goes =
      let hidden = rule 10 first.place (not (is_visible s first.name)) in
      let parts = selectors_faults s first.place (stands_first s (number_of s first.name)) selectors in
      let whole = value_rule first.place (standing_of s first selectors) in
      let two = front_empty (hidden ++ parts) whole h in
      let visible = not_false (is_visible s first.name) (unbroken 10 first.place (not (is_visible s first.name)) (front_empty hidden parts two)) in
      let x = named s first.name visible in
      let is : stands_first s (number_of s first.name) ≡ stands_for x.number (Some x.entity) = ap (stands_first s) x.numbered ∙ ap (stands_for x.number) x.stands in
      subst (λ u. IsTyped s (own_of_standing (select_all s u selectors)) (value_with calls p (Named first selectors))) (sym is)
      (whole_name first selectors (stands_for x.number (Some x.entity)) (good_first s agrees.sound x.number x.entity x.stands)
      (subst (λ u. selectors_faults s first.place u selectors ≡ []) is (back_empty hidden parts two))
      (subst (λ u. value_rule first.place (select_all s u selectors) ≡ []) is (back_empty (hidden ++ parts) whole h))
      (first_here s p agrees first.name selectors x.number x.entity x.stands (agrees.names first.name x.number x.entity x.numbered x.stands)) goes)

  name_ends : (place : ℕ) (w : Standing) (m : Meaning) → Good s w → Denotes s p w m → end_rule s place w ≡ [] → value_rule place (settle s w) ≡ []
      → fixed_value (settle s w) ≡ None
      → suits s (own_of_standing (settle s w)) (ended calls p m) ≡ true
  name_ends place w m g d h v none = by_test (is_empty s w) refl
    where
      by_test : (b : Bool) → is_empty s w ≡ b → suits s (own_of_standing (settle s w)) (ended calls p m) ≡ true
      by_test true e = absurd (empty_ends s agrees.sound place NoSelectors w e g h v none)
      by_test false e = ended_suits s p agrees calls answers place w m g d e h v

  mutual
    pub expression : (e : ExprTree) (w : Wanted) → faults_in s w e ≡ [] → IsTyped s (own_of s e) (value_with calls p e)
    expression (tree.Number z place) w h = record { known = refl; suited = refl }
    expression (Named first selectors) w h = name_typed w first selectors h (λ place u m g d hs hv none. name_suits selectors place u (Gives m) g d hs hv none)
    expression (Parenthesized place e) w h = expression e w h
    expression (Unary operator place e) w h =
        let inside = faults_in s (below operator w) e in
        let broken = unary_rule s operator place (own_of s e) in
        unary_typed s calls p agrees.sound.boolean operator place e (expression e (below operator w) (front_empty inside broken h)) (back_empty inside broken h)
    expression (Binary operator a b) w h =
        let wa = beside s operator (own_of s b) in
        let wb = beside s operator (own_of s a) in
        let broken = binary_rule s operator (start_of a) (own_of s a) (own_of s b) in
        let two = front_empty (faults_in s wa a ++ faults_in s wb b) broken h in
        binary_typed s calls p agrees.sound.boolean agrees.sound.span operator (start_of a) a b (expression a wa (front_empty (faults_in s wa a) (faults_in s wb b) two))
        (expression b wb (back_empty (faults_in s wa a) (faults_in s wb b) two)) (back_empty (faults_in s wa a ++ faults_in s wb b) broken h)
    expression (Conditional place condition value elsifs last) w h =
        let inner = conditional_wanted s w value elsifs last in
        let c = faults_in s boolean_wanted condition in
        let cm = mismatch s boolean_wanted (own_of s condition) (start_of condition) in
        let v = faults_in s inner value in
        let vm = mismatch s inner (own_of s value) (start_of value) in
        let m = elsif_faults s inner elsifs in
        let l = faults_in s inner last in
        let lm = mismatch s inner (own_of s last) (start_of last) in
        let three = front_empty ((c ++ cm) ++ (v ++ vm) ++ m) (l ++ lm) h in
        let four = back_empty ((c ++ cm) ++ (v ++ vm) ++ m) (l ++ lm) h in
        let two = front_empty ((c ++ cm) ++ (v ++ vm)) m three in
        let first = front_empty (c ++ cm) (v ++ vm) two in
        let second = back_empty (c ++ cm) (v ++ vm) two in
        conditional_typed s calls p agrees.sound.boolean place condition value last elsifs w
        (expected s boolean_wanted (own_of s condition) (start_of condition) (value_with calls p condition) (expression condition boolean_wanted (front_empty c cm first)) (back_empty c cm first))
        (record {
          first = expected s inner (own_of s value) (start_of value) (value_with calls p value) (expression value inner (front_empty v vm second)) (back_empty v vm second);
          middle = elsif_parts elsifs inner (back_empty ((c ++ cm) ++ (v ++ vm)) m three);
          end = expected s inner (own_of s last) (start_of last) (value_with calls p last) (expression last inner (front_empty l lm four)) (back_empty l lm four);
        })

    elsif_parts : (elsifs : ElsifValueTrees) (w : Wanted) → elsif_faults s w elsifs ≡ [] → AllTyped s calls p w elsifs
    elsif_parts NoElsifValues w h = tt
    elsif_parts (MoreElsifValues condition value rest) w h =
        let c = faults_in s boolean_wanted condition in
        let cm = mismatch s boolean_wanted (own_of s condition) (start_of condition) in
        let v = faults_in s w value in
        let vm = mismatch s w (own_of s value) (start_of value) in
        let m = elsif_faults s w rest in
        let two = front_empty ((c ++ cm) ++ (v ++ vm)) m h in
        let first = front_empty (c ++ cm) (v ++ vm) two in
        let second = back_empty (c ++ cm) (v ++ vm) two in (
          expected s boolean_wanted (own_of s condition) (start_of condition) (value_with calls p condition) (expression condition boolean_wanted (front_empty c cm first)) (back_empty c cm first),
          expected s w (own_of s value) (start_of value) (value_with calls p value) (expression value w (front_empty v vm second)) (back_empty v vm second),
          elsif_parts rest w (back_empty ((c ++ cm) ++ (v ++ vm)) m h),
        )

    name_suits : (selectors : SelectorTrees) (place : ℕ) (w : Standing) (v : Val Meaning) → Good s w → Comes s p w v → selectors_faults s place w selectors ≡ []
        → value_rule place (select_all s w selectors) ≡ []
        → fixed_value (select_all s w selectors) ≡ None
        → suits s (own_of_standing (select_all s w selectors)) (and_then v (λ m. name_with calls p m selectors)) ≡ true
    name_suits NoSelectors place w (Gives m) g d h v none = name_ends place w m g d h v none
    name_suits NoSelectors place w (Raises n) g d h v none = refl
    name_suits NoSelectors place w Meaningless g d h v none = absurd (empty_ends s agrees.sound place NoSelectors w d g h v none)
    name_suits (MoreSelectors x rest) place w (Gives m) g d h v none =
        let here = front_empty (selector_faults s place w x) (selectors_faults s place (select s w x) rest) h in
        let later = back_empty (selector_faults s place w x) (selectors_faults s place (select s w x) rest) h in
        name_suits rest place (select s w x) (part_with calls p m x) (good_select s agrees.sound place w x g (part_unbroken s agrees.sound place w x here)) (part_comes x place w m g d here) later v none
    name_suits (MoreSelectors x rest) place w (Raises n) g d h v none = refl
    name_suits (MoreSelectors x rest) place w Meaningless g d h v none = absurd (empty_ends s agrees.sound place (MoreSelectors x rest) w d g h v none)

    pub part_comes : (x : SelectorTree) (place : ℕ) (w : Standing) (m : Meaning) → Good s w → Denotes s p w m → selector_faults s place w x ≡ []
        → Comes s p (select s w x) (part_with calls p m x)
    part_comes (Component name) place w m g d h = component_comes s p agrees calls answers place name w m g d h
    part_comes (Attribute name) place w m g d h = attribute_empty s w name
    part_comes (Arguments a) place w m g d h =
        let own = part_rule s place w (Arguments a) in
        arguments_come s p agrees calls answers place a w m g d (front_empty own (arguments_faults s w zero a) h)
        (λ ts slots size. actuals_suit a w zero ts slots size (back_empty own (arguments_faults s w zero a) h))

    pub actuals_suit : (a : ArgumentTrees) (w : Standing) (k : ℕ) (ts : List Subtype) → Slots s (λ i. slot_at s w i) k ts → count a ≡ length ts
        → arguments_faults s w k a ≡ [] → ActualsSuit s ts (actuals_with calls p a ts)
    actuals_suit NoArguments w k [] slots size h = tt
    actuals_suit NoArguments w k (t ∷ ts) slots size h = cc
    actuals_suit (MoreArguments x rest) w k [] slots size h = cc
    actuals_suit (MoreArguments x rest) w k (t ∷ ts) slots size h =
        let one = argument_faults s (slot_at s w k) x in
        let more = arguments_faults s w (suc k) rest in
        next_suits s t ts (actual_with calls p t x) (actuals_with calls p rest ts) (actual_suits x (slot_at s w k) t slots.0 (front_empty one more h))
        (actuals_suit rest w (suc k) ts slots.1 (one_less (count rest) (length ts) size) (back_empty one more h))

    actual_suits : (x : ArgumentTree) (slot : Slot) (t : Subtype) → SlotFits s slot t → argument_faults s slot x ≡ []
        → ActualSuits s t (actual_with calls p t x)
    actual_suits (tree.Value e) slot t fits h =
        let inside = faults_in s (slot_wanted slot) e in
        let own = slot_rule s slot e (own_of s e) in
        passed_suits s t (value_with calls p e) (slot_suits s slot t e (own_of s e) (value_with calls p e) fits (back_empty inside own h) (expression e (slot_wanted slot) (front_empty inside own h)))
    actual_suits (Text label place) slot t fits h = absurd (no_label s slot t place fits h)

  pub wanted_expression : (e : ExprTree) (n : ℕ) → faults_of s (OfType n) e ≡ [] → suits s (Typed n) (value_with calls p e) ≡ true
  wanted_expression e n h =
      let inside = faults_in s (OfType n) e in
      let own = mismatch s (OfType n) (own_of s e) (start_of e) in
      expected_suits s n (own_of s e) (value_with calls p e)
      (expected s (OfType n) (own_of s e) (start_of e) (value_with calls p e) (expression e (OfType n) (front_empty inside own h)) (back_empty inside own h))

pub expressions_are_typed : ExpressionsAreTyped
expressions_are_typed = record { own = λ s p calls agrees answers e w h. expression s p agrees calls answers e w h; wanted = λ s p calls agrees answers e n h. wanted_expression s p agrees calls answers e n h }
