-- Legal expressions come to values between their bounds: names as a whole, then by recursion on the expression.
use Rattle.std.proofs.Common.{◌≡◌, ◌++◌, ℕ, List, [], true, ◌⊎◌, inl, inr, Option, Some, None, refl, sym, ap, ◌∙◌, subst}
use Rattle.std.specs.Prelude.{ℤ, not}
use Rattle.meaning.specs.ada_tree.specs.declared.expression.Identifier.{Identifier}
use Rattle.meaning.specs.ada_tree.specs.ExpressionTree.{ExprTree, Named, SelectorTrees}
use Rattle.meaning.specs.types.specs.declared.entity.Subtype.{Subtype}
use Rattle.meaning.specs.types.specs.declared.entity.Value.{Value as Scalar}
use Rattle.meaning.specs.types.specs.declared.entity.Value.TheVariants as scalar
use Rattle.meaning.specs.types.specs.declared.entity.PredefinedOperation.{PredefinedOperation}
use Rattle.meaning.specs.types.specs.declared.standing.Callee.TheVariants as callee
use Rattle.meaning.specs.types.specs.declared.standing.Standing.{Standing}
use Rattle.meaning.specs.types.specs.declared.standing.Standing.TheVariants as standing
use Rattle.meaning.specs.types.specs.declared.statics.StaticForm.{StaticForm}
use Rattle.meaning.specs.types.specs.declared.statics.StaticForm.TheVariants.{Static}
use Rattle.meaning.specs.types.specs.Entities as entity
use Rattle.meaning.specs.types.specs.Entities.{Entity, Profile}
use Rattle.meaning.specs.types.specs.Evaluating.{Calls, fixed_name, fixed_value, name_with, predefined_value, value_with, wanted_by_operation}
use Rattle.meaning.specs.types.specs.Evaluations.{Val, Gives, Raises, Meaningless}
use Rattle.meaning.specs.types.specs.Places.{Function, Place, Meaning, IsFunction, IsNothing, IsObject, IsPredefined, IsProtected, IsSubtype, IsValue, meaning_of}
use Rattle.meaning.specs.types.specs.Scopes.{Scope, entity_at, is_visible, number_of, profile_of}
use Rattle.meaning.specs.types.specs.Standings.{select_all, standing_of, stands_first, stands_for}
use Rattle.meaning.specs.types.specs.Statics.{Keeps, StaticIsValue, static_form, static_value}
use Rattle.meaning.specs.types.specs.Values.{Value, Number, value_of}
use Rattle.meaning.specs.expr_rules.specs.declared.own.Wanted.{Wanted}
use Rattle.meaning.specs.expr_rules.specs.Faults.{rule}
use Rattle.meaning.specs.expr_rules.specs.NameRules.{value_rule}
use Rattle.meaning.specs.expr_rules.specs.ExpressionRules.{faults_in, selectors_faults}
use Rattle.meaning.specs.expr_rules.proofs.TypedLaw.{back_empty, front_empty, unbroken}
use Rattle.expr_soundness.specs.SoundScopes.{IsSoundEntry}
use Rattle.expr_soundness.specs.Agreeing.{Agrees, Means, MeansFunction}
use Rattle.expr_soundness.specs.Answers.{CallsAnswer}
use Rattle.expr_soundness.proofs.Positions.{entity_number, named, same_some}
use Rattle.expr_soundness.proofs.Goods.{Good, good_first}
use Rattle.expr_soundness.proofs.FixedNames.{all_valueless}
use Rattle.expr_soundness.proofs.Denoting.{Denotes, empty_ends}
use Rattle.expr_soundness.proofs.Expressions.{IsHere, IsNone, first_here, not_false}
use Rattle.meaning.specs.types.specs.Bounds.{bounds_of, known_or, name_bounds, number_found, static_number, subtype_bounds}
use Rattle.expr_soundness.specs.Lying.{OnGives, ValuesLie, are_between, comes_between, is_between, lies}
use Rattle.meaning.specs.types.specs.Walking.{standing_bounds}
use Rattle.expr_soundness.proofs.NamesLie.{Ends, Knows, MeaningLies, PartLies, PredefinedLies, callee_lies, name_known}
use Rattle.expr_soundness.proofs.Lies.{gives_between, lies_between, lying_inside}
use Rattle.expr_soundness.proofs.Numbers.{within_itself}
use Rattle.meaning.specs.types.proofs.Walks.{of_name}

-- ---- what is known of a name without evaluation

known_bounds : (w : Standing) (c : Scalar) → fixed_value w ≡ Some c → is_between (standing_bounds w) (value_of c) ≡ true
known_bounds (standing.Fixed t (Some (scalar.Number z))) c h = subst
    (λ d. is_between (z, z) (value_of d) ≡ true) (same_some (scalar.Number z) c h) (within_itself z)
known_bounds (standing.Given t (Some (scalar.Number z))) c h = subst
    (λ d. is_between (z, z) (value_of d) ≡ true) (same_some (scalar.Number z) c h) (within_itself z)
known_bounds (standing.Plain z) c h = subst (λ d. is_between (z, z) (value_of d) ≡ true) (same_some (scalar.Number z) c h) (within_itself z)
known_bounds (standing.Fixed t (Some (scalar.Truth b))) c h = subst
    (λ d. is_between (subtype_bounds t) (value_of d) ≡ true) (same_some (scalar.Truth b) c h) refl
known_bounds (standing.Given t (Some (scalar.Truth b))) c h = subst
    (λ d. is_between (subtype_bounds t) (value_of d) ≡ true) (same_some (scalar.Truth b) c h) refl
known_bounds w c h = cc

unknown_bounds : (w : Standing) → fixed_value w ≡ None → standing_bounds w ≡ name_bounds w
unknown_bounds (standing.Fixed t (Some c)) h = cc
unknown_bounds (standing.Given t (Some c)) h = cc
unknown_bounds (standing.Plain z) h = cc
unknown_bounds (standing.Fixed t None) h = refl
unknown_bounds (standing.Given t None) h = refl
unknown_bounds w h = refl

-- a static number is the value
number_of_form : (f : StaticForm) (v : Val Value) (z : ℤ) → number_found f v ≡ Some z → (f ≡ Static) × (v ≡ Gives (Number z))
number_of_form Static (Gives (Number y)) z h = (refl, ap (λ n. Gives (Number n)) (same_some y z h))
number_of_form f v z h = cc

-- what is known of the whole name: its fixed value, or what its last part tells
abbrev pub NameEnds : (s : Scope) (p : Place) → Agrees s p → (calls : Calls) → CallsAnswer calls p → (Kept Found : Subtype → Value → Type 0)
    → Knows s p calls Kept Found → Standing → Option Scalar → Val Value → Type 0
NameEnds s p agrees calls answers Kept Found known w (Some c) v = v ≡ Gives (value_of c)
NameEnds s p agrees calls answers Kept Found known w None v = Ends s p agrees calls answers Kept Found known w v

module _ (s : Scope) (p : Place) (agrees : Agrees s p) (calls : Calls) (answers : CallsAnswer calls p) (Kept Found : Subtype → Value → Type 0)
    (known : Knows s p calls Kept Found) where
  -- ---- the first name

  object_lies : (name : List ℕ) (n : ℕ) (r : _) (t : Subtype) → number_of s name ≡ Some n → entity_at s n ≡ Some (entity.Object r t)
      → PartLies s p agrees calls answers Kept Found known t (meaning_of p name)
  object_lies name n r t numbered at = by_meaning (meaning_of p name) refl
    where
      by_meaning : (m : Meaning) → meaning_of p name ≡ m → PartLies s p agrees calls answers Kept Found known t m
      by_meaning (IsObject u v) e = known.objects name n r t u v numbered at e
      by_meaning (IsFunction f through) e = tt
      by_meaning (IsPredefined o) e = tt
      by_meaning (IsSubtype u) e = tt
      by_meaning (IsProtected o) e = tt
      by_meaning (IsValue v) e = tt
      by_meaning IsNothing e = tt

  called_lies : (name : List ℕ) (n : ℕ) (profile : Profile) (e : Entity) → entity_at s n ≡ Some e → profile_of (Some e) ≡ Some profile
      → Denotes s p (standing.Callee (callee.Direct n)) (meaning_of p name)
      → ((t : Subtype) → profile.result ≡ Some t → PredefinedLies s p agrees calls answers Kept Found known t (meaning_of p name))
      → MeaningLies s p agrees calls answers Kept Found known (standing.Callee (callee.Direct n)) (meaning_of p name)
  called_lies name n profile e at is d told =
      let profiled : profile_of (entity_at s n) ≡ Some profile = ap profile_of at ∙ is in
      callee_lies s p agrees calls answers Kept Found known (meaning_of p name) (profile_of (entity_at s n)) d
      (λ other t k r. told t (ap (λ x. x.result) (same_some profile other (sym profiled ∙ k)) ∙ r))

  function_told : (name : List ℕ) (profile : Profile) (r : Option Subtype) → profile.result ≡ r → MeansFunction p (meaning_of p name) profile r
      → (t : Subtype) → profile.result ≡ Some t
      → PredefinedLies s p agrees calls answers Kept Found known t (meaning_of p name)
  function_told name profile (Some u) is means t r o k vs fit = absurd (apart means.0 (sym means.1 ∙ k))
    where
      apart : (f : Function) → IsFunction f None ≡ IsPredefined o → ⊥
      apart f e = cc
  function_told name profile None is means t r o k vs fit = absurd (none (sym is ∙ r))
    where
      none : None ≡ Some t → ⊥
      none e = cc

  language_told : (name : List ℕ) (n : ℕ) (own : PredefinedOperation) (profile : Profile) → entity_at s n ≡ Some (entity.Predefined own profile)
      → meaning_of p name ≡ IsPredefined own → (t : Subtype) → profile.result ≡ Some t
      → PredefinedLies s p agrees calls answers Kept Found known t (meaning_of p name)
  language_told name n own profile at means t r o k vs fit =
      subst (λ x. OnGives (Found t) (predefined_value p x vs)) is
      (known.given n own profile t vs at r (subst (λ x. are_between (wanted_by_operation x) vs ≡ true) (sym is) fit))
    where
      same : (a b : PredefinedOperation) → IsPredefined a ≡ IsPredefined b → a ≡ b
      same a b e = cc

      is : own ≡ o
      is = same own o (sym means ∙ k)

  first_lies : (name : List ℕ) (n : ℕ) (e : Entity) → number_of s name ≡ Some n → entity_at s n ≡ Some e → Means s p name e
      → Denotes s p (stands_for n (Some e)) (meaning_of p name)
      → MeaningLies s p agrees calls answers Kept Found known (stands_for n (Some e)) (meaning_of p name)
  first_lies name n (entity.OfType form t) numbered at h d = tt
  first_lies name n (entity.OfSubtype t) numbered at h d = tt
  first_lies name n (entity.Object r t) numbered at h d = object_lies name n r t numbered at
  first_lies name n (entity.Constant t v) numbered at h d = tt
  first_lies name n (entity.Literal b) numbered at h d = tt
  first_lies name n entity.Exception numbered at h d = tt
  first_lies name n (entity.Subprogram profile) numbered at h d = called_lies name n profile (entity.Subprogram profile) at refl d
      (function_told name profile profile.result refl h)
  first_lies name n (entity.Entry profile) numbered at h d =
      let sound : IsSoundEntry s profile = agrees.sound.each n (entity.Entry profile) at in
      called_lies name n profile (entity.Entry profile) at refl d (λ t r. absurd (none t (sym sound.none ∙ r)))
    where
      none : (t : Subtype) → None ≡ Some t → ⊥
      none t e = cc
  first_lies name n (entity.Predefined o profile) numbered at h d = called_lies name n profile (entity.Predefined o profile) at refl d
      (language_told name n o profile at h)
  first_lies name n entity.Put numbered at h d = tt
  first_lies name n (entity.Task k) numbered at h d = tt
  first_lies name n (entity.Protected o) numbered at h d = tt
  first_lies name n entity.LibraryUnit numbered at h d = tt
  first_lies name n entity.Doubtful numbered at h d = tt

  -- ---- names as a whole

  abbrev pub Known : Standing → Val Value → Type 0
  Known w v = NameEnds s p agrees calls answers Kept Found known w (fixed_value w) v

  whole_ends : (first : Identifier) (selectors : SelectorTrees) (w : Standing) → Good s w → selectors_faults s first.place w selectors ≡ []
      → value_rule first.place (select_all s w selectors) ≡ [] → IsNone s w ⊎ IsHere s p first.name selectors w
      → (Denotes s p w (meaning_of p first.name) → MeaningLies s p agrees calls answers Kept Found known w (meaning_of p first.name))
      → Known (select_all s w selectors) (value_with calls p (Named first selectors))
  whole_ends first selectors w g h v (inl none) lying = absurd
      (empty_ends s agrees.sound first.place selectors w none.0 g h v (all_valueless s selectors w none.1))
  whole_ends first selectors w g h v (inr here) lying = by_value (fixed_value (select_all s w selectors)) refl
    where
      value : Option Scalar → Val Value
      value o = elim o [ Some c ↦ Gives (value_of c) | None ↦ name_with calls p (meaning_of p first.name) selectors ]

      by_value : (o : Option Scalar) → fixed_value (select_all s w selectors) ≡ o
          → NameEnds s p agrees calls answers Kept Found known (select_all s w selectors) (fixed_value (select_all s w selectors))
          (value_with calls p (Named first selectors))
      by_value (Some c) k =
          subst (λ o. NameEnds s p agrees calls answers Kept Found known (select_all s w selectors) o (value_with calls p (Named first selectors))) (sym k)
          (ap value (here.same ∙ k))
      by_value None k =
          subst (λ o. NameEnds s p agrees calls answers Kept Found known (select_all s w selectors) o (value_with calls p (Named first selectors))) (sym k)
          (subst (Ends s p agrees calls answers Kept Found known (select_all s w selectors)) (sym (ap value (here.same ∙ k)))
          (name_known s p agrees calls answers Kept Found known selectors first.place w (Gives (meaning_of p first.name)) g
          (here.denotes, lying here.denotes) h v k))

  pub name_ends : (w : Wanted) (first : Identifier) (selectors : SelectorTrees) → faults_in s w (Named first selectors) ≡ []
      → Known (standing_of s first selectors) (value_with calls p (Named first selectors))
  name_ends w first selectors h =
      let hidden = rule 10 first.place (not (is_visible s first.name)) in
      let parts = selectors_faults s first.place (stands_first s (number_of s first.name)) selectors in
      let whole = value_rule first.place (standing_of s first selectors) in
      let two = front_empty (hidden ++ parts) whole h in
      let visible = not_false (is_visible s first.name) (unbroken 10 first.place (not (is_visible s first.name)) (front_empty hidden parts two)) in
      let x = named s first.name visible in
      let is : stands_first s (number_of s first.name) ≡ stands_for x.number (Some x.entity) = ap (stands_first s) x.numbered
      ∙ ap (stands_for x.number) x.stands in
      let means = agrees.names first.name x.number x.entity x.numbered x.stands in
      subst (λ u. Known (select_all s u selectors) (value_with calls p (Named first selectors))) (sym is)
      (whole_ends first selectors (stands_for x.number (Some x.entity)) (good_first s agrees.sound x.number x.entity x.stands)
      (subst (λ u. selectors_faults s first.place u selectors ≡ []) is (back_empty hidden parts two))
      (subst (λ u. value_rule first.place (select_all s u selectors) ≡ []) is (back_empty (hidden ++ parts) whole h))
      (first_here s p agrees first.name selectors x.number x.entity x.stands means)
      (first_lies first.name x.number x.entity x.numbered x.stands means))

-- ---- bounds

module _ (s : Scope) (p : Place) (agrees : Agrees s p) (calls : Calls) (answers : CallsAnswer calls p) (values : ValuesLie s p calls) where
  abbrev Kept : Subtype → Value → Type 0
  Kept t v = lies p.scope t v ≡ true

  abbrev Found : Subtype → Value → Type 0
  Found t v = is_between (subtype_bounds t) v ≡ true

  known : Knows s p calls Kept Found
  known =
      record {
        objects = values.visible.objects;
        inside = λ t v h. lying_inside p.scope t v h;
        parts = λ t v h. h;
        converted = λ t z form h. h;
        results = λ actions owner name f vs found. gives_between (subtype_bounds f.result) (calls (record p { actions = actions }) f vs)
            (values.results actions owner name f vs found);
        given = λ number o profile t vs at r fit. gives_between (subtype_bounds t) (predefined_value p o vs)
            (values.visible.given number o profile t vs at r fit);
      }

  ends_between : (w : Standing) (v : Val Value) → Ends s p agrees calls answers Kept Found known w v → comes_between (name_bounds w) v ≡ true
  ends_between (standing.Part r t) (Gives x) h = lies_between p.scope t x h
  ends_between (standing.Given t c) (Gives x) h = h
  ends_between (standing.Named t) (Gives x) h = absurd h
  ends_between (standing.Fixed t c) (Gives x) h = absurd h
  ends_between (standing.Callee f) (Gives x) h = absurd h
  ends_between (standing.Protected n) (Gives x) h = absurd h
  ends_between (standing.Plain z) (Gives x) h = absurd h
  ends_between standing.Put (Gives x) h = absurd h
  ends_between standing.Statement (Gives x) h = absurd h
  ends_between standing.Task (Gives x) h = absurd h
  ends_between standing.Other (Gives x) h = absurd h
  ends_between standing.Doubtful (Gives x) h = absurd h
  ends_between w (Raises n) h = refl
  ends_between w Meaningless h = refl

  standing_between : (w : Standing) (v : Val Value) (o : Option Scalar) → fixed_value w ≡ o → NameEnds s p agrees calls answers Kept Found known w o v
      → comes_between (standing_bounds w) v ≡ true
  standing_between w v (Some c) is h = subst (λ x. comes_between (standing_bounds w) x ≡ true) (sym h) (known_bounds w c is)
  standing_between w v None is h = subst (λ b. comes_between b v ≡ true) (sym (unknown_bounds w is)) (ends_between w v h)

  pub name_lies : (w : Wanted) (first : Identifier) (selectors : SelectorTrees) → faults_in s w (Named first selectors) ≡ []
      → comes_between (bounds_of s (Named first selectors)) (value_with calls p (Named first selectors)) ≡ true
  name_lies w first selectors h =
      subst (λ b. comes_between b (value_with calls p (Named first selectors)) ≡ true) (sym (of_name s first selectors))
      (standing_between (standing_of s first selectors) (value_with calls p (Named first selectors)) (fixed_value (standing_of s first selectors)) refl
      (name_ends s p agrees calls answers Kept Found known w first selectors h))

  -- what is known of a name in the scope is known at the place
  name_kept : Keeps s p
  name_kept first selectors c h = by_number (number_of s first.name) refl
    where
      apart : None ≡ Some c → ⊥
      apart e = cc

      by_number : (o : Option ℕ) → number_of s first.name ≡ o → fixed_name p first selectors ≡ Some c
      by_number None e =
          absurd (apart (sym (ap (λ k. fixed_value (select_all s (stands_first s k) selectors)) e ∙ all_valueless s selectors standing.Doubtful refl) ∙ h))
      by_number (Some n) e =
          let x = entity_number s first.name n e in
          let is : stands_first s (number_of s first.name) ≡ stands_for n (Some x.0) = ap (stands_first s) e ∙ ap (stands_for n) x.1 in
          by_first (stands_for n (Some x.0)) (ap (λ u. fixed_value (select_all s u selectors)) (sym is)
          ∙ h) (first_here s p agrees first.name selectors n x.0 x.1 (agrees.names first.name n x.0 e x.1))
        where
          by_first : (w : Standing) → fixed_value (select_all s w selectors) ≡ Some c → IsNone s w ⊎ IsHere s p first.name selectors w
              → fixed_name p first selectors ≡ Some c
          by_first w k (inl none) = absurd (apart (sym (all_valueless s selectors w none.1) ∙ k))
          by_first w k (inr here) = here.same ∙ k

  -- ---- static expressions

  module _ (static : StaticIsValue) where
    pub static_worth : (e : ExprTree) (z : ℤ) → static_number s e ≡ Some z → value_with calls p e ≡ Gives (Number z)
    static_worth e z h = let known = number_of_form (static_form s e) (static_value s e) z h in static s p calls name_kept e known.0 ∙ known.1

    -- an expression that is static lies between its value twice, any other where it lies
    pub known_between : (e : ExprTree) (others : ℤ × ℤ) → (static_number s e ≡ None → comes_between others (value_with calls p e) ≡ true)
        → comes_between (known_or (static_number s e) others) (value_with calls p e) ≡ true
    known_between e others h = by_number (static_number s e) refl
      where
        by_number : (o : Option ℤ) → static_number s e ≡ o → comes_between (known_or o others) (value_with calls p e) ≡ true
        by_number (Some z) k = subst (λ v. comes_between (z, z) v ≡ true) (sym (static_worth e z k)) (within_itself z)
        by_number None k = h k
