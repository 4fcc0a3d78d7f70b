-- A static expression that breaks no rule where the names of Standard, and the package by its name alone, are visible breaks none by those of Standard alone:
-- the name of a package has no value. So what main's aspect names stands in front of all names of the package.
use Rattle.std.proofs.Common.{◌≡◌, ◌++◌, ◌⊎◌, inl, inr, ℕ, ℤ, Bool, true, false, cond, not, List, [], Option, Some, None, refl, sym, ap, ◌∙◌, subst}
use Rattle.std.specs.Prelude.{bytes_eq, codes, is_some}
use Rattle.base.specs.declared.faults.TheConstants.{NAME_NOT_VISIBLE, NO_MEANING}
use Rattle.ada_tree.specs.declared.expression.Identifier.{Identifier}
use Rattle.ada_tree.specs.ExpressionTree as tree
use Rattle.ada_tree.specs.ExpressionTree.{Arguments, Attribute, Binary, Component, Conditional, ExprTree, MoreSelectors, Named, NoSelectors, Parenthesized, SelectorTrees, Unary}
use Rattle.types.specs.declared.entity.Subtype.{Subtype}
use Rattle.types.specs.declared.entity.Value.{Value as Scalar}
use Rattle.types.specs.declared.entity.Value.TheVariants as scalar
use Rattle.types.specs.declared.standing.Standing.{Standing}
use Rattle.types.specs.declared.standing.Standing.TheVariants as standing
use Rattle.types.specs.declared.statics.StaticForm.TheVariants.{Static}
use Rattle.types.specs.Entities.{Booleans, Entity, Integers, TypeForm}
use Rattle.types.specs.Entities as entity
use Rattle.types.specs.Evaluating.{fixed_value, name_with}
use Rattle.types.specs.Evaluations.{Gives, Val, and_then}
use Rattle.types.specs.Operators.{binary_value, is_decided, unary_value}
use Rattle.types.specs.Places.{meaning_of}
use Rattle.types.specs.Scopes.{Scope, boolean, entity_at, form_at, is_visible, number_of}
use Rattle.types.specs.Standings.{bound_stands, bounds_stand, conversion_stands, is_single, select, select_all, settle, standing_of, stands_first, stands_for, subtype_attribute}
use Rattle.types.specs.Statics.{both, name_form, no_calls, start_of, static_form, static_place, static_value}
use Rattle.types.specs.Values.{Value, value_of}
use Rattle.expr_soundness.specs.expr_rules.specs.declared.own.Wanted.{Wanted}
use Rattle.expr_soundness.specs.expr_rules.specs.Faults.{rule}
use Rattle.expr_soundness.specs.expr_rules.specs.ExpressionRules.{below, beside, binary_rule, faults_in, selectors_faults, unary_rule}
use Rattle.expr_soundness.specs.expr_rules.specs.NameRules.{is_doubtful, value_rule}
use Rattle.expr_soundness.specs.expr_rules.specs.Typing.{binary_own, own_of, own_of_standing, unary_own}
use Rattle.expr_soundness.specs.expr_rules.proofs.TypedLaw.{back_empty, front_empty, unbroken}
use Rattle.expr_soundness.specs.SoundScopes.{SoundScope}
use Rattle.expr_soundness.proofs.Expressions.{not_false}
use Rattle.expr_soundness.proofs.FixedNames.{all_valueless, is_valueless}
use Rattle.expr_soundness.proofs.Positions.{IsNamed, entity_number, named}
use Rattle.program_soundness.proofs.Extending.{Extends, entity_stays, has_types}
use Rattle.program_soundness.proofs.OneList.{both_empty}
use Rattle.program_soundness.proofs.Statics.{both_left, both_right, static_name}
use Rattle.source_laws.proofs.LaterNames.{IsDeclaredOwn}
use Rattle.source_laws.proofs.LaterOperators.{beside_same, binary_declared, binary_rule_same, binary_same, unary_declared, unary_rule_same, unary_same}

-- what stands for a scalar type with its subtype, a truth value, or for what has no value
abbrev pub IsBasic : Scope → Entity → Type 0
IsBasic s (entity.OfType form t) = (form_at s t.type_number ≡ Some Integers) ⊎ (form_at s t.type_number ≡ Some Booleans)
IsBasic s (entity.OfSubtype t) = (form_at s t.type_number ≡ Some Integers) ⊎ (form_at s t.type_number ≡ Some Booleans)
IsBasic s (entity.Literal b) = Unit {0}
IsBasic s entity.Exception = Unit {0}
IsBasic s e = ⊥

module _ (s g : Scope) (x : Extends s g) (sound : SoundScope s)
    (basic : (n : ℕ) (e : Entity) → entity_at s n ≡ Some e → IsBasic s e)
    (more : (name : List ℕ) (n : ℕ) → number_of g name ≡ Some n → (number_of s name ≡ Some n) ⊎ (is_valueless (stands_for n (entity_at g n)) ≡ true)) where
  pub record IsBack (w : Wanted) (e : ExprTree) : Type 0 where
    pub own : own_of g e ≡ own_of s e
    pub declared : IsDeclaredOwn s (own_of s e)
    pub form : static_form s e ≡ Static
    pub value : static_value g e ≡ static_value s e
    pub faults : faults_in s w e ≡ []

  record ArePartsBack (place : ℕ) (u : Standing) (selectors : SelectorTrees) : Type 0 where
    all : select_all g u selectors ≡ select_all s u selectors
    declared : IsDeclaredOwn s (own_of_standing (select_all s u selectors))
    faults : selectors_faults s place u selectors ≡ []

  -- what has no value is not static
  no_static : (u : Standing) (selectors : SelectorTrees) → is_valueless u ≡ true → (v : Scalar) → fixed_value (select_all g u selectors) ≡ Some v → ⊥
  no_static u selectors h v k = let never = sym (all_valueless g selectors u h) ∙ k in cc

  conversion_valueless : (t : Subtype) (o : Option TypeForm) (b : Bool) → is_valueless (conversion_stands t o b) ≡ true
  conversion_valueless t (Some Integers) true = refl
  conversion_valueless t o b = refl

  form_there : (n : ℕ) (form : TypeForm) → form_at s n ≡ Some form → form_at g n ≡ Some form
  form_there n form h = (has_types s g x).forms n form h

  -- ---- attributes of integer types

  abbrev attribute_by : Subtype → Bool → Bool → Standing
  attribute_by t a b = cond a (bound_stands t t.first) (cond b (bound_stands t t.last) standing.Doubtful)

  attribute_back : (place : ℕ) (t : Subtype) (name : Identifier) (rest : SelectorTrees) (v : Scalar) → form_at s t.type_number ≡ Some Integers
      → fixed_value (select_all g (standing.Named t) (MoreSelectors (Attribute name) rest)) ≡ Some v
      → ArePartsBack place (standing.Named t) (MoreSelectors (Attribute name) rest)
  attribute_back place t name rest v form h =
      by_name (bytes_eq name.name (codes "FIRST")) (bytes_eq name.name (codes "LAST")) refl refl rest
      (sym (ap (λ o. fixed_value (select_all g (subtype_attribute t o name.name) rest)) (form_there t.type_number Integers form)) ∙ h)
    where
      given : (a b : Bool) → bytes_eq name.name (codes "FIRST") ≡ a → bytes_eq name.name (codes "LAST") ≡ b
          → bounds_stand t name.name ≡ attribute_by t a b
      given a b i j = λ k. attribute_by t (i k) (j k)

      in_s : select s (standing.Named t) (Attribute name) ≡ bounds_stand t name.name
      in_s = ap (λ o. subtype_attribute t o name.name) form

      in_g : select g (standing.Named t) (Attribute name) ≡ bounds_stand t name.name
      in_g = ap (λ o. subtype_attribute t o name.name) (form_there t.type_number Integers form)

      bound : (z : ℤ) → bounds_stand t name.name ≡ bound_stands t z → ArePartsBack place (standing.Named t) (MoreSelectors (Attribute name) NoSelectors)
      bound z is =
          record {
            all = ap (settle g) (in_g ∙ is) ∙ sym (ap (settle s) (in_s ∙ is));
            declared = subst (λ u. IsDeclaredOwn s (own_of_standing (settle s u))) (sym (in_s ∙ is)) (ap is_some form);
            faults =
                subst (λ u. rule NO_MEANING place (is_doubtful u) ++ selectors_faults s place u NoSelectors ≡ []) (sym (in_s ∙ is)) refl;
          }

      by_name : (a b : Bool) → bytes_eq name.name (codes "FIRST") ≡ a → bytes_eq name.name (codes "LAST") ≡ b → (r : SelectorTrees)
          → fixed_value (select_all g (bounds_stand t name.name) r) ≡ Some v → ArePartsBack place (standing.Named t) (MoreSelectors (Attribute name) r)
      by_name true b i j NoSelectors k = bound t.first (given true b i j)
      by_name false true i j NoSelectors k = bound t.last (given false true i j)
      by_name false false i j r k =
          absurd (no_static standing.Doubtful r refl v (sym (ap (λ u. fixed_value (select_all g u r)) (given false false i j)) ∙ k))
      by_name true b i j (MoreSelectors y r) k =
          absurd (no_static standing.Doubtful r refl v (sym (ap (λ u. fixed_value (select_all g (select g u y) r)) (given true b i j)) ∙ k))
      by_name false true i j (MoreSelectors y r) k =
          absurd (no_static standing.Doubtful r refl v (sym (ap (λ u. fixed_value (select_all g (select g u y) r)) (given false true i j)) ∙ k))

  -- ---- types, and truth values

  type_back : (place : ℕ) (t : Subtype) (selectors : SelectorTrees) (v : Scalar)
      → (form_at s t.type_number ≡ Some Integers) ⊎ (form_at s t.type_number ≡ Some Booleans)
      → fixed_value (select_all g (standing.Named t) selectors) ≡ Some v → ArePartsBack place (standing.Named t) selectors
  type_back place t NoSelectors v form h = cc
  type_back place t (MoreSelectors (Component name) rest) v form h = absurd (no_static standing.Doubtful rest refl v h)
  type_back place t (MoreSelectors (Arguments a) rest) v form h =
      absurd (no_static (select g (standing.Named t) (Arguments a)) rest (conversion_valueless t (form_at g t.type_number) (is_single a)) v h)
  type_back place t (MoreSelectors (Attribute name) rest) v (inl form) h = attribute_back place t name rest v form h
  type_back place t (MoreSelectors (Attribute name) rest) v (inr form) h =
      absurd (no_static standing.Doubtful rest refl v
      (sym (ap (λ o. fixed_value (select_all g (subtype_attribute t o name.name) rest)) (form_there t.type_number Booleans form)) ∙ h))

  truth_back : (place : ℕ) (b : Bool) (selectors : SelectorTrees) (v : Scalar)
      → fixed_value (select_all g (standing.Given boolean (Some (scalar.Truth b))) selectors) ≡ Some v
      → ArePartsBack place (standing.Given boolean (Some (scalar.Truth b))) selectors
  truth_back place b NoSelectors v h = record { all = refl; declared = ap is_some sound.boolean; faults = refl }
  truth_back place b (MoreSelectors y rest) v h = absurd (no_static standing.Doubtful rest refl v h)

  entity_back : (place n : ℕ) (e : Entity) (selectors : SelectorTrees) (v : Scalar) → IsBasic s e
      → fixed_value (select_all g (stands_for n (Some e)) selectors) ≡ Some v → ArePartsBack place (stands_for n (Some e)) selectors
  entity_back place n (entity.OfType form t) parts v b h = type_back place t parts v b h
  entity_back place n (entity.OfSubtype t) parts v b h = type_back place t parts v b h
  entity_back place n (entity.Literal c) parts v b h = truth_back place c parts v h
  entity_back place n entity.Exception parts v b h = absurd (no_static standing.Other parts refl v h)
  entity_back place n e parts v b h = absurd b

  -- ---- names

  abbrev worth : Scope → Identifier → SelectorTrees → Option Scalar → Val Value
  worth u first selectors o =
      elim o [ Some c ↦ Gives (value_of c) | None ↦ name_with no_calls (static_place u) (meaning_of (static_place u) first.name) selectors ]

  name_back : (w : Wanted) (first : Identifier) (selectors : SelectorTrees) → faults_in g w (Named first selectors) ≡ []
      → static_form g (Named first selectors) ≡ Static → IsBack w (Named first selectors)
  name_back w first selectors h static = by_number (more first.name n.number n.numbered)
    where
      n : IsNamed g first.name
      n =
          named g first.name (not_false (is_visible g first.name) (unbroken NAME_NOT_VISIBLE first.place (not (is_visible g first.name))
          (front_empty (rule NAME_NOT_VISIBLE first.place (not (is_visible g first.name))) _
          (front_empty _ (value_rule first.place (standing_of g first selectors)) h))))

      v : (c : Scalar) × (fixed_value (standing_of g first selectors) ≡ Some c)
      v = static_name (standing_of g first selectors) static

      by_number : (number_of s first.name ≡ Some n.number) ⊎ (is_valueless (stands_for n.number (entity_at g n.number)) ≡ true)
          → IsBack w (Named first selectors)
      by_number (inr none) =
          absurd (no_static (stands_for n.number (entity_at g n.number)) selectors none v.0
          (sym (ap (λ k. fixed_value (select_all g (stands_first g k) selectors)) n.numbered) ∙ v.1))
      by_number (inl is) =
          let e = entity_number s first.name n.number is in
          let u = stands_for n.number (Some e.0) in
          let first_g : stands_first g (number_of g first.name) ≡ u =
          ap (stands_first g) n.numbered ∙ ap (stands_for n.number) (entity_stays s g n.number e.0 x e.1) in
          let first_s : stands_first s (number_of s first.name) ≡ u = ap (stands_first s) is ∙ ap (stands_for n.number) e.1 in
          let parts = entity_back first.place n.number e.0 selectors v.0 (basic n.number e.0 e.1)
          (sym (ap (λ k. fixed_value (select_all g k selectors)) first_g) ∙ v.1) in
          let same : standing_of g first selectors ≡ standing_of s first selectors =
          ap (λ k. select_all g k selectors) first_g ∙ parts.all ∙ sym (ap (λ k. select_all s k selectors) first_s) in
          let fixed : fixed_value (standing_of s first selectors) ≡ Some v.0 = sym (ap fixed_value same) ∙ v.1 in
          record {
            own = ap own_of_standing same;
            declared = subst (λ k. IsDeclaredOwn s (own_of_standing (select_all s k selectors))) (sym first_s) parts.declared;
            form = ap name_form (sym same) ∙ static;
            value = ap (worth g first selectors) v.1 ∙ sym (ap (worth s first selectors) fixed);
            faults =
                both_empty _ (value_rule first.place (standing_of s first selectors))
                (both_empty (rule NAME_NOT_VISIBLE first.place (not (is_visible s first.name))) _
                (ap (λ o. rule NAME_NOT_VISIBLE first.place (not (is_some o))) is)
                (ap (λ k. selectors_faults s first.place k selectors) first_s ∙ parts.faults))
                (ap (value_rule first.place) (sym same)
                ∙ back_empty _ (value_rule first.place (standing_of g first selectors)) h);
          }

  -- ---- expressions

  pub static_back : (e : ExprTree) (w : Wanted) → faults_in g w e ≡ [] → static_form g e ≡ Static → IsBack w e
  static_back (tree.Number z place) w h k = record { own = refl; declared = tt; form = refl; value = refl; faults = refl }
  static_back (Named first selectors) w h k = name_back w first selectors h k
  static_back (Parenthesized place e) w h k =
      let b = static_back e w h k in record { own = b.own; declared = b.declared; form = b.form; value = b.value; faults = b.faults }
  static_back (Unary operator place e) w h k =
      let inside = faults_in g (below operator w) e in
      let broken = unary_rule g operator place (own_of g e) in
      let b = static_back e (below operator w) (front_empty inside broken h) k in
      record {
        own = ap (unary_own g operator) b.own ∙ unary_same s g x operator (own_of s e) b.declared;
        declared = unary_declared s sound operator (own_of s e) b.declared;
        form = b.form;
        value = ap (λ v. and_then v (unary_value operator)) b.value;
        faults = both_empty (faults_in s (below operator w) e) (unary_rule s operator place (own_of s e)) b.faults
            (sym (unary_rule_same s g x operator place (own_of s e) b.declared) ∙ sym (ap (unary_rule g operator place) b.own) ∙ back_empty inside broken h);
      }
  static_back (Binary operator a c) w h k =
      let wa = beside g operator (own_of g c) in
      let wb = beside g operator (own_of g a) in
      let broken = binary_rule g operator (start_of a) (own_of g a) (own_of g c) in
      let two = front_empty (faults_in g wa a ++ faults_in g wb c) broken h in
      let p = static_back a wa (front_empty (faults_in g wa a) (faults_in g wb c) two) (both_left (static_form g a) (static_form g c) k) in
      let q = static_back c wb (back_empty (faults_in g wa a) (faults_in g wb c) two) (both_right (static_form g a) (static_form g c) k) in
      let same_a : wa ≡ beside s operator (own_of s c) = ap (beside g operator) q.own ∙ beside_same s g x operator (own_of s c) q.declared in
      let same_c : wb ≡ beside s operator (own_of s a) = ap (beside g operator) p.own ∙ beside_same s g x operator (own_of s a) p.declared in
      record {
        own = (λ j. binary_own g operator (p.own j) (q.own j)) ∙ binary_same s g x operator (own_of s a) (own_of s c) p.declared q.declared;
        declared = binary_declared s sound operator (own_of s a) (own_of s c) p.declared q.declared;
        form = λ j. both (p.form j) (q.form j);
        value = λ j. and_then (p.value j) (λ v. elim (is_decided operator v) [ true ↦ Gives v | false ↦ and_then (q.value j) (binary_value operator v) ]);
        faults = both_empty (faults_in s (beside s operator (own_of s c)) a ++ faults_in s (beside s operator (own_of s a)) c)
            (binary_rule s operator (start_of a) (own_of s a) (own_of s c))
            (both_empty (faults_in s (beside s operator (own_of s c)) a) (faults_in s (beside s operator (own_of s a)) c)
            (subst (λ v. faults_in s v a ≡ []) same_a p.faults) (subst (λ v. faults_in s v c ≡ []) same_c q.faults))
            (sym (binary_rule_same s g x operator (start_of a) (own_of s a) (own_of s c) p.declared q.declared)
            ∙ sym (λ j. binary_rule g operator (start_of a) (p.own j) (q.own j)) ∙ back_empty (faults_in g wa a ++ faults_in g wb c) broken h);
      }
  static_back (Conditional place condition value elsifs last) w h k = cc
