-- What stands in the parentheses of legal names that have values: few expressions, of one word each.
use Rattle.std.proofs.Common.{◌≡◌, ◌<◌, ◌≤◌, ℕ, zero, suc, [], ◌∷◌, List, length, Bool, true, false, not, Option, Some, None, refl, sym, ap, ◌∙◌, subst, arith}
use Rattle.std.specs.Prelude.{⊤, nat_eq, slice_get}
use Rattle.base.specs.declared.faults.TheConstants.{NAME_NOT_VISIBLE, NO_MEANING, WRONG_ARGUMENT_COUNT}
use Rattle.ada_tree.specs.declared.declaration.Mode.{Mode}
use Rattle.ada_tree.specs.declared.declaration.Mode.TheVariants as mode
use Rattle.ada_tree.specs.declared.expression.Identifier.{Identifier}
use Rattle.ada_tree.specs.ExpressionTree.{Arguments, ArgumentTrees, ExprTree, MoreSelectors, NoSelectors, SelectorTree, SelectorTrees, Value}
use Rattle.ada_tree.specs.ExpressionTree as tree
use Rattle.types.specs.declared.entity.FormalParameter.{FormalParameter}
use Rattle.types.specs.declared.entity.PredefinedOperation.TheVariants as predefined
use Rattle.types.specs.declared.entity.Role.{Role}
use Rattle.types.specs.declared.entity.Subtype.{Subtype}
use Rattle.types.specs.declared.standing.Callee.{Callee}
use Rattle.types.specs.declared.standing.Callee.TheVariants as callee
use Rattle.types.specs.declared.standing.Standing.{Standing}
use Rattle.types.specs.declared.standing.Standing.TheVariants as standing
use Rattle.types.specs.Entities.{Arrays, Booleans, Entity, Integers, Predefined, Profile, Records, Spans, Times, TypeForm}
use Rattle.types.specs.Scopes.{Scope, entity_at, form_at, is_visible, number_of}
use Rattle.types.specs.Standings.{call_stands, callee_profile, conversion_stands, count, element_stands, is_single, result_stands, select, select_all, standing_of, stands_first, stands_for}
use Rattle.types.specs.Statics.{start_of}
use Rattle.expr_soundness.specs.expr_rules.specs.declared.names.Slot.{Slot}
use Rattle.expr_soundness.specs.expr_rules.specs.declared.names.Slot.TheVariants.{Expects, Takes, TakesLabel}
use Rattle.expr_soundness.specs.expr_rules.specs.declared.own.Own.{Own}
use Rattle.expr_soundness.specs.expr_rules.specs.declared.own.Own.TheVariants.{Typed, Universal, Unknown}
use Rattle.expr_soundness.specs.expr_rules.specs.declared.own.Wanted.{Wanted}
use Rattle.expr_soundness.specs.expr_rules.specs.declared.own.Wanted.TheVariants.{AnyInteger, Anything, OfType}
use Rattle.expr_soundness.specs.expr_rules.specs.Faults.{rule}
use Rattle.expr_soundness.specs.expr_rules.specs.NameRules.{call_slot, conversion_slot, count_rule, formal_slot_or, index_slot, is_doubtful, mismatch, part_rule, profile_formals, slot_at, value_rule}
use Rattle.expr_soundness.specs.expr_rules.specs.ExpressionRules.{argument_faults, arguments_faults, faults_in, name_faults, selector_faults, selectors_faults}
use Rattle.expr_soundness.specs.expr_rules.specs.Typing.{is_booleans, is_integers, is_spans, is_times, own_of}
use Rattle.expr_soundness.specs.expr_rules.proofs.TypedLaw.{back_empty, front_empty, same_number, span_numeric, time_numeric, unbroken}
use Rattle.expr_soundness.specs.SoundScopes.{AreIn, IsSoundResult, SoundScope}
use Rattle.expr_soundness.proofs.Expressions.{not_false}
use Rattle.expr_soundness.proofs.Goods.{Good, GoodCallee, good_first, good_select, no_constant_parts, part_unbroken, sound_form}
use Rattle.expr_soundness.proofs.Positions.{named}
use Rattle.expr_code.specs.Emitting.{IsLegalExpression}
use Rattle.expr_code.specs.Refusing.{factors_below, words_below}
use Rattle.expr_code.specs.Widths.{own_words, width_of}
use Rattle.expr_code.proofs.Widths.{Fits, boolean_one, fits, integral_one, known, numeric_one}
use Rattle.expr_code.specs.Providing.{AreScalar, FewFormals, is_scalar_form}

-- ---- what a slot expects is of one word

abbrev pub IsNarrow : Scope → Slot → Type 0
IsNarrow s (Expects (OfType n)) = own_words s (Typed n) ≡ 1
IsNarrow s (Expects AnyInteger) = ⊤
IsNarrow s (Expects Anything) = ⊥
IsNarrow s (Takes n) = ⊥
IsNarrow s TakesLabel = ⊥

-- all that stand there, of which there are at most eight
pub record AreNarrow (s : Scope) (slot : ℕ → Slot) (all : ArgumentTrees) : Type 0 where
  pub few : count all ≤ 8
  pub narrow : (k : ℕ) → k < count all → IsNarrow s (slot k)

-- the slot of a formal of this mode
abbrev pub slot_by : Mode → ℕ → Slot
slot_by m n = elim m [ mode.In ↦ Expects (OfType n) | mode.Out ↦ Takes n | mode.InOut ↦ Takes n ]

module _ (s : Scope) where
  -- a scalar type has one word
  pub scalar_words : (n : ℕ) (o : Option TypeForm) → form_at s n ≡ o → is_scalar_form o ≡ true → own_words s (Typed n) ≡ 1
  scalar_words n (Some Integers) e h = integral_one s (Typed n) (ap is_integers e)
  scalar_words n (Some Booleans) e h = boolean_one s (Typed n) (ap is_booleans e)
  scalar_words n (Some Times) e h = numeric_one s (Typed n) (time_numeric s (Typed n) (ap is_times e))
  scalar_words n (Some Spans) e h = numeric_one s (Typed n) (span_numeric s (Typed n) (ap is_spans e))
  scalar_words n (Some (Arrays index many element)) e h = cc
  scalar_words n (Some (Records components)) e h = cc
  scalar_words n None e h = cc

  narrow_formals : (fs : List FormalParameter) → AreIn fs → AreScalar s fs → (k : ℕ) → k < length fs
      → IsNarrow s (formal_slot_or (slice_get fs k))
  narrow_formals [] ins scalar k less = absurd (omega (arith, less))
  narrow_formals (f ∷ fs) ins scalar zero less =
      subst (λ m. IsNarrow s (slot_by m f.subtype.type_number)) (sym ins.0)
      (scalar_words f.subtype.type_number (form_at s f.subtype.type_number) refl scalar.0)
  narrow_formals (f ∷ fs) ins scalar (suc k) less = narrow_formals fs ins.1 scalar.1 k (omega (arith, less))

  factors_low : (o : Option Entity) → factors_below o ≤ 1
  factors_low (Some (Predefined predefined.Milliseconds p)) = omega arith
  factors_low o = omega arith

  pub below_low : (w : Standing) → words_below s w ≤ 1
  below_low (standing.Part r t) = omega arith
  below_low (standing.Callee (callee.Direct n)) = factors_low (entity_at s n)
  below_low w = omega arith

  single_index : (r : Role) (index : Subtype) (many : ℕ) (element : Subtype) (b : Bool)
      → is_doubtful (element_stands r (Some (Arrays index many element)) b) ≡ false
      → b ≡ true
  single_index r index many element true h = refl
  single_index r index many element false h = cc

  single_operand : (t : Subtype) (b : Bool) → is_doubtful (conversion_stands t (Some Integers) b) ≡ false → b ≡ true
  single_operand t true h = refl
  single_operand t false h = cc

  one_of : (all : ArgumentTrees) → is_single all ≡ true → count all ≤ 8
  one_of all h = let one = same_number (count all) 1 h in omega (arith, one)

  converted : (t : Subtype) (o : Option TypeForm) (all : ArgumentTrees) → is_doubtful (conversion_stands t o (is_single all)) ≡ false
      → AreNarrow s (λ k. conversion_slot o) all
  converted t (Some Integers) all h = record { few = one_of all (single_operand t (is_single all) h); narrow = λ k less. tt }
  converted t o all h = absurd cc

  module _ (sound : SoundScope s) where
    fits_one : (w : Wanted) (own : Own) → IsNarrow s (Expects w) → Fits s sound w own → own_words s own ≡ 1
    fits_one (OfType n) Unknown narrow f = refl
    fits_one (OfType n) Universal narrow f = refl
    fits_one (OfType n) (Typed m) narrow f = ap (λ k. own_words s (Typed k)) (sym (same_number n m f.wanted)) ∙ narrow
    fits_one AnyInteger own narrow f = integral_one s own f.wanted
    fits_one Anything own narrow f = absurd narrow

    -- what stands in such a slot is a legal expression of one word
    pub slot_width : (slot : Slot) (e : ExprTree) → IsNarrow s slot → argument_faults s slot (Value e) ≡ [] → IsLegalExpression s e × (width_of s e ≡ 1)
    slot_width (Expects w) e narrow h =
        let inside = faults_in s w e in
        let ends = mismatch s w (own_of s e) (start_of e) in (
          record { wanted = w; unbroken = front_empty inside ends h },
          fits_one w (own_of s e) narrow (fits s sound w (own_of s e) (start_of e) (known s sound e w (front_empty inside ends h)) (back_empty inside ends h)),
        )
    slot_width (Takes n) e narrow h = absurd narrow
    slot_width TakesLabel e narrow h = absurd narrow

    indexed : (r : Role) (n : ℕ) (o : Option TypeForm) (all : ArgumentTrees) → form_at s n ≡ o → is_doubtful (element_stands r o (is_single all)) ≡ false
        → AreNarrow s (λ k. index_slot o) all
    indexed r n (Some (Arrays index many element)) all e h =
        record {
          few = one_of all (single_index r index many element (is_single all) h);
          narrow = λ k less. integral_one s (Typed index.type_number) (sound_form s sound n (Arrays index many element) e).integers;
        }
    indexed r n o all e h = absurd cc

    module _ (few : FewFormals s) where
      called : (place : ℕ) (f : Callee) (p : Profile) (r : Option Subtype) (all : ArgumentTrees) → callee_profile s f ≡ Some p → p.result ≡ r
          → GoodCallee s (Some p) → count_rule place (count all) (length p.formals) ≡ [] → (result_stands r ≡ standing.Statement → ⊥)
          → AreNarrow s (λ k. call_slot (Some p) k) all
      called place f p None all is result good h ends = absurd (ends refl)
      called place f p (Some t) all is result good h ends =
          let x = few f p is in
          let same = same_number (count all) (length p.formals) (not_false (nat_eq (count all) (length p.formals)) (unbroken WRONG_ARGUMENT_COUNT place _ h)) in
          let its : IsSoundResult s p.formals (Some t) = subst (IsSoundResult s p.formals) result good.result in
          let eight : length p.formals ≤ 8 = x.few in
          record {
            few = omega (arith, same, eight);
            narrow = λ k less. narrow_formals p.formals its.1 (x.scalar t result) k (omega (arith, same, less));
          }

      by_profile : (place : ℕ) (f : Callee) (o : Option Profile) (all : ArgumentTrees) → callee_profile s f ≡ o → GoodCallee s o
          → count_rule place (count all) (length (profile_formals o)) ≡ [] → (call_stands o ≡ standing.Statement → ⊥)
          → AreNarrow s (λ k. call_slot o k) all
      by_profile place f (Some p) all is good h ends = called place f p p.result all is refl good h ends
      by_profile place f None all is good h ends = absurd good

      -- in the parentheses behind whatever stands there, where no call of a procedure ends there
      narrow_behind : (place : ℕ) (w : Standing) (all : ArgumentTrees) → Good s w → part_rule s place w (Arguments all) ≡ []
          → (select s w (Arguments all) ≡ standing.Statement → ⊥)
          → AreNarrow s (slot_at s w) all
      narrow_behind place (standing.Part r t) all good h ends =
          indexed r t.type_number (form_at s t.type_number) all refl (unbroken NO_MEANING place _ h)
      narrow_behind place (standing.Fixed t v) all good h ends = absurd (no_constant_parts s sound place t v (Arguments all) good h)
      narrow_behind place (standing.Named t) all good h ends = converted t (form_at s t.type_number) all (unbroken NO_MEANING place _ h)
      narrow_behind place (standing.Callee f) all good h ends = by_profile place f (callee_profile s f) all refl good h ends
      narrow_behind place standing.Put all good h ends = absurd (ends refl)
      narrow_behind place (standing.Protected n) all good h ends = absurd cc
      narrow_behind place (standing.Given t v) all good h ends = absurd cc
      narrow_behind place (standing.Plain z) all good h ends = absurd cc
      narrow_behind place standing.Statement all good h ends = absurd cc
      narrow_behind place standing.Task all good h ends = absurd cc
      narrow_behind place standing.Other all good h ends = absurd cc
      narrow_behind place standing.Doubtful all good h ends = absurd good

      -- ---- the parts of a name

      -- legal parts behind what stands there, which end with no call of a procedure
      pub record IsPath (place : ℕ) (w : Standing) (all : SelectorTrees) : Type 0 where
        pub good : Good s w
        pub unbroken : selectors_faults s place w all ≡ []
        pub ends : select_all s w all ≡ standing.Statement → ⊥

      module _ (place : ℕ) (w : Standing) (x : SelectorTree) (rest : SelectorTrees) (h : IsPath place w (MoreSelectors x rest)) where
        in_part : selector_faults s place w x ≡ []
        in_part = front_empty (selector_faults s place w x) (selectors_faults s place (select s w x) rest) h.unbroken

        pub path_behind : IsPath place (select s w x) rest
        path_behind =
            record {
              good = good_select s sound place w x h.good (part_unbroken s sound place w x in_part);
              unbroken = back_empty (selector_faults s place w x) (selectors_faults s place (select s w x) rest) h.unbroken;
              ends = h.ends;
            }

      -- nothing stands behind a statement
      pub statement_ends : (place : ℕ) (rest : SelectorTrees) → selectors_faults s place standing.Statement rest ≡ []
          → select_all s standing.Statement rest ≡ standing.Statement
      statement_ends place NoSelectors h = refl
      statement_ends place (MoreSelectors x rest) h =
          absurd (good_select s sound place standing.Statement x tt
          (part_unbroken s sound place standing.Statement x (front_empty (selector_faults s place standing.Statement x)
          (selectors_faults s place (select s standing.Statement x) rest) h)))

      module _ (place : ℕ) (w : Standing) (all : ArgumentTrees) (rest : SelectorTrees) (h : IsPath place w (MoreSelectors (Arguments all) rest)) where
        in_parentheses : selector_faults s place w (Arguments all) ≡ []
        in_parentheses = in_part place w (Arguments all) rest h

        no_statement : select s w (Arguments all) ≡ standing.Statement → ⊥
        no_statement is =
            let behind = path_behind place w (Arguments all) rest h in
            h.ends (ap (λ u. select_all s u rest) is ∙ statement_ends place rest (subst (λ u. selectors_faults s place u rest ≡ []) is behind.unbroken))

        pub path_narrow : AreNarrow s (slot_at s w) all
        path_narrow =
            narrow_behind place w all h.good (front_empty (part_rule s place w (Arguments all)) (arguments_faults s w 0 all) in_parentheses) no_statement

        pub path_arguments : arguments_faults s w 0 all ≡ []
        path_arguments = back_empty (part_rule s place w (Arguments all)) (arguments_faults s w 0 all) in_parentheses

      -- ---- whole names

      module _ (first : Identifier) (selectors : SelectorTrees) where
        abbrev pub begins : Standing
        begins = stands_first s (number_of s first.name)

        -- what it begins with, and its parts behind that
        pub name_begins : name_faults s first selectors ≡ [] → Good s begins × (selectors_faults s first.place begins selectors ≡ [])
        name_begins h =
            let hidden = rule NAME_NOT_VISIBLE first.place (not (is_visible s first.name)) in
            let behind = selectors_faults s first.place begins selectors in
            let visible = not_false (is_visible s first.name)
            (unbroken NAME_NOT_VISIBLE first.place (not (is_visible s first.name)) (front_empty hidden behind h)) in
            let x = named s first.name visible in
            let is : begins ≡ stands_for x.number (Some x.entity) = ap (stands_first s) x.numbered ∙ ap (stands_for x.number) x.stands in
            (subst (Good s) (sym is) (good_first s sound x.number x.entity x.stands), back_empty hidden behind h)

        pub name_path : name_faults s first selectors ≡ [] → (standing_of s first selectors ≡ standing.Statement → ⊥) → IsPath first.place begins selectors
        name_path h ends = let begun = name_begins h in record { good = begun.0; unbroken = begun.1; ends = ends }

        no_value : value_rule first.place (standing_of s first selectors) ≡ [] → standing_of s first selectors ≡ standing.Statement → ⊥
        no_value h is = let k = subst (λ u. value_rule first.place u ≡ []) is h in cc

        pub value_path : IsLegalExpression s (tree.Named first selectors) → IsPath first.place begins selectors
        value_path h =
            let parts = name_faults s first selectors in
            let whole = value_rule first.place (standing_of s first selectors) in
            name_path (front_empty parts whole h.unbroken) (no_value (back_empty parts whole h.unbroken))
