-- Calls of functions through the names of protected objects (RM 9.4, 9.5): what stands behind such a name, its code, and what refuses that.
use Rattle.std.proofs.Common.{◌≡◌, ℕ, ◌+◌, List, [], ◌++◌, map, Option, None, Some, not, refl, sym, ap, ◌∙◌, subst, arith}
use Rattle.std.specs.Prelude.{bytes_eq, position, slice_get}
use Rattle.base.specs.declared.faults.TheConstants.{NAME_NOT_VISIBLE}
use Rattle.ada_tree.specs.declared.expression.Identifier.{Identifier}
use Rattle.ada_tree.specs.ExpressionTree as tree
use Rattle.ada_tree.specs.ExpressionTree.{ArgumentTrees, Arguments, Component, MoreSelectors, NoSelectors, SelectorTrees}
use Rattle.ada_tree.specs.Size.{total}
use Rattle.image.specs.Sections.{Sections}
use Rattle.image.specs.Operations.{called, parameters_of, results_of}
use Rattle.image.specs.Rules.{is_external, some_and}
use Rattle.image.specs.declared.instruction.Operation.TheVariants as op
use Rattle.types.specs.declared.entity.Subtype.{Subtype}
use Rattle.types.specs.declared.standing.Callee.{Callee}
use Rattle.types.specs.declared.standing.Callee.TheVariants as callee
use Rattle.types.specs.declared.standing.Standing.TheVariants as standing
use Rattle.types.specs.Entities.{Entity, Operation, Profile, Protected, ProtectedObject}
use Rattle.types.specs.Evaluations.{and_then}
use Rattle.types.specs.Evaluating.{fixed_value, function_through, name_with}
use Rattle.types.specs.Layouts.{words_of}
use Rattle.types.specs.Places.{IsProtected, ceiling_of, function_of}
use Rattle.types.specs.Scopes.{entity_at, is_visible, number_of, protected_at, protected_of, Scope}
use Rattle.types.specs.Standings.{call_stands, called_operation, callee_profile, operation_profile, operation_stands, profile_among, result_stands, select, select_all, standing_of, stands_first, stands_for}
use Rattle.expr_soundness.specs.expr_rules.specs.Faults.{Faults, rule}
use Rattle.expr_soundness.specs.expr_rules.specs.NameRules.{value_rule}
use Rattle.expr_soundness.specs.expr_rules.specs.ExpressionRules.{selector_faults, selectors_faults}
use Rattle.expr_soundness.specs.expr_rules.proofs.TypedLaw.{back_empty, front_empty}
use Rattle.expr_soundness.specs.Agreeing.{OffersFunction, parameter_subtype}
use Rattle.expr_soundness.specs.SoundScopes.{AreIn, IsSoundProfile, IsSoundResult, SoundScope}
use Rattle.expr_soundness.proofs.Goods.{Good, GoodCallee, good_first, good_select}
use Rattle.expr_soundness.proofs.Positions.{same_some}
use Rattle.expr_code.specs.Computing.{AlwaysNames}
use Rattle.expr_code.specs.Emitting.{IsLegalExpression}
use Rattle.expr_code.specs.Seeing.{external_of, external_profile, library_of, Package, profile_behind, Sees, Suits}
use Rattle.expr_code.specs.declared.visible.Visible.{Visible}
use Rattle.expr_code.proofs.Actuals.{IsCoded}
use Rattle.expr_code.proofs.Flowing.{Changes}
use Rattle.expr_code.proofs.Names.{legal_here}
use Rattle.expr_code.proofs.Passing.{named_value}

-- ---- the operation that is named behind a protected object

-- The first name is that of a protected object, and the second one that of its operation with this profile.
pub record IsBehind (s : Scope) (object operation : List ℕ) (profile : Profile) : Type 0 where
  pub number : ℕ
  pub protected : ProtectedObject
  pub place : ℕ
  pub entry : Operation
  pub numbered : number_of s object ≡ Some number
  pub stands : entity_at s number ≡ Some (Protected protected)
  pub placed : position (λ x. bytes_eq x.name operation) protected.operations ≡ Some place
  pub found : slice_get protected.operations place ≡ Some entry
  pub profiled : entry.profile ≡ profile

module _ (s : Scope) (object operation : List ℕ) (profile : Profile) where
  by_operation : (n k : ℕ) (o : ProtectedObject) (x : Option Operation) → number_of s object ≡ Some n → entity_at s n ≡ Some (Protected o)
      → position (λ x. bytes_eq x.name operation) o.operations ≡ Some k → slice_get o.operations k ≡ x → operation_profile x ≡ Some profile
      → IsBehind s object operation profile
  by_operation n k o (Some x) numbered stands placed found is =
      record {
        number = n;
        protected = o;
        place = k;
        entry = x;
        numbered = numbered;
        stands = stands;
        placed = placed;
        found = found;
        profiled = same_some x.profile profile is;
      }
  by_operation n k o None numbered stands placed found is = cc

  by_place : (n : ℕ) (o : ProtectedObject) (k : Option ℕ) → number_of s object ≡ Some n → entity_at s n ≡ Some (Protected o)
      → position (λ x. bytes_eq x.name operation) o.operations ≡ k
      → elim k [ None ↦ None | Some k ↦ profile_among (Some o) k ] ≡ Some profile
      → IsBehind s object operation profile
  by_place n o (Some k) numbered stands placed is = by_operation n k o (slice_get o.operations k) numbered stands placed refl is
  by_place n o None numbered stands placed is = cc

  by_entity : (n : ℕ) (e : Option Entity) → number_of s object ≡ Some n → entity_at s n ≡ e → profile_behind (protected_of e) operation ≡ Some profile
      → IsBehind s object operation profile
  by_entity n (Some (Protected o)) numbered stands is = by_place n o (position (λ x. bytes_eq x.name operation) o.operations) numbered stands refl is
  by_entity n e numbered stands is = cc

  by_number : (n : Option ℕ) → number_of s object ≡ n → profile_behind (elim n [ None ↦ None | Some k ↦ protected_at s k ]) operation ≡ Some profile
      → IsBehind s object operation profile
  by_number (Some n) numbered is = by_entity n (entity_at s n) numbered refl is
  by_number None numbered is = cc

  pub is_behind : external_profile s object operation ≡ Some profile → IsBehind s object operation profile
  is_behind is = by_number (number_of s object) refl is

module _ (v : Visible) (first operation : Identifier) (profile : Profile) (told : external_profile v.scope first.name operation.name ≡ Some profile) where
  abbrev s : Scope
  s = v.scope

  abbrev pub at : IsBehind s first.name operation.name profile
  at = is_behind s first.name operation.name profile told

  abbrev pub of_object : Callee
  of_object = callee.Operation at.number at.place

  -- the name with what stands behind the operation
  abbrev pub external_name : SelectorTrees → SelectorTrees
  external_name behind = MoreSelectors (Component operation) behind

  pub begins : stands_first s (number_of s first.name) ≡ standing.Protected at.number
  begins = ap (stands_first s) at.numbered ∙ ap (stands_for at.number) at.stands

  protected_is : protected_at s at.number ≡ Some at.protected
  protected_is = ap protected_of at.stands

  pub profile_is : callee_profile s of_object ≡ Some profile
  profile_is = ap (λ o. profile_among o at.place) protected_is ∙ ap operation_profile at.found ∙ ap Some at.profiled

  behind_is : select s (standing.Protected at.number) (Component operation) ≡ standing.Callee of_object
  behind_is =
      ap (λ o. operation_stands at.number o operation.name) protected_is ∙ ap (called_operation at.number) at.placed

  pub stands_behind : (behind : SelectorTrees) → standing_of s first (external_name behind) ≡ select_all s (standing.Callee of_object) behind
  stands_behind behind = ap (λ w. select_all s w (external_name behind)) begins ∙ ap (λ w. select_all s w behind) behind_is

  -- the rules of what stands behind the operation
  pub external_parts : (behind : SelectorTrees) → IsLegalExpression s (tree.Named first (external_name behind))
      → selectors_faults s first.place (standing.Callee of_object) behind ≡ []
  external_parts behind legal =
      let hidden = rule NAME_NOT_VISIBLE first.place (not (is_visible s first.name)) in
      let all = selectors_faults s first.place (stands_first s (number_of s first.name)) (external_name behind) in
      let ends = value_rule first.place (standing_of s first (external_name behind)) in
      let whole = ap (λ w. selectors_faults s first.place w (external_name behind)) (sym begins)
      ∙ back_empty hidden all (front_empty (hidden ++ all) ends legal.unbroken) in
      ap (λ w. selectors_faults s first.place w behind) (sym behind_is)
      ∙ back_empty (selector_faults s first.place (standing.Protected at.number) (Component operation))
      (selectors_faults s first.place (select s (standing.Protected at.number) (Component operation)) behind) whole

  -- a legal call gives a result, so that all formals are of mode `in`
  module _ (behind : SelectorTrees) (legal : IsLegalExpression s (tree.Named first (external_name behind))) where
    abbrev hidden : Faults
    hidden = rule NAME_NOT_VISIBLE first.place (not (is_visible s first.name))

    abbrev all_parts : Faults
    all_parts = selectors_faults s first.place (stands_first s (number_of s first.name)) (external_name behind)

    external_end : value_rule first.place (select_all s (standing.Callee of_object) behind) ≡ []
    external_end =
        ap (value_rule first.place) (sym (stands_behind behind))
        ∙ back_empty (hidden ++ all_parts) (value_rule first.place (standing_of s first (external_name behind))) legal.unbroken

    operation_unbroken : selector_faults s first.place (standing.Protected at.number) (Component operation) ≡ []
    operation_unbroken =
        front_empty (selector_faults s first.place (standing.Protected at.number) (Component operation))
        (selectors_faults s first.place (select s (standing.Protected at.number) (Component operation)) behind)
        (ap (λ w. selectors_faults s first.place w (external_name behind)) (sym begins)
        ∙ back_empty hidden all_parts
        (front_empty (hidden ++ all_parts) (value_rule first.place (standing_of s first (external_name behind))) legal.unbroken))

    profile_sound : SoundScope s → IsSoundProfile s profile
    profile_sound sound =
        subst (GoodCallee s) profile_is
        (subst (Good s) behind_is
        (good_select s sound first.place (standing.Protected at.number) (Component operation)
        (good_first s sound at.number (Protected at.protected) at.stands) operation_unbroken))

  pub external_ins : (a : ArgumentTrees) → SoundScope s → IsLegalExpression s (tree.Named first (external_name (MoreSelectors (Arguments a) NoSelectors)))
      → AreIn profile.formals
  external_ins a sound legal =
      by_result profile.result refl
      (ap (λ o. value_rule first.place (select_all s (call_stands o) NoSelectors)) (sym profile_is)
      ∙ external_end (MoreSelectors (Arguments a) NoSelectors) legal)
    where
      by_result : (r : Option Subtype) → profile.result ≡ r → value_rule first.place (select_all s (result_stands r) NoSelectors) ≡ [] → AreIn profile.formals
      by_result (Some t) is h = (subst (IsSoundResult s profile.formals) is (profile_sound (MoreSelectors (Arguments a) NoSelectors) legal sound).result).1
      by_result None is h = cc

  -- ---- the call

  module _ (height : ℕ) (added : IsCoded v (external_of v first.name operation.name) profile) where
    -- what the name means
    pub external_named : (behind : SelectorTrees) → IsLegalExpression s (tree.Named first (external_name behind))
        → fixed_value (standing_of s first (external_name behind)) ≡ None
        → (g : Package) (i : Sections) → AlwaysNames i (library_of g) (Sees g v) first (external_name behind) behind (op.ProtectedCall added.number)
        (map parameter_subtype profile.formals)
    external_named behind legal valueless g i p view sees =
        let means = sees.names.agrees.names first.name at.number (Protected at.protected) at.numbered at.stands in
        let offered = means.offers operation.name at.place at.entry at.placed at.found in
        let same = subst (λ x. OffersFunction p means.object.number operation.name x profile.result) at.profiled
        (subst (λ x. OffersFunction p means.object.number operation.name at.entry.profile x) (ap (λ x. x.result) at.profiled) offered) in
        let one = subst (λ r. OffersFunction p means.object.number operation.name profile r) added.is same in
        let it = sees.externals first.name operation.name added.number means.object one.0 added.numbered means.is
        (ap (λ l. function_of l (Some means.object.number) operation.name) (sym sees.unit.functions) ∙ one.1) in
        let fixed = (legal_here s p sees.names.agrees first (external_name behind) legal).same ∙ valueless in
        record {
          function = one.0;
          through = Some means.object;
          number = added.number;
          coded = it.coded;
          allowed = (it.owned, ap (λ x. ceiling_of x means.object.number) sees.unit.scope ∙ it.ceiling);
          way = refl;
          shared = sees.unit;
          means = λ calls. named_value calls p first (external_name behind) (IsProtected means.object) fixed means.is
              ∙ ap (λ f. and_then (function_through means.object f) (λ n. name_with calls p n behind)) one.1;
          formals = one.2.formals;
        }

    pub external_changes : (depth : ℕ) → height ≡ depth + total (words_of s) (map parameter_subtype profile.formals)
        → Changes (Suits v) (op.ProtectedCall added.number) height (depth + 1)
    external_changes depth high = record {
      operands = refl;
      names = λ i x suits.
          let it = suits.externals first.name operation.name added.number profile added.result added.numbered told added.is in
          ap (λ o. some_and o (λ c. is_external c.kind)) it.is ∙ it.kind;
      takes = λ i x suits.
          let it = suits.externals first.name operation.name added.number profile added.result added.numbered told added.is in
          let many : parameters_of (called i added.number) ≡ it.code.parameters = ap parameters_of it.is in
          omega (arith, many, it.parameters, high);
      leaves = λ i x suits.
          let it = suits.externals first.name operation.name added.number profile added.result added.numbered told added.is in
          let many : parameters_of (called i added.number) ≡ it.code.parameters = ap parameters_of it.is in
          let some : results_of (called i added.number) ≡ it.code.results = ap results_of it.is in
          omega (arith, many, some, it.parameters, it.results, high, added.single);
      stays = refl;
      is_none = refl;
    }
