-- Visible names that have what code needs: types that code passes, and functions that may be called.
use Rattle.std.proofs.Common.{◌≡◌, ℕ, [], ◌∷◌, List, true, ◌||◌, not, Option, Some, None, refl, sym, ap, ◌∙◌, subst}
use Rattle.std.specs.Prelude.{is_some, nat_eq}
use Rattle.std.proofs.lemmas.Bool.{and_from}
use Rattle.base.specs.declared.faults.TheConstants.{NAME_NOT_VISIBLE}
use Rattle.ada_tree.specs.declared.expression.Identifier.{Identifier}
use Rattle.ada_tree.specs.ExpressionTree.{Arguments, Attribute, Component, MoreSelectors, Named, NoSelectors, SelectorTrees}
use Rattle.types.specs.declared.entity.FormalParameter.{FormalParameter}
use Rattle.types.specs.declared.entity.Subtype.{Subtype}
use Rattle.types.specs.declared.standing.Callee.{Callee}
use Rattle.types.specs.declared.standing.Callee.TheVariants as callee
use Rattle.types.specs.declared.standing.Standing.TheVariants as standing
use Rattle.types.specs.Entities.{Arrays, Booleans, Integers, Profile, Records, Spans, Times, TypeForm}
use Rattle.types.specs.Scopes.{Scope, entity_at, form_at, is_visible, number_of, profile_of}
use Rattle.types.specs.Standings.{call_stands, callee_profile, result_stands, select, select_all, stands_first, stands_for}
use Rattle.expr_soundness.specs.expr_rules.specs.ExpressionRules.{name_faults, selector_faults, selectors_faults}
use Rattle.expr_soundness.specs.expr_rules.specs.Faults.{rule}
use Rattle.expr_soundness.specs.expr_rules.specs.Typing.{is_booleans}
use Rattle.expr_soundness.specs.expr_rules.proofs.TypedLaw.{back_empty, front_empty, unbroken}
use Rattle.expr_soundness.specs.SoundScopes.{SoundScope}
use Rattle.expr_soundness.proofs.Expressions.{not_false}
use Rattle.expr_soundness.proofs.Goods.{Good, good_select}
use Rattle.expr_code.specs.Emitting.{IsLegalExpression, has_numbers}
use Rattle.expr_code.specs.Providing.{AreScalar, FewFormals, HasWhatExpressionsNeed, are_passable, is_called, is_passable, is_scalar_form}
use Rattle.expr_code.specs.Providing as providing
use Rattle.expr_code.specs.Seeing.{NamesProfile, external_of, external_profile, profile_named, subprogram_of, subprogram_profile}
use Rattle.expr_code.specs.declared.visible.Visible.{Visible}
use Rattle.expr_code.proofs.Widths.{words_by_type}
use Rattle.expr_code.proofs.PeakSlots.{IsPath, path_behind, scalar_words, statement_ends, value_path}
use Rattle.expr_code.proofs.NamedBehind.{behind_begins, behind_profile, behind_stands, named_behind}

-- ---- types that code passes

passable_form : (o : Option TypeForm) → is_scalar_form o ≡ true → (has_numbers o || is_booleans o) ≡ true
passable_form (Some Integers) h = refl
passable_form (Some Booleans) h = refl
passable_form (Some Times) h = refl
passable_form (Some Spans) h = refl
passable_form (Some (Arrays index many element)) h = absurd cc
passable_form (Some (Records components)) h = absurd cc
passable_form None h = absurd cc

module _ (s : Scope) where
  pub scalar_passable : (t : Subtype) → is_scalar_form (form_at s t.type_number) ≡ true → is_passable s t ≡ true
  scalar_passable t h = passable_form (form_at s t.type_number) h

  formals_passable : (fs : List FormalParameter) → AreScalar s fs → are_passable s fs ≡ true
  formals_passable [] h = refl
  formals_passable (f ∷ fs) h = and_from (is_passable s f.subtype) (are_passable s fs) (scalar_passable f.subtype h.0) (formals_passable fs h.1)

  -- a scalar has one word
  pub single_result : (t : Subtype) → is_scalar_form (form_at s t.type_number) ≡ true → providing.is_single s (Some t) ≡ true
  single_result t h =
      ap (λ n. nat_eq n 1) (sym (words_by_type s t) ∙ scalar_words s t.type_number (form_at s t.type_number) refl h)

module _ (s : Scope) (sound : SoundScope s) where
  -- a procedure's call is no value
  procedure_ends : (place : ℕ) (f : Callee) (p : Profile) (all : SelectorTrees) (few : FewFormals s) → callee_profile s f ≡ Some p → p.result ≡ None
      → Good s (standing.Callee f) → selectors_faults s place (standing.Callee f) all ≡ []
      → select_all s (standing.Callee f) all ≡ standing.Statement
  procedure_ends place f p NoSelectors few is none g h = ap call_stands is ∙ ap result_stands none
  procedure_ends place f p (MoreSelectors (Arguments a) rest) few is none g h =
      let w = standing.Callee f in
      let ends : call_stands (callee_profile s f) ≡ standing.Statement = ap call_stands is ∙ ap result_stands none in
      ap (λ u. select_all s u rest) ends ∙ statement_ends s sound few place rest
      (subst (λ u. selectors_faults s place u rest ≡ []) ends
      (back_empty (selector_faults s place w (Arguments a)) (selectors_faults s place (select s w (Arguments a)) rest) h))
  procedure_ends place f p (MoreSelectors (Component name) rest) few is none g h =
      let w = standing.Callee f in
      absurd (good_select s sound place w (Component name) g
      (front_empty (selector_faults s place w (Component name)) (selectors_faults s place (select s w (Component name)) rest) h))
  procedure_ends place f p (MoreSelectors (Attribute name) rest) few is none g h =
      let w = standing.Callee f in
      absurd (good_select s sound place w (Attribute name) g
      (front_empty (selector_faults s place w (Attribute name)) (selectors_faults s place (select s w (Attribute name)) rest) h))

-- ---- names of values

module _ (s : Scope) (first : Identifier) (selectors : SelectorTrees) where
  pub name_visible : name_faults s first selectors ≡ [] → is_visible s first.name ≡ true
  name_visible h =
      not_false (is_visible s first.name) (unbroken NAME_NOT_VISIBLE first.place (not (is_visible s first.name))
      (front_empty (rule NAME_NOT_VISIBLE first.place (not (is_visible s first.name)))
      (selectors_faults s first.place (stands_first s (number_of s first.name)) selectors) h))

-- ---- functions

pub profile_told : (s : Scope) (name : List ℕ) (p : Profile) → NamesProfile s name p → profile_named s name ≡ Some p
profile_told s name p x =
    ap (λ o. elim o [ None ↦ None | Some n ↦ subprogram_profile (entity_at s n) ]) x.numbered ∙ ap subprogram_profile x.stands

-- code may call the function with this number and profile
pub record MayCall (s : Scope) (number : Option ℕ) (p : Profile) : Type 0 where
  pub called : is_called s number p ≡ true
  pub passable : are_passable s p.formals ≡ true

module _ (s : Scope) (sound : SoundScope s) (few : FewFormals s) where
  -- what is called has a result, where a name with a value ends behind it
  pub procedure_not : (place : ℕ) (f : Callee) (p : Profile) (rest : SelectorTrees) → callee_profile s f ≡ Some p
      → IsPath s sound few place (standing.Callee f) rest → p.result ≡ None → ⊥
  procedure_not place f p rest is path none = path.ends (procedure_ends s sound place f p rest few is none path.good path.unbroken)

module _ (v : Visible) (sound : SoundScope v.scope) (cover : HasWhatExpressionsNeed v) where
  abbrev s : Scope
  s = v.scope

  module _ (place : ℕ) (f : Callee) (p : Profile) (rest : SelectorTrees) (is : callee_profile s f ≡ Some p)
      (path : IsPath s sound cover.formals place (standing.Callee f) rest) where
    function_called : (number : Option ℕ) (r : Option Subtype) → p.result ≡ r
        → ((t : Subtype) → p.result ≡ Some t → (is_some number ≡ true) × (is_scalar_form (form_at s t.type_number) ≡ true))
        → MayCall s number p
    function_called number None none told = absurd (procedure_not s sound cover.formals place f p rest is path none)
    function_called number (Some t) given told =
        record {
          called = and_from (is_some number) (providing.is_single s p.result) (told t given).0
              (ap (providing.is_single s) given ∙ single_result s t (told t given).1);
          passable = formals_passable s p.formals ((cover.formals f p is).scalar t given);
        }

  pub named_called : (first : Identifier) (selectors : SelectorTrees) (p : Profile) → NamesProfile s first.name p → IsLegalExpression s (Named first selectors)
      → MayCall s (subprogram_of v first.name) p
  named_called first selectors p x legal =
      let f = callee.Direct x.number in
      let there = profile_told s first.name p x in
      let begins_is : stands_first s (number_of s first.name) ≡ standing.Callee f = ap (stands_first s) x.numbered ∙ ap (stands_for x.number) x.stands in
      let path = subst (λ u. IsPath s sound cover.formals first.place u selectors) begins_is (value_path s sound cover.formals first selectors legal) in
      function_called first.place f p selectors (ap profile_of x.stands) path (subprogram_of v first.name) p.result refl
      (λ t given. (cover.numbered first.name p there, cover.results first.name p t there given))

  -- an operation that is called through the name of its object may be called
  pub behind_called : (first operation : Identifier) (rest : SelectorTrees) (p : Profile) → external_profile s first.name operation.name ≡ Some p
      → IsLegalExpression s (Named first (MoreSelectors (Component operation) rest))
      → MayCall s (external_of v first.name operation.name) p
  behind_called first operation rest p told legal =
      let all = MoreSelectors (Component operation) rest in
      let from = subst (λ u. IsPath s sound cover.formals first.place u all) (behind_begins s first operation p told)
      (value_path s sound cover.formals first all legal) in
      let path = subst (λ u. IsPath s sound cover.formals first.place u rest) (behind_stands s first operation p told)
      (path_behind s sound cover.formals first.place _ (Component operation) rest from) in
      function_called first.place (named_behind s first operation p told) p rest (behind_profile s first operation p told) path
      (external_of v first.name operation.name) p.result refl
      (λ t given. cover.gives first.name operation.name p t told given)
