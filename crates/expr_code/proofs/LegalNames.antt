-- What legality says of the names that code is made of: what stands behind a type, a function or an object, and in the parentheses there.
use Rattle.std.proofs.Common.{◌≡◌, ◌++◌, ℕ, List, [], Bool, true, false, not, Option, Some, None, refl, sym, ap, ◌∙◌, subst}
use Rattle.std.specs.Prelude.{⊤}
use Rattle.base.specs.declared.faults.TheConstants.{NAME_NOT_VISIBLE, NO_MEANING}
use Rattle.ada_tree.specs.declared.expression.Identifier.{Identifier}
use Rattle.ada_tree.specs.ExpressionTree as tree
use Rattle.ada_tree.specs.ExpressionTree.{ArgumentTrees, Arguments, Attribute, bare_name, Component, MoreSelectors, NoSelectors, SelectorTree, SelectorTrees}
use Rattle.types.specs.declared.entity.Role.{Role}
use Rattle.types.specs.declared.entity.Subtype.{Subtype}
use Rattle.types.specs.declared.standing.Callee.{Callee}
use Rattle.types.specs.declared.standing.Callee.TheVariants as callee
use Rattle.types.specs.declared.standing.Standing.{Standing}
use Rattle.types.specs.declared.standing.Standing.TheVariants as standing
use Rattle.types.specs.Entities.{Arrays, Constant, Doubtful, Entity, Entry, Exception, Integers, LibraryUnit, Literal, Object, OfSubtype, OfType, Predefined, Profile, Protected, Put, Subprogram, Task, TypeForm}
use Rattle.types.specs.Evaluating.{fixed_value}
use Rattle.types.specs.Scopes.{entity_at, form_at, is_visible, number_of, profile_of, Scope}
use Rattle.types.specs.Standings.{call_stands, callee_profile, conversion_stands, element_stands, is_single, result_stands, select, select_all, standing_of, stands_first, stands_for}
use Rattle.expr_soundness.specs.expr_rules.specs.declared.own.Wanted.TheVariants.{OfType}
use Rattle.expr_soundness.specs.expr_rules.specs.ExpressionRules.{arguments_faults, selector_faults, selectors_faults}
use Rattle.expr_soundness.specs.expr_rules.specs.Faults.{Faults, rule}
use Rattle.expr_soundness.specs.expr_rules.specs.NameRules.{is_doubtful, part_rule, value_rule}
use Rattle.expr_soundness.specs.expr_rules.proofs.TypedLaw.{back_empty, front_empty, unbroken}
use Rattle.expr_soundness.specs.SoundScopes.{AreIn, IsSoundEntry, IsSoundProfile, IsSoundResult, SoundScope}
use Rattle.expr_soundness.proofs.Denoting.{empty_ends, is_empty}
use Rattle.expr_soundness.proofs.Expressions.{not_false}
use Rattle.expr_soundness.proofs.Goods.{Good, GoodCallee, good_first, good_select, part_unbroken}
use Rattle.expr_soundness.proofs.Positions.{IsNamed, named}
use Rattle.expr_code.specs.Emitting.{IsLegalExpression}
use Rattle.expr_code.specs.Going.{IsLegalPart}
use Rattle.expr_code.specs.Providing.{FewFormals}
use Rattle.expr_code.specs.Seeing.{NamesProfile, operation_named, operation_of, profile_named, subprogram_profile}
use Rattle.expr_code.proofs.Attributes.{components_only}
use Rattle.expr_code.proofs.CoveredNames.{procedure_not}
use Rattle.expr_code.proofs.PeakSlots.{IsPath, value_path}

-- ---- lists of one

-- actual parameters, an index or an operand, and nothing more
abbrev pub IsApplied : SelectorTrees → Type 0
IsApplied (MoreSelectors (Arguments a) NoSelectors) = ⊤
IsApplied all = ⊥

-- ---- legal names

module _ (s : Scope) (first : Identifier) (selectors : SelectorTrees) (legal : IsLegalExpression s (tree.Named first selectors)) where
  abbrev begins : Standing
  begins = stands_first s (number_of s first.name)

  abbrev hidden : Faults
  hidden = rule NAME_NOT_VISIBLE first.place (not (is_visible s first.name))

  abbrev behind : Faults
  behind = selectors_faults s first.place begins selectors

  two : hidden ++ behind ≡ []
  two = front_empty (hidden ++ behind) (value_rule first.place (standing_of s first selectors)) legal.unbroken

  -- the rules of its parts, and of the whole
  pub parts_unbroken : (w : Standing) → begins ≡ w → selectors_faults s first.place w selectors ≡ []
  parts_unbroken w is = subst (λ u. selectors_faults s first.place u selectors ≡ []) is (back_empty hidden behind two)

  pub end_unbroken : (w : Standing) → begins ≡ w → value_rule first.place (select_all s w selectors) ≡ []
  end_unbroken w is = subst (λ u. value_rule first.place (select_all s u selectors) ≡ []) is
      (back_empty (hidden ++ behind) (value_rule first.place (standing_of s first selectors)) legal.unbroken)

  visible_first : is_visible s first.name ≡ true
  visible_first = not_false (is_visible s first.name) (unbroken NAME_NOT_VISIBLE first.place (not (is_visible s first.name)) (front_empty hidden behind two))

  never_given : (n : ℕ) (e : Entity) (t : Subtype) → stands_for n (Some e) ≡ standing.Given t None → ⊥
  never_given n (OfType form u) t h = cc
  never_given n (OfSubtype u) t h = cc
  never_given n (Object r u) t h = cc
  never_given n (Constant u v) t h = cc
  never_given n (Literal b) t h = cc
  never_given n Exception t h = cc
  never_given n (Subprogram p) t h = cc
  never_given n (Entry p) t h = cc
  never_given n (Predefined o p) t h = cc
  never_given n Put t h = cc
  never_given n (Task priority) t h = cc
  never_given n (Protected o) t h = cc
  never_given n LibraryUnit t h = cc
  never_given n Doubtful t h = cc

  module _ (sound : SoundScope s) where
    good_begin : (w : Standing) → begins ≡ w → Good s w
    good_begin w is =
        let x = named s first.name visible_first in
        subst (Good s) (sym (ap (stands_first s) x.numbered ∙ ap (stands_for x.number) x.stands) ∙ is) (good_first s sound x.number x.entity x.stands)

    -- a name without a known value begins with an object, a type, a function or a protected object
    module _ (valueless : fixed_value (standing_of s first selectors) ≡ None) where
      nothing_else : (w : Standing) → begins ≡ w → is_empty s w ≡ true → ⊥
      nothing_else w is none =
          empty_ends s sound first.place selectors w none (good_begin w is) (parts_unbroken w is) (end_unbroken w is)
          (subst (λ u. fixed_value (select_all s u selectors) ≡ None) is valueless)

      not_given : (t : Subtype) → begins ≡ standing.Given t None → ⊥
      not_given t is =
          let x = named s first.name visible_first in
          never_given x.number x.entity t (sym (ap (stands_first s) x.numbered ∙ ap (stands_for x.number) x.stands) ∙ is)

      pub begins_otherwise : (w : Standing) → begins ≡ w
          → ((r : Role) (t : Subtype) → w ≡ standing.Part r t → ⊥)
          → ((t : Subtype) → w ≡ standing.Named t → ⊥)
          → ((f : Callee) → w ≡ standing.Callee f → ⊥)
          → ((n : ℕ) → w ≡ standing.Protected n → ⊥)
          → ⊥
      begins_otherwise (standing.Part r t) is part type callee object = part r t refl
      begins_otherwise (standing.Named t) is part type callee object = type t refl
      begins_otherwise (standing.Callee f) is part type callee object = callee f refl
      begins_otherwise (standing.Protected n) is part type callee object = object n refl
      begins_otherwise (standing.Given t None) is part type callee object = not_given t is
      begins_otherwise (standing.Given t (Some x)) is part type callee object = nothing_else (standing.Given t (Some x)) is refl
      begins_otherwise (standing.Fixed t x) is part type callee object = nothing_else (standing.Fixed t x) is refl
      begins_otherwise (standing.Plain z) is part type callee object = nothing_else (standing.Plain z) is refl
      begins_otherwise standing.Put is part type callee object = nothing_else standing.Put is refl
      begins_otherwise standing.Statement is part type callee object = nothing_else standing.Statement is refl
      begins_otherwise standing.Task is part type callee object = nothing_else standing.Task is refl
      begins_otherwise standing.Other is part type callee object = nothing_else standing.Other is refl
      begins_otherwise standing.Doubtful is part type callee object = nothing_else standing.Doubtful is refl

module _ (s : Scope) (sound : SoundScope s) where
  -- nothing stands behind a value
  no_more : (place : ℕ) (t : Subtype) (rest : SelectorTrees) → selectors_faults s place (standing.Given t None) rest ≡ [] → rest ≡ NoSelectors
  no_more place t NoSelectors h = refl
  no_more place t (MoreSelectors x rest) h =
      absurd (good_select s sound place (standing.Given t None) x tt
      (part_unbroken s sound place (standing.Given t None) x (front_empty (selector_faults s place (standing.Given t None) x)
      (selectors_faults s place (select s (standing.Given t None) x) rest) h)))

  no_more_statement : (place : ℕ) (rest : SelectorTrees) → selectors_faults s place standing.Statement rest ≡ [] → rest ≡ NoSelectors
  no_more_statement place NoSelectors h = refl
  no_more_statement place (MoreSelectors x rest) h =
      absurd (good_select s sound place standing.Statement x tt
      (part_unbroken s sound place standing.Statement x (front_empty (selector_faults s place standing.Statement x)
      (selectors_faults s place (select s standing.Statement x) rest) h)))

  module _ (place : ℕ) (w : Standing) (x : SelectorTree) (rest : SelectorTrees) (h : selectors_faults s place w (MoreSelectors x rest) ≡ []) where
    part_here : part_rule s place w x ≡ []
    part_here = part_unbroken s sound place w x (front_empty (selector_faults s place w x) (selectors_faults s place (select s w x) rest) h)

    parts_later : selectors_faults s place (select s w x) rest ≡ []
    parts_later = back_empty (selector_faults s place w x) (selectors_faults s place (select s w x) rest) h

  -- ---- conversions

  converts_single : (t : Subtype) (o : Option TypeForm) (b : Bool) → is_doubtful (conversion_stands t o b) ≡ false → (o ≡ Some Integers) × (b ≡ true)
  converts_single t (Some Integers) true h = (refl, refl)
  converts_single t o b h = absurd cc

  module _ (place : ℕ) (t : Subtype) where
    converted_alone : (a : ArgumentTrees) (rest : SelectorTrees) → selectors_faults s place (standing.Named t) (MoreSelectors (Arguments a) rest) ≡ []
        → rest ≡ NoSelectors
    converted_alone a rest h =
        let two = converts_single t (form_at s t.type_number) (is_single a)
        (unbroken NO_MEANING place _ (part_here place (standing.Named t) (Arguments a) rest h)) in
        no_more place t rest
        (subst (λ w. selectors_faults s place w rest ≡ []) ((λ j. conversion_stands t (two.0 j) (two.1 j)))
        (parts_later place (standing.Named t) (Arguments a) rest h))

    -- a type's name without a known value has one operand behind it, and nothing more
    conversion_shape : (selectors : SelectorTrees) → Good s (standing.Named t) → selectors_faults s place (standing.Named t) selectors ≡ []
        → value_rule place (select_all s (standing.Named t) selectors) ≡ [] → fixed_value (select_all s (standing.Named t) selectors) ≡ None
        → IsApplied selectors
    conversion_shape NoSelectors good h e none = cc
    conversion_shape (MoreSelectors (Component name) rest) good h e none =
        absurd (let k = part_here place (standing.Named t) (Component name) rest h in cc)
    conversion_shape (MoreSelectors (Attribute name) rest) good h e none =
        absurd (let k = components_only s sound place (standing.Named t) (MoreSelectors (Attribute name) rest) good h none in cc)
    conversion_shape (MoreSelectors (Arguments a) rest) good h e none =
        subst (λ x. IsApplied (MoreSelectors (Arguments a) x)) (sym (converted_alone a rest h)) tt

  -- ---- calls

  module _ (place : ℕ) (f : Callee) (good : Good s (standing.Callee f)) where
    result_alone : (r : Option Subtype) (rest : SelectorTrees) → selectors_faults s place (result_stands r) rest ≡ [] → rest ≡ NoSelectors
    result_alone (Some t) rest h = no_more place t rest h
    result_alone None rest h = no_more_statement place rest h

    called_alone : (o : Option Profile) → callee_profile s f ≡ o → (rest : SelectorTrees) → selectors_faults s place (call_stands o) rest ≡ []
        → rest ≡ NoSelectors
    called_alone (Some p) is rest h = result_alone p.result rest h
    called_alone None is rest h = absurd (subst (GoodCallee s) is good)

    -- a function's name has its actual parameters behind it, where it has something
    call_shape : (x : SelectorTree) (rest : SelectorTrees) → selectors_faults s place (standing.Callee f) (MoreSelectors x rest) ≡ []
        → IsApplied (MoreSelectors x rest)
    call_shape (Component name) rest h = absurd (let k = part_here place (standing.Callee f) (Component name) rest h in cc)
    call_shape (Attribute name) rest h = absurd (let k = part_here place (standing.Callee f) (Attribute name) rest h in cc)
    call_shape (Arguments a) rest h =
        subst (λ x. IsApplied (MoreSelectors (Arguments a) x))
        (sym (called_alone (callee_profile s f) refl rest (parts_later place (standing.Callee f) (Arguments a) rest h))) tt

-- ---- whole names

module _ (s : Scope) (sound : SoundScope s) (first : Identifier) where
  pub called_applied : (f : Callee) → stands_first s (number_of s first.name) ≡ standing.Callee f → (selectors : SelectorTrees)
      → IsLegalExpression s (tree.Named first selectors) → bare_name (tree.Named first selectors) ≡ None
      → IsApplied selectors
  called_applied f stands NoSelectors legal parts = absurd cc
  called_applied f stands (MoreSelectors x rest) legal parts =
      call_shape s sound first.place f (good_begin s first (MoreSelectors x rest) legal sound (standing.Callee f) stands) x rest
      (parts_unbroken s first (MoreSelectors x rest) legal (standing.Callee f) stands)

  pub converted_applied : (t : Subtype) → stands_first s (number_of s first.name) ≡ standing.Named t → (selectors : SelectorTrees)
      → IsLegalExpression s (tree.Named first selectors) → fixed_value (standing_of s first selectors) ≡ None
      → IsApplied selectors
  converted_applied t stands selectors legal valueless =
      conversion_shape s sound first.place t selectors (good_begin s first selectors legal sound (standing.Named t) stands)
      (parts_unbroken s first selectors legal (standing.Named t) stands) (end_unbroken s first selectors legal (standing.Named t) stands)
      (subst (λ w. fixed_value (select_all s w selectors) ≡ None) stands valueless)

-- ---- functions

-- What stands there may be called: it is a function of the language, or of the program.
module _ (s : Scope) (sound : SoundScope s) (few : FewFormals s) (first : Identifier) (selectors : SelectorTrees) (f : Callee)
    (stands : stands_first s (number_of s first.name) ≡ standing.Callee f) (legal : IsLegalExpression s (tree.Named first selectors)) where
  abbrev it : IsNamed s first.name
  it = named s first.name (visible_first s first selectors legal)

  abbrev entity_stands : Entity → Standing
  entity_stands e = stands_for it.number (Some e)

  is_it : (e : Entity) → it.entity ≡ e → stands_first s (number_of s first.name) ≡ entity_stands e
  is_it e is = ap (stands_first s) it.numbered ∙ ap (stands_for it.number) (it.stands ∙ ap Some is)

  operation_is : (e : Entity) → it.entity ≡ e → operation_named s first.name ≡ operation_of (Some e)
  operation_is e is =
      ap (λ o. elim o [ None ↦ None | Some n ↦ operation_of (entity_at s n) ]) it.numbered ∙ ap operation_of (it.stands ∙ ap Some is)

  profile_is : (e : Entity) → it.entity ≡ e → profile_named s first.name ≡ subprogram_profile (Some e)
  profile_is e is =
      ap (λ o. elim o [ None ↦ None | Some n ↦ subprogram_profile (entity_at s n) ]) it.numbered ∙ ap subprogram_profile (it.stands ∙ ap Some is)

  entry_not : (p : Profile) → it.entity ≡ Entry p → ⊥
  entry_not p is =
      let sounds : IsSoundEntry s p = sound.each it.number (Entry p) (it.stands ∙ ap Some is) in
      procedure_not s sound few first.place (callee.Direct it.number) p selectors (ap profile_of (it.stands ∙ ap Some is))
      (subst (λ u. IsPath s sound few first.place u selectors) (is_it (Entry p) is) (value_path s sound few first selectors legal)) sounds.none

  never_called : (e : Entity) → it.entity ≡ e → (entity_stands e ≡ standing.Callee f → ⊥) → ⊥
  never_called e is wrong = wrong (sym (is_it e is) ∙ stands)

  pub one_of_two : operation_named s first.name ≡ None → profile_named s first.name ≡ None → ⊥
  one_of_two no_operation no_profile = by_entity it.entity refl
    where
      by_entity : (e : Entity) → it.entity ≡ e → ⊥
      by_entity (Subprogram p) is = let never = sym (profile_is (Subprogram p) is) ∙ no_profile in cc
      by_entity (Predefined o p) is = let never = sym (operation_is (Predefined o p) is) ∙ no_operation in cc
      by_entity (Entry p) is = entry_not p is
      by_entity (OfType form u) is = never_called (OfType form u) is (λ h. cc)
      by_entity (OfSubtype u) is = never_called (OfSubtype u) is (λ h. cc)
      by_entity (Object r u) is = never_called (Object r u) is (λ h. cc)
      by_entity (Constant u v) is = never_called (Constant u v) is (λ h. cc)
      by_entity (Literal b) is = never_called (Literal b) is (λ h. cc)
      by_entity Exception is = never_called Exception is (λ h. cc)
      by_entity Put is = never_called Put is (λ h. cc)
      by_entity (Task priority) is = never_called (Task priority) is (λ h. cc)
      by_entity (Protected o) is = never_called (Protected o) is (λ h. cc)
      by_entity LibraryUnit is = never_called LibraryUnit is (λ h. cc)
      by_entity Doubtful is = never_called Doubtful is (λ h. cc)

-- a function's formals are all of mode `in`
pub ins : (s : Scope) (sound : SoundScope s) (name : List ℕ) (profile : Profile) → NamesProfile s name profile → (t : Subtype) → profile.result ≡ Some t
    → AreIn profile.formals
ins s sound name profile names t is =
    let x : IsSoundProfile s profile = sound.each names.number (Subprogram profile) names.stands in
    let r : IsSoundResult s profile.formals (Some t) = subst (IsSoundResult s profile.formals) is x.result in
    r.1

-- ---- parts

module _ (s : Scope) (t : Subtype) where
  arrays : (r : Role) (o : Option TypeForm) (b : Bool) → is_doubtful (element_stands r o b) ≡ false
      → (index : Subtype) × (many : ℕ) × (element : Subtype) × (o ≡ Some (Arrays index many element)) × (b ≡ true)
  arrays r (Some (Arrays index many element)) true h = (index, many, element, refl, refl)
  arrays r o b h = absurd cc

  pub array_tree : (a : ArgumentTrees) → IsLegalPart s t (Arguments a)
      → (index : Subtype) × (many : ℕ) × (element : Subtype) × (form_at s t.type_number ≡ Some (Arrays index many element)) × (is_single a ≡ true)
  array_tree a h =
      arrays h.role (form_at s t.type_number) (is_single a)
      (unbroken NO_MEANING h.place _ (front_empty (part_rule s h.place (standing.Part h.role t) (Arguments a))
      (arguments_faults s (standing.Part h.role t) 0 a) h.unbroken))
