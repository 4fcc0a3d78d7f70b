-- A legal name whose value has more than one word is that of a variable, or of a part of one, whose words have a place.
use Rattle.std.proofs.Common.{◌≡◌, ◌≤◌, ◌⊎◌, inl, inr, ℕ, [], List, Bool, true, false, Option, Some, None, refl, sym, ap, ◌∙◌, subst, arith}
use Rattle.std.specs.Prelude.{bytes_eq, codes, cond, is_some, nat_eq}
use Rattle.std.proofs.lemmas.Bool.{and_parts}
use Rattle.ada_tree.specs.declared.expression.Identifier.{Identifier}
use Rattle.ada_tree.specs.ExpressionTree.{Arguments, Attribute, Component, MoreSelectors, NoSelectors, SelectorTrees}
use Rattle.ada_tree.specs.ExpressionTree as tree
use Rattle.types.specs.declared.entity.PredefinedOperation.{PredefinedOperation}
use Rattle.types.specs.declared.entity.Role.{Role}
use Rattle.types.specs.declared.entity.Role.TheVariants as role
use Rattle.types.specs.declared.entity.Subtype.{Subtype}
use Rattle.types.specs.declared.entity.Value.{Value as Scalar}
use Rattle.types.specs.declared.standing.Callee.{Callee}
use Rattle.types.specs.declared.standing.Callee.TheVariants as callee
use Rattle.types.specs.declared.standing.Standing.{Standing}
use Rattle.types.specs.declared.standing.Standing.TheVariants as standing
use Rattle.types.specs.Entities.{Arrays, Constant, Doubtful, Entity, Entry, Exception, Integers, LibraryUnit, Literal, Object, OfSubtype, OfType, Predefined, Profile, Protected, Put, Records, Subprogram, Task, TypeForm}
use Rattle.types.specs.Evaluating.{fixed_value}
use Rattle.types.specs.Layouts.{words_of}
use Rattle.types.specs.Scopes.{Scope, form_at, profile_of}
use Rattle.types.specs.Standings.{array_attribute, bounds_stand, call_stands, callee_profile, component_of, component_stands, conversion_stands, element_stands, is_single, object_attribute, part_of, result_stands, select, select_all, standing_of, stands_first, stands_for, subtype_attribute}
use Rattle.expr_soundness.specs.expr_rules.specs.ExpressionRules.{selector_faults, selectors_faults}
use Rattle.expr_soundness.specs.expr_rules.specs.Typing.{is_integers, own_of_standing}
use Rattle.expr_soundness.specs.expr_rules.specs.declared.own.Own.TheVariants.{Typed}
use Rattle.expr_soundness.specs.expr_rules.proofs.TypedLaw.{front_empty, same_number, unbroken}
use Rattle.expr_soundness.specs.SoundScopes.{IsSoundConstant, IsSoundEntry, IsSoundPredefined, SoundScope}
use Rattle.expr_soundness.proofs.Goods.{no_constant_parts, no_integer_parts, part_unbroken}
use Rattle.expr_soundness.proofs.Positions.{IsNamed, named}
use Rattle.expr_code.specs.Emitting.{IsLegalExpression}
use Rattle.expr_code.specs.Providing.{HasWhatExpressionsNeed}
use Rattle.expr_code.specs.Providing as providing
use Rattle.expr_code.specs.Seeing.{NamesProfile, external_of, external_profile, slot_of, subprogram_of}
use Rattle.expr_code.specs.Widths.{own_words, width_of}
use Rattle.expr_code.specs.declared.visible.Slot.{Slot}
use Rattle.expr_code.specs.declared.visible.Visible.{Visible}
use Rattle.expr_code.proofs.Language.{gives_number}
use Rattle.expr_code.proofs.Widths.{fixed_width, integral_one, numeric_one, words_by_type}
use Rattle.part_code.specs.Moving.{source_at, source_by, variable_at}
use Rattle.part_code.proofs.CoveredObjects.{value_name}
use Rattle.expr_code.proofs.NamedBehind.{behind_begins, behind_profile, behind_stands, named_behind}
use Rattle.expr_code.proofs.CoveredNames.{MayCall, behind_called, name_visible, named_called, procedure_not}
use Rattle.expr_code.proofs.PeakSlots.{IsPath, begins, value_path}
use Rattle.expr_code.proofs.ThroughObjects.{told_behind}
use Rattle.program_soundness.specs.step_soundness.proofs.Sights.{is_there}

-- ---- slots

sourced : (r : Role) (t : Subtype) (x : Slot) → (r ≡ role.LoopParameter → ⊥) → is_some (variable_at (standing.Part r t) (Some x)) ≡ true
sourced role.LoopParameter t x other = absurd (other refl)
sourced r t x other = refl

-- ---- standings of one word

module _ (s : Scope) where
  -- its value is known, or it has one word
  abbrev IsThin : Standing → Type 0
  IsThin w = fixed_value w ≡ None → own_words s (own_of_standing w) ≡ 1

  -- ... whatever stands behind it
  abbrev IsClosed : Standing → Type 0
  IsClosed w = (rest : SelectorTrees) → IsThin (select_all s w rest)

  doubtful_closed : IsClosed standing.Doubtful
  doubtful_closed NoSelectors none = refl
  doubtful_closed (MoreSelectors x rest) none = doubtful_closed rest none

  given_closed : (t : Subtype) (v : Option Scalar) → IsThin (standing.Given t v) → IsClosed (standing.Given t v)
  given_closed t v thin NoSelectors none = thin none
  given_closed t v thin (MoreSelectors x rest) none = doubtful_closed rest none

  known_closed : (t : Subtype) (v : Scalar) → IsClosed (standing.Given t (Some v))
  known_closed t v = given_closed t (Some v) (λ none. absurd cc)

  plain_closed : (z : _) → IsClosed (standing.Plain z)
  plain_closed z NoSelectors none = refl
  plain_closed z (MoreSelectors x rest) none = doubtful_closed rest none

  statement_closed : IsClosed standing.Statement
  statement_closed NoSelectors none = refl
  statement_closed (MoreSelectors x rest) none = doubtful_closed rest none

  other_closed : IsClosed standing.Other
  other_closed NoSelectors none = refl
  other_closed (MoreSelectors x rest) none = doubtful_closed rest none

  task_closed : IsClosed standing.Task
  task_closed NoSelectors none = refl
  task_closed (MoreSelectors x rest) none = doubtful_closed rest none

  chosen_closed : (b : Bool) (w u : Standing) → IsClosed w → IsClosed u → IsClosed (cond b w u)
  chosen_closed true w u h k = h
  chosen_closed false w u h k = k

  bounds_closed : (t : Subtype) (name : List ℕ) → IsClosed (bounds_stand t name)
  bounds_closed t name =
      chosen_closed (bytes_eq name (codes "FIRST")) _ _ (known_closed _ _) (chosen_closed (bytes_eq name (codes "LAST")) _ _ (known_closed _ _) doubtful_closed)

  array_closed : (index : Subtype) (many : ℕ) (name : List ℕ) → IsClosed (array_attribute index many name)
  array_closed index many name = chosen_closed (bytes_eq name (codes "LENGTH")) _ _ (plain_closed _) (bounds_closed index name)

  object_closed : (o : Option TypeForm) (name : List ℕ) → IsClosed (object_attribute o name)
  object_closed (Some (Arrays index many element)) name = array_closed index many name
  object_closed o name = doubtful_closed

  subtype_closed : (t : Subtype) (o : Option TypeForm) (name : List ℕ) → IsClosed (subtype_attribute t o name)
  subtype_closed t (Some Integers) name = bounds_closed t name
  subtype_closed t (Some (Arrays index many element)) name = array_closed index many name
  subtype_closed t o name = doubtful_closed

  conversion_closed : (t : Subtype) (o : Option TypeForm) (b : Bool) → form_at s t.type_number ≡ o → IsClosed (conversion_stands t o b)
  conversion_closed t (Some Integers) true is = given_closed t None (λ none. integral_one s (Typed t.type_number) (ap is_integers is))
  conversion_closed t o b is = doubtful_closed

  type_closed : (t : Subtype) → IsClosed (standing.Named t)
  type_closed t NoSelectors none = refl
  type_closed t (MoreSelectors (Arguments a) rest) none = conversion_closed t (form_at s t.type_number) (is_single a) refl rest none
  type_closed t (MoreSelectors (Attribute name) rest) none = subtype_closed t (form_at s t.type_number) name.name rest none
  type_closed t (MoreSelectors (Component name) rest) none = doubtful_closed rest none

  -- a function whose result has one word
  result_thin : (r : Option Subtype) → providing.is_single s r ≡ true → IsThin (result_stands r)
  result_thin (Some t) h none = words_by_type s t ∙ same_number (words_of s t) 1 h
  result_thin None h none = refl

  result_closed : (r : Option Subtype) → providing.is_single s r ≡ true → IsClosed (result_stands r)
  result_closed (Some t) h = given_closed t None (result_thin (Some t) h)
  result_closed None h = statement_closed

  call_closed : (o : Option Profile) (p : Profile) → o ≡ Some p → providing.is_single s p.result ≡ true → IsClosed (call_stands o)
  call_closed o p is h = subst (λ x. IsClosed (call_stands x)) (sym is) (result_closed p.result h)

  callee_closed : (f : Callee) (p : Profile) → callee_profile s f ≡ Some p → providing.is_single s p.result ≡ true → IsClosed (standing.Callee f)
  callee_closed f p is h NoSelectors none = subst (λ o. IsThin (call_stands o)) (sym is) (result_thin p.result h) none
  callee_closed f p is h (MoreSelectors (Arguments a) rest) none = call_closed (callee_profile s f) p is h rest none
  callee_closed f p is h (MoreSelectors (Component name) rest) none = doubtful_closed rest none
  callee_closed f p is h (MoreSelectors (Attribute name) rest) none = doubtful_closed rest none

  -- what a name stands for that begins with a protected object and its function
  behind_closed : (object operation : Identifier) (p : Profile) → external_profile s object.name operation.name ≡ Some p
      → providing.is_single s p.result ≡ true
      → (rest : SelectorTrees) → IsThin (standing_of s object (MoreSelectors (Component operation) rest))
  behind_closed object operation p told single rest =
      subst IsThin
      (sym (ap (λ w. select_all s w (MoreSelectors (Component operation) rest)) (behind_begins s object operation p told)
      ∙ ap (λ w. select_all s w rest) (behind_stands s object operation p told)))
      (callee_closed (named_behind s object operation p told) p (behind_profile s object operation p told) single rest)

  put_closed : IsClosed standing.Put
  put_closed NoSelectors none = refl
  put_closed (MoreSelectors (Arguments a) rest) none = statement_closed rest none
  put_closed (MoreSelectors (Component name) rest) none = doubtful_closed rest none
  put_closed (MoreSelectors (Attribute name) rest) none = doubtful_closed rest none

  -- ---- parts of objects

  abbrev IsPart : Standing → Type 0
  IsPart w = (r : Role) × (t : Subtype) × (w ≡ standing.Part r t)

  -- an object or a part of one, or what has one word
  abbrev PartOrThin : Standing → Type 0
  PartOrThin w = IsPart w ⊎ IsThin w

  component_ends : (r : Role) (o : Option Subtype) (rest : SelectorTrees) → ((u : Subtype) → PartOrThin (select_all s (standing.Part r u) rest))
      → PartOrThin (select_all s (part_of r o) rest)
  component_ends r (Some u) rest later = later u
  component_ends r None rest later = inr (doubtful_closed rest)

  record_ends : (r : Role) (o : Option TypeForm) (name : List ℕ) (rest : SelectorTrees) → ((u : Subtype) → PartOrThin (select_all s (standing.Part r u) rest))
      → PartOrThin (select_all s (component_stands r o name) rest)
  record_ends r (Some (Records cs)) name rest later = component_ends r (component_of cs name) rest later
  record_ends r o name rest later = inr (doubtful_closed rest)

  element_ends : (r : Role) (o : Option TypeForm) (b : Bool) (rest : SelectorTrees) → ((u : Subtype) → PartOrThin (select_all s (standing.Part r u) rest))
      → PartOrThin (select_all s (element_stands r o b) rest)
  element_ends r (Some (Arrays index many element)) true rest later = later element
  element_ends r o b rest later = inr (doubtful_closed rest)

  object_ends : (selectors : SelectorTrees) (r : Role) (t : Subtype) → PartOrThin (select_all s (standing.Part r t) selectors)
  object_ends NoSelectors r t = inl (r, t, refl)
  object_ends (MoreSelectors (Component name) rest) r t = record_ends r (form_at s t.type_number) name.name rest (λ u. object_ends rest r u)
  object_ends (MoreSelectors (Arguments a) rest) r t = element_ends r (form_at s t.type_number) (is_single a) rest (λ u. object_ends rest r u)
  object_ends (MoreSelectors (Attribute name) rest) r t = inr (object_closed (form_at s t.type_number) name.name rest)

-- ---- names

module _ (v : Visible) (sound : SoundScope v.scope) (cover : HasWhatExpressionsNeed v) (first : Identifier) (selectors : SelectorTrees)
    (legal : IsLegalExpression v.scope (tree.Named first selectors)) (wide : 2 ≤ width_of v.scope (tree.Named first selectors)) where
  abbrev s : Scope
  s = v.scope

  abbrev whole : Standing
  whole = standing_of s first selectors

  abbrev start : Standing
  start = begins s sound cover.formals first selectors

  path : IsPath s sound cover.formals first.place start selectors
  path = value_path s sound cover.formals first selectors legal

  -- a name with a known value has one word
  thin_not : IsThin s whole → fixed_value whole ≡ None → ⊥
  thin_not thin none = let one = thin none in omega (arith, wide, one)

  module _ (none : fixed_value whole ≡ None) where
    closed_not : (w : Standing) → start ≡ w → IsClosed s w → ⊥
    closed_not w is closed = thin_not (subst (λ u. IsThin s (select_all s u selectors)) (sym is) (closed selectors)) none

    no_loop : (t : Subtype) → start ≡ standing.Part role.LoopParameter t → is_integers (form_at s t.type_number) ≡ true → ⊥
    no_loop t is integers = by_selectors selectors refl
      where
        by_selectors : (all : SelectorTrees) → selectors ≡ all → ⊥
        by_selectors NoSelectors same =
            let one : width_of s (tree.Named first selectors) ≡ 1 = ap (λ all. own_words s (own_of_standing (select_all s start all))) same
            ∙ ap (λ u. own_words s (own_of_standing (select_all s u NoSelectors))) is ∙ integral_one s (Typed t.type_number) integers in
            omega (arith, wide, one)
        by_selectors (MoreSelectors x rest) same =
            let h = subst (λ u. selectors_faults s first.place u (MoreSelectors x rest) ≡ []) is
            (subst (λ all. selectors_faults s first.place start all ≡ []) same path.unbroken) in
            no_integer_parts s sound first.place role.LoopParameter t x integers
            (part_unbroken s sound first.place (standing.Part role.LoopParameter t) x
            (front_empty (selector_faults s first.place (standing.Part role.LoopParameter t) x)
            (selectors_faults s first.place (select s (standing.Part role.LoopParameter t) x) rest) h))

    no_constant : (t : Subtype) (c : Option Scalar) → start ≡ standing.Fixed t c → IsSoundConstant s t c → ⊥
    no_constant t c is known = by_selectors selectors refl
      where
        by_selectors : (all : SelectorTrees) → selectors ≡ all → ⊥
        by_selectors NoSelectors same =
            let fixed : fixed_value whole ≡ Some known.value = ap (λ all. fixed_value (select_all s start all)) same
            ∙ ap (λ u. fixed_value (select_all s u NoSelectors)) is ∙ known.given in
            (let never : None ≡ Some known.value = sym none ∙ fixed in cc)
        by_selectors (MoreSelectors x rest) same =
            let h = subst (λ u. selectors_faults s first.place u (MoreSelectors x rest) ≡ []) is
            (subst (λ all. selectors_faults s first.place start all ≡ []) same path.unbroken) in
            no_constant_parts s sound first.place t c x known
            (part_unbroken s sound first.place (standing.Fixed t c) x
            (front_empty (selector_faults s first.place (standing.Fixed t c) x) (selectors_faults s first.place (select s (standing.Fixed t c) x) rest) h))

    -- what code may call has a result of one word
    called_single : (number : Option ℕ) (p : Profile) → MayCall s number p → providing.is_single s p.result ≡ true
    called_single number p may = (and_parts (is_some number) (providing.is_single s p.result) may.called).1

    -- so has what is named behind a protected object
    external_not : (n : ℕ) → start ≡ standing.Protected n → ⊥
    external_not n is =
        let x = told_behind s sound first selectors legal n is in
        let behind = subst (λ all. IsLegalExpression s (tree.Named first all)) x.is legal in
        thin_not
        (subst (λ all. IsThin s (standing_of s first all)) (sym x.is)
        (behind_closed s first x.operation x.profile x.told
        (called_single (external_of v first.name x.operation.name) x.profile (behind_called v sound cover first x.operation x.rest x.profile x.told behind))
        x.rest)) none

    -- a function of the language gives a number
    language_single : (o : PredefinedOperation) (p : Profile) → IsSoundPredefined s o p → providing.is_single s p.result ≡ true
    language_single o p h =
        let gives = gives_number s o p h in
        ap (providing.is_single s) gives.result
        ∙ ap (λ n. nat_eq n 1) (sym (words_by_type s gives.subtype) ∙ numeric_one s (Typed gives.subtype.type_number) gives.numbers)

    module _ (x : IsNamed s first.name) where
      begins_is : (e : Entity) → x.entity ≡ e → start ≡ stands_for x.number (Some e)
      begins_is e is = ap (stands_first s) x.numbered ∙ ap (stands_for x.number) (x.stands ∙ ap Some is)

      profile_told_is : (e : Entity) (p : Profile) → x.entity ≡ e → profile_of (Some e) ≡ Some p → callee_profile s (callee.Direct x.number) ≡ Some p
      profile_told_is e p is told = ap profile_of (x.stands ∙ ap Some is) ∙ told

      -- ... a variable whose words have a place
      object_there : (r : Role) (t : Subtype) → x.entity ≡ Object r t → (r ≡ role.LoopParameter → ⊥)
          → is_some (source_at v (record { first = first; selectors = selectors })) ≡ true
      object_there r t is other =
          let from = begins_is (Object r t) is in
          let slot = is_there (slot_of v first.name) (cover.stored first.name r t from) in
          let first_source : is_some (variable_at start (slot_of v first.name)) ≡ true =
          (λ j. is_some (variable_at (from j) (slot.1 j))) ∙ sourced r t slot.0 other in
          elim (object_ends s selectors r t) [
            | inl part ↦ ap (λ w. is_some (source_by w (variable_at start (slot_of v first.name))))
                (ap (λ u. select_all s u selectors) from ∙ part.2) ∙ first_source
            | inr thin ↦ absurd (thin_not (subst (λ u. IsThin s (select_all s u selectors)) (sym from) thin) none)
          ]

      by_role : (r : Role) (t : Subtype) → x.entity ≡ Object r t → is_some (source_at v (record { first = first; selectors = selectors })) ≡ true
      by_role role.LoopParameter t is =
          absurd (no_loop t (begins_is (Object role.LoopParameter t) is) (sound.each x.number (Object role.LoopParameter t) (x.stands ∙ ap Some is)))
      by_role r t is = object_there r t is (λ same. absurd cc)

      subprogram_not : (p : Profile) → x.entity ≡ Subprogram p → ⊥
      subprogram_not p is =
          let named_there : NamesProfile s first.name p = record { number = x.number; numbered = x.numbered; stands = x.stands ∙ ap Some is } in
          closed_not (standing.Callee (callee.Direct x.number)) (begins_is (Subprogram p) is)
          (callee_closed s (callee.Direct x.number) p (profile_told_is (Subprogram p) p is refl)
          (called_single (subprogram_of v first.name) p (named_called v sound cover first selectors p named_there legal)))

      -- an entry's call is no value
      entry_not : (p : Profile) → x.entity ≡ Entry p → ⊥
      entry_not p is =
          let sounds : IsSoundEntry s p = sound.each x.number (Entry p) (x.stands ∙ ap Some is) in
          procedure_not s sound cover.formals first.place (callee.Direct x.number) p selectors (profile_told_is (Entry p) p is refl)
          (subst (λ u. IsPath s sound cover.formals first.place u selectors) (begins_is (Entry p) is) path) sounds.none

      by_entity : (e : Entity) → x.entity ≡ e → is_some (source_at v (record { first = first; selectors = selectors })) ≡ true
      by_entity (Object r t) is = by_role r t is
      by_entity (OfType form t) is = absurd (closed_not (standing.Named t) (begins_is (OfType form t) is) (type_closed s t))
      by_entity (OfSubtype t) is = absurd (closed_not (standing.Named t) (begins_is (OfSubtype t) is) (type_closed s t))
      by_entity (Constant t c) is = absurd (no_constant t c (begins_is (Constant t c) is) (sound.each x.number (Constant t c) (x.stands ∙ ap Some is)))
      by_entity (Literal b) is = absurd (closed_not (stands_for x.number (Some (Literal b))) (begins_is (Literal b) is) (known_closed s _ _))
      by_entity Exception is = absurd (closed_not standing.Other (begins_is Exception is) (other_closed s))
      by_entity (Subprogram p) is = absurd (subprogram_not p is)
      by_entity (Entry p) is = absurd (entry_not p is)
      by_entity (Predefined o p) is =
          absurd (closed_not (standing.Callee (callee.Direct x.number)) (begins_is (Predefined o p) is)
          (callee_closed s (callee.Direct x.number) p (profile_told_is (Predefined o p) p is refl)
          (language_single o p (sound.each x.number (Predefined o p) (x.stands ∙ ap Some is)))))
      by_entity Put is = absurd (closed_not standing.Put (begins_is Put is) (put_closed s))
      by_entity (Task priority) is = absurd (closed_not standing.Task (begins_is (Task priority) is) (task_closed s))
      by_entity (Protected o) is = absurd (external_not x.number (begins_is (Protected o) is))
      by_entity LibraryUnit is = absurd (closed_not standing.Other (begins_is LibraryUnit is) (other_closed s))
      by_entity Doubtful is = absurd (sound.each x.number Doubtful (x.stands ∙ ap Some is))

  pub named_source : is_some (source_at v (record { first = first; selectors = selectors })) ≡ true
  named_source = by_value (fixed_value whole) refl
    where
      by_value : (o : Option Scalar) → fixed_value whole ≡ o → is_some (source_at v (record { first = first; selectors = selectors })) ≡ true
      by_value None none = let x = named s first.name (name_visible s first selectors (value_name s first selectors legal)) in by_entity none x x.entity refl
      by_value (Some c) fixed = absurd (let one = fixed_width s sound first selectors c legal fixed in omega (arith, wide, one))
