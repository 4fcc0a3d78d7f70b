-- An array or a record of many words is moved where it is assigned, and does not stand on the operand stack.
use Rattle.std.proofs.Common.{◌≡◌, ◌≤◌, ◌++◌, ℕ, suc, [], List, Bool, true, false, ◌&&◌, Option, Some, None, refl, sym, ap, ◌∙◌, subst, arith, is_some}
use Rattle.std.specs.Prelude.{cond, nat_le}
use Rattle.std.proofs.lemmas.Bool.{and_from}
use Rattle.base.specs.declared.faults.TheConstants.{NO_MEANING}
use Rattle.ada_tree.specs.ExpressionTree.{Arguments, Attribute, Component, Conditional, ElsifValueTrees, ExprTree, MoreElsifValues, MoreSelectors, Named, NameTree, NoElsifValues, NoSelectors, SelectorTree, SelectorTrees}
use Rattle.ada_tree.specs.ExpressionTree as tree
use Rattle.types.specs.declared.entity.Role.{Role}
use Rattle.types.specs.declared.entity.Subtype.{Subtype}
use Rattle.types.specs.declared.standing.Standing.{Standing}
use Rattle.types.specs.declared.standing.Standing.TheVariants as standing
use Rattle.types.specs.Entities.{Arrays, Booleans, Integers, Records, Spans, Times, TypeForm}
use Rattle.types.specs.Layouts.{words_of}
use Rattle.types.specs.Scopes.{Scope, form_at}
use Rattle.types.specs.Standings.{element_stands, is_single, object_attribute, select, select_all, standing_of}
use Rattle.expr_soundness.specs.expr_rules.specs.declared.own.Own.TheVariants.{Typed}
use Rattle.expr_soundness.specs.expr_rules.specs.declared.own.Wanted.{Wanted}
use Rattle.expr_soundness.specs.expr_rules.specs.declared.own.Wanted.TheVariants.{Anything, OfType}
use Rattle.expr_soundness.specs.expr_rules.specs.ExpressionRules.{elsif_faults, faults_of, name_faults, selector_faults, selectors_faults, target_faults}
use Rattle.expr_soundness.specs.expr_rules.specs.NameRules.{component_rule, is_doubtful, part_rule, variable_rule}
use Rattle.expr_soundness.specs.expr_rules.specs.Typing.{boolean_wanted, is_booleans, own_of_standing, typed_wanted}
use Rattle.expr_soundness.specs.expr_rules.proofs.TypedLaw.{back_empty, front_empty, unbroken}
use Rattle.program_soundness.specs.stmt_rules.specs.SimpleRules.{assigned_wanted, assignment_faults}
use Rattle.expr_soundness.specs.SoundScopes.{IsKnown, SoundScope}
use Rattle.expr_soundness.proofs.Goods.{part_unbroken}
use Rattle.expr_code.specs.Emitting.{IsLegalExpression, has_numbers, is_composite}
use Rattle.expr_code.specs.Providing.{HasWhatExpressionsNeed}
use Rattle.expr_code.specs.Widths.{AreWide, width_of}
use Rattle.expr_code.specs.declared.visible.Visible.{Visible}
use Rattle.expr_code.proofs.Fitting.{composite_width}
use Rattle.expr_code.proofs.Widths.{binary_width, boolean_one, numeric_one, unary_width, words_by_type}
use Rattle.part_code.specs.Moving.{are_moved, is_moved, moves, names_composite}
use Rattle.part_code.specs.Needs.{is_object, words_at}
use Rattle.expr_code.proofs.PeakSlots.{begins}
use Rattle.part_code.proofs.CoveredObjects.{IsObjectAt, IsTarget, name_target, object_first, slot_held, target_object}
use Rattle.source_laws.proofs.NeedsNames.{named_source}
use Rattle.source_laws.proofs.Peaks.{conditional_parts, inside_legal, legal_of, listed}

at_most : (a b : ℕ) → nat_le a b ≡ true → a ≤ b
at_most a b h = grind (arith, h)

above : (a b : ℕ) → nat_le a b ≡ false → suc b ≤ a
above a b h = grind (arith, h)

module _ (v : Visible) (sound : SoundScope v.scope) (cover : HasWhatExpressionsNeed v) where
  abbrev s : Scope
  s = v.scope

  -- ---- values

  mutual
    -- each value that may be chosen is that of a variable, or of a part of one
    wide_moved : (e : ExprTree) → IsLegalExpression s e → 2 ≤ width_of s e → is_moved v e ≡ true
    wide_moved (tree.Number z place) legal wide = absurd (omega (arith, wide))
    wide_moved (Named first selectors) legal wide = named_source v sound cover first selectors legal wide
    wide_moved (tree.Parenthesized place e) legal wide = wide_moved e (inside_legal s sound place e legal) wide
    wide_moved (tree.Unary o place e) legal wide = absurd (let one = (unary_width s sound o place e legal).right in omega (arith, wide, one))
    wide_moved (tree.Binary o a b) legal wide = absurd (let one = (binary_width s sound o a b legal).both in omega (arith, wide, one))
    wide_moved (Conditional place condition value elsifs last) legal wide =
        let parts = conditional_parts s sound place condition value elsifs last legal in
        let same = parts.value_wide in
        let last_same = parts.last_wide in
        and_from (is_moved v value) (are_moved v elsifs && is_moved v last) (wide_moved value parts.value_legal (omega (arith, wide, same)))
        (and_from (are_moved v elsifs) (is_moved v last)
        (wides_moved parts.wanted (width_of s value) elsifs parts.others parts.others_wide (omega (arith, wide, same)))
        (wide_moved last parts.last_legal (omega (arith, wide, last_same))))

    wides_moved : (w : Wanted) (n : ℕ) (elsifs : ElsifValueTrees) → elsif_faults s w elsifs ≡ [] → AreWide s n (listed elsifs) → 2 ≤ n
        → are_moved v elsifs ≡ true
    wides_moved w n NoElsifValues h are wide = refl
    wides_moved w n (MoreElsifValues condition value rest) h are wide =
        let c = faults_of s boolean_wanted condition in
        let f = faults_of s w value in
        let m = elsif_faults s w rest in
        let two = front_empty (c ++ f) m h in
        let same = are.1 in
        and_from (is_moved v value) (are_moved v rest)
        (wide_moved value (legal_of s sound w value (back_empty c f two)) (omega (arith, wide, same)))
        (wides_moved w n rest (back_empty (c ++ f) m h) are.2 wide)

  -- ---- targets

  no_number : (t : Subtype) → has_numbers (form_at s t.type_number) ≡ true → 2 ≤ words_of s t → ⊥
  no_number t numbers wide =
      let one = numeric_one s (Typed t.type_number) numbers in
      let same = words_by_type s t in
      omega (arith, wide, one, same)

  by_form : (t : Subtype) (o : Option TypeForm) → form_at s t.type_number ≡ o → IsKnown s t → 2 ≤ words_of s t → is_composite o ≡ true
  by_form t (Some (Arrays index many element)) is known wide = refl
  by_form t (Some (Records components)) is known wide = refl
  by_form t (Some Integers) is known wide = absurd (no_number t (ap has_numbers is) wide)
  by_form t (Some Times) is known wide = absurd (no_number t (ap has_numbers is) wide)
  by_form t (Some Spans) is known wide = absurd (no_number t (ap has_numbers is) wide)
  by_form t (Some Booleans) is known wide =
      absurd (let one = boolean_one s (Typed t.type_number) (ap is_booleans is) in let same = words_by_type s t in omega (arith, wide, one, same))
  by_form t None is known wide = absurd (let never = sym known ∙ ap is_some is in cc)

  composite_component : (place : ℕ) (name : _) (o : Option TypeForm) → component_rule place name o ≡ [] → is_composite o ≡ true
  composite_component place name (Some (Records components)) h = refl
  composite_component place name (Some (Arrays index many element)) h = refl
  composite_component place name o h = cc

  composite_element : (r : Role) (o : Option TypeForm) (b : Bool) → is_doubtful (element_stands r o b) ≡ false → is_composite o ≡ true
  composite_element r (Some (Records components)) b h = refl
  composite_element r (Some (Arrays index many element)) b h = refl
  composite_element r o b h = cc

  composite_attribute : (o : Option TypeForm) (name : List ℕ) → is_doubtful (object_attribute o name) ≡ false → is_composite o ≡ true
  composite_attribute (Some (Records components)) name h = refl
  composite_attribute (Some (Arrays index many element)) name h = refl
  composite_attribute o name h = cc

  -- what has parts is an array or a record
  composite_with : (place : ℕ) (r : Role) (t : Subtype) (x : SelectorTree) → part_rule s place (standing.Part r t) x ≡ []
      → is_composite (form_at s t.type_number) ≡ true
  composite_with place r t (Component name) h = composite_component place name (form_at s t.type_number) h
  composite_with place r t (Arguments a) h = composite_element r (form_at s t.type_number) (is_single a) (unbroken NO_MEANING place _ h)
  composite_with place r t (Attribute name) h = composite_attribute (form_at s t.type_number) name.name (unbroken NO_MEANING place _ h)

  abbrev standing_type : Standing → ℕ → ℕ
  standing_type (standing.Part r t) n = t.type_number
  standing_type w n = n

  -- an object that is one, or has parts
  first_composite : (place : ℕ) (r q : Role) (t u : Subtype) (all : SelectorTrees) → selectors_faults s place (standing.Part r t) all ≡ []
      → select_all s (standing.Part r t) all ≡ standing.Part q u → is_composite (form_at s u.type_number) ≡ true → is_composite (form_at s t.type_number) ≡ true
  first_composite place r q t u NoSelectors h is composite =
      subst (λ n. is_composite (form_at s n) ≡ true) (sym (ap (λ w. standing_type w 0) is)) composite
  first_composite place r q t u (MoreSelectors x rest) h is composite =
      composite_with place r t x (part_unbroken s sound place (standing.Part r t) x
      (front_empty (selector_faults s place (standing.Part r t) x) (selectors_faults s place (select s (standing.Part r t) x) rest) h))

  module _ (target : NameTree) (e : ExprTree) (h : assignment_faults s target e ≡ []) where
    abbrev start : Standing
    start = begins s sound cover.formals target.first target.selectors

    abbrev ends : Standing
    ends = standing_of s target.first target.selectors

    in_target : target_faults s target.first target.selectors ≡ []
    in_target = front_empty (target_faults s target.first target.selectors) (faults_of s (assigned_wanted s target) e) h

    in_name : name_faults s target.first target.selectors ≡ []
    in_name = front_empty (name_faults s target.first target.selectors) (variable_rule s target.first.place Anything ends) in_target

    -- it is an object, or a part of one
    pub target_part : IsTarget v sound cover ends
    target_part =
        name_target v sound cover target.first target.selectors Anything in_name
        (back_empty (name_faults s target.first target.selectors) (variable_rule s target.first.place Anything ends) in_target)

    is_part : is_object ends ≡ true
    is_part = target_object v sound cover ends target_part

    object : IsObjectAt start
    object = object_first v sound cover target.first target.selectors in_name is_part

    module _ (many : 2 ≤ words_at s ends) where
      part_many : 2 ≤ words_of s target_part.subtype
      part_many = subst (λ w. 2 ≤ words_at s w) target_part.is many

      part_composite : is_composite (form_at s target_part.subtype.type_number) ≡ true
      part_composite = by_form target_part.subtype (form_at s target_part.subtype.type_number) refl target_part.known part_many

      behind : selectors_faults s target.first.place (standing.Part object.role object.subtype) target.selectors ≡ []
      behind =
          subst (λ w. selectors_faults s target.first.place w target.selectors ≡ []) object.is
          (back_empty _ (selectors_faults s target.first.place start target.selectors) in_name)

      object_composite : is_composite (form_at s object.subtype.type_number) ≡ true
      object_composite =
          first_composite target.first.place object.role target_part.role object.subtype target_part.subtype target.selectors behind
          (ap (λ w. select_all s w target.selectors) (sym object.is) ∙ target_part.is) part_composite

      value_legal : faults_of s (OfType target_part.subtype.type_number) e ≡ []
      value_legal =
          subst (λ w. faults_of s (typed_wanted (own_of_standing w)) e ≡ []) target_part.is
          (back_empty (target_faults s target.first target.selectors) (faults_of s (assigned_wanted s target) e) h)

      value_words : width_of s e ≡ words_of s target_part.subtype
      value_words =
          composite_width s sound target_part.subtype e (record { wanted = OfType target_part.subtype.type_number; fits = refl; unbroken = value_legal })
          part_composite

      value_moved : is_moved v e ≡ true
      value_moved =
          wide_moved e (legal_of s sound (OfType target_part.subtype.type_number) e value_legal)
          (let many = part_many in let same = value_words in omega (arith, many, same))

      pub large_moved : moves v target e ≡ true
      large_moved =
          let first : names_composite s start ≡ true = ap (names_composite s) object.is ∙ object_composite in
          let last : names_composite s ends ≡ true = ap (names_composite s) target_part.is ∙ part_composite in
          let held = slot_held v sound cover target.first target.selectors in_name is_part in
          let value = value_moved in
          λ j. cond (first j && (last j && held j)) (value j) false

  -- what is not moved has few words
  pub few_stored : (target : NameTree) (e : ExprTree) → assignment_faults s target e ≡ [] → moves v target e ≡ false
      → words_at s (standing_of s target.first target.selectors) ≤ 64
  few_stored target e h not_moved = by_test (nat_le (words_at s (standing_of s target.first target.selectors)) 64) refl
    where
      by_test : (b : Bool) → nat_le (words_at s (standing_of s target.first target.selectors)) 64 ≡ b
          → words_at s (standing_of s target.first target.selectors) ≤ 64
      by_test true is = at_most _ 64 is
      by_test false is =
          absurd (let more = above _ 64 is in let moved = large_moved target e h (omega (arith, more)) in let never = sym moved ∙ not_moved in cc)
