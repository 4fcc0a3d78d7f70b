-- The code of each legal expression does what the expression means, wherever it stands.
use Rattle.std.proofs.Common.{◌≡◌, ◌≤◌, ℕ, suc, ◌+◌, [], Bool, true, false, Option, None, Some, refl, rules, sym, ap, subst, arith, inl, inr}
use Rattle.std.specs.Prelude.{is_some, nat_eq, pos, ◌⊎◌}
use Rattle.base.specs.declared.faults.TheConstants.{NO_MEANING}
use Rattle.base.specs.declared.limits.TheConstants.{FRAME_WORDS}
use Rattle.kernel.specs.Laws.{QuietStays}
use Rattle.ada_tree.specs.declared.expression.Identifier.{Identifier}
use Rattle.ada_tree.specs.ExpressionTree as tree
use Rattle.ada_tree.specs.ExpressionTree.{ArgumentTrees, Arguments, Attribute, Component, ExprTree, MoreArguments, MoreSelectors, NoArguments, NoSelectors, SelectorTree, SelectorTrees}
use Rattle.image.specs.declared.instruction.Operation.TheVariants as op
use Rattle.types.specs.declared.entity.PredefinedOperation.{PredefinedOperation}
use Rattle.types.specs.declared.entity.Role.{Role}
use Rattle.types.specs.declared.entity.Subtype.{Subtype}
use Rattle.types.specs.declared.entity.Value.{Value as Scalar}
use Rattle.types.specs.declared.standing.Callee.{Callee}
use Rattle.types.specs.declared.standing.Standing.{Standing}
use Rattle.types.specs.declared.standing.Standing.TheVariants as standing
use Rattle.types.specs.Entities.{Integers, Profile, TypeForm}
use Rattle.types.specs.Evaluating.{fixed_value}
use Rattle.types.specs.Laws.{PartsHavePlaces, ValuesHaveWords}
use Rattle.types.specs.Layouts.{capped, words_of}
use Rattle.types.specs.Scopes.{form_at, number_of}
use Rattle.types.specs.Standings.{conversion_stands, count, is_single, select, standing_of, stands_first}
use Rattle.expr_soundness.specs.BoundsLaw.{AllValuesLie, ChecksAreSpared}
use Rattle.expr_soundness.specs.Laws.{ExpressionsAreTyped}
use Rattle.expr_soundness.specs.SoundScopes.{SoundScope}
use Rattle.expr_soundness.specs.expr_rules.specs.Typing.{is_integers}
use Rattle.expr_soundness.specs.expr_rules.specs.NameRules.{conversion_slot, is_doubtful, label_rule, part_rule, slot_at}
use Rattle.expr_soundness.specs.expr_rules.specs.ExpressionRules.{argument_faults, arguments_faults, selector_faults, selectors_faults}
use Rattle.expr_soundness.specs.expr_rules.proofs.TypedLaw.{back_empty, front_empty, unbroken}
use Rattle.expr_soundness.proofs.Goods.{no_integer_parts, part_unbroken}
use Rattle.expr_code.specs.Emitting.{IsLegalExpression, has_numbers}
use Rattle.expr_code.specs.ExpressionCode.{actuals_count, argument_code, called_code, expr_code, external_code, name_code, name_words, named_code, named_words, operation_behind, parts_of, path_code, path_part, profiled_code, stored_code, stored_words, value_words, whole_of}
use Rattle.expr_code.specs.Going.{IsLegalPath}
use Rattle.expr_code.specs.Locating.{IsNear}
use Rattle.expr_code.specs.Pieces.{Piece}
use Rattle.expr_code.specs.Providing.{HasWhatExpressionsNeed}
use Rattle.expr_code.specs.Refusing.{HasUnfitObject, IsUnfit}
use Rattle.expr_code.specs.Seeing.{external_of, operation_named, profile_named, slot_of, subprogram_of}
use Rattle.expr_code.specs.Widths.{width_of}
use Rattle.expr_code.specs.declared.visible.Slot.{Slot}
use Rattle.expr_code.specs.declared.visible.Visible.{Visible}
use Rattle.expr_code.proofs.CalledWorks.{as_wide, direct_width, direct_works, external_works, language_width, language_works, operation_names, profile_names, through_width}
use Rattle.expr_code.proofs.Checking.{fit_legal}
use Rattle.expr_code.proofs.Conversions.{integers, operand_fit}
use Rattle.expr_code.proofs.ExpressionWorks.{ArgumentsWork, IsAsWide, SelectorsWork, Works, expr_works}
use Rattle.expr_code.proofs.Going.{first_part, whole_path}
use Rattle.expr_code.proofs.LegalNames.{IsApplied, begins_otherwise, called_applied, converted_applied, one_of_two, parts_unbroken}
use Rattle.expr_code.proofs.NameWorks.{conversion_works, fixed_works, numbers_work, object_works}
use Rattle.expr_code.proofs.PartWorks.{PathWorks, part_works, path_ends, path_works}
use Rattle.expr_code.proofs.ThroughObjects.{IsCalledWith, told_behind}
use Rattle.expr_code.proofs.Widths.{conversion_width, fixed_width, integers_fit_width, object_width, part_width}

label_wrong : (place : ℕ) (f : Option TypeForm) → label_rule (conversion_slot f) place ≡ [] → ⊥
label_wrong place (Some Integers) h = cc
label_wrong place f h = cc

two_given : (n : ℕ) → nat_eq (suc (suc n)) 1 ≡ true → ⊥
two_given n h = let one : suc (suc n) ≡ 1 = search rules in omega (arith, one)

applied_called : (all : SelectorTrees) → IsApplied all → IsCalledWith all
applied_called (MoreSelectors (Arguments a) NoSelectors) h = tt
applied_called all h = absurd h

module _ (quiet : QuietStays) (laws : ExpressionsAreTyped) (needless : ChecksAreSpared) (every : AllValuesLie) (sized : ValuesHaveWords) (places : PartsHavePlaces)
    (v : Visible) (sound : SoundScope v.scope) (cover : HasWhatExpressionsNeed v) where
  module _ (d : ℕ) (first : Identifier) where
    abbrev whole : SelectorTrees → ExprTree
    whole all = tree.Named first all

    abbrev IsDone : SelectorTrees → Piece → Type 0
    IsDone all a = Works v d (width_of v.scope (whole all)) (whole all) a

    abbrev begins : Standing
    begins = stands_first v.scope (number_of v.scope first.name)

    -- ---- objects

    no_integer_part : (x : SelectorTree) (rest : SelectorTrees) (t : Subtype) → IsLegalPath v.scope t (MoreSelectors x rest)
        → is_integers (form_at v.scope t.type_number) ≡ true → ⊥
    no_integer_part x rest t h integral =
        let part = first_part v.scope t x rest h in
        no_integer_parts v.scope sound part.place part.role t x integral
        (part_unbroken v.scope sound part.place (standing.Part part.role t) x part.unbroken)

    stored : (all : SelectorTrees) (r : Role) (t : Subtype) (slot : Slot) → begins ≡ standing.Part r t → slot_of v first.name ≡ Some slot
        → SelectorsWork v all → IsLegalExpression v.scope (whole all) → fixed_value (standing_of v.scope first all) ≡ None
        → IsDone all (stored_code v d all (parts_of v d all) t (Some slot))
    stored NoSelectors r t slot is there works legal valueless =
        as_wide v d _ _ (whole NoSelectors) _ (sym (object_width v.scope first r t is)) (object_works quiet v d first sized r t slot legal is there)
    stored (MoreSelectors x rest) r t slot is there works legal valueless =
        let all = MoreSelectors x rest in
        let path = whole_path v.scope sound first all r t legal is valueless in
        let q = path_works quiet laws needless every v sound (HasUnfitObject v) (λ h. h) d (whole_of t) all (let near : IsNear (pos 0) = omega arith in near) path
        (λ h. record { name = first.name; slot = slot; role = r; subtype = t; there = there; stands = is; unfit = h }) works in
        as_wide v d _ _ (whole all) _ (sym (part_width v.scope first all r t (path_part v.scope (whole_of t) all).subtype is (q.ends r)))
        (part_works v sound first all r t slot legal is valueless there (no_integer_part x rest t) quiet sized places d (path_part v.scope (whole_of t) all) _ q)

    by_slot : (all : SelectorTrees) (r : Role) (t : Subtype) → begins ≡ standing.Part r t → (o : Option Slot) → slot_of v first.name ≡ o
        → SelectorsWork v all → IsLegalExpression v.scope (whole all) → fixed_value (standing_of v.scope first all) ≡ None
        → IsDone all (stored_code v d all (parts_of v d all) t o)
    by_slot all r t is (Some slot) there works legal valueless = stored all r t slot is there works legal valueless
    by_slot all r t is None there works legal valueless =
        (let no = subst (λ o. is_some o ≡ true) there (cover.stored first.name r t is) in absurd cc)

    -- ---- conversions

    converts_one : (t : Subtype) (f : Option TypeForm) (b : Bool) → is_doubtful (conversion_stands t f b) ≡ false → b ≡ true
    converts_one t (Some Integers) true h = refl
    converts_one t f b h = absurd cc

    single_converted : (t : Subtype) → begins ≡ standing.Named t → (a : ArgumentTrees) → IsLegalExpression v.scope (whole (MoreSelectors (Arguments a) NoSelectors))
        → is_single a ≡ true
    single_converted t is a legal =
        let all = parts_unbroken v.scope first (MoreSelectors (Arguments a) NoSelectors) legal (standing.Named t) is in
        let one = front_empty (selector_faults v.scope first.place (standing.Named t) (Arguments a))
        (selectors_faults v.scope first.place (select v.scope (standing.Named t) (Arguments a)) NoSelectors) all in
        converts_one t (form_at v.scope t.type_number) (is_single a)
        (unbroken NO_MEANING first.place _ (front_empty (part_rule v.scope first.place (standing.Named t) (Arguments a))
        (arguments_faults v.scope (standing.Named t) 0 a) one))

    no_label : (t : Subtype) → begins ≡ standing.Named t → (label : _) (place : ℕ)
        → IsLegalExpression v.scope (whole (MoreSelectors (Arguments (MoreArguments (tree.Text label place) NoArguments)) NoSelectors)) → ⊥
    no_label t is label place legal =
        let a = MoreArguments (tree.Text label place) NoArguments in
        let all = parts_unbroken v.scope first (MoreSelectors (Arguments a) NoSelectors) legal (standing.Named t) is in
        let one = front_empty (selector_faults v.scope first.place (standing.Named t) (Arguments a))
        (selectors_faults v.scope first.place (select v.scope (standing.Named t) (Arguments a)) NoSelectors) all in
        label_wrong place (form_at v.scope t.type_number)
        (front_empty (argument_faults v.scope (slot_at v.scope (standing.Named t) 0) (tree.Text label place)) []
        (back_empty (part_rule v.scope first.place (standing.Named t) (Arguments a)) (arguments_faults v.scope (standing.Named t) 0 a) one))

    converted : (t : Subtype) → begins ≡ standing.Named t → (all : SelectorTrees) → IsApplied all → SelectorsWork v all → IsLegalExpression v.scope (whole all)
        → (Works v d 1 (whole all) (argument_code v d (Some t) all)) × (width_of v.scope (whole all) ≡ 1)
    converted t is (MoreSelectors (Arguments (MoreArguments (tree.Value e) NoArguments)) NoSelectors) form works legal =
        let integral = integers v.scope first e t is legal in
        let fit = operand_fit v.scope first e t is legal in
        let work = as_wide v d _ 1 e _ (integers_fit_width v.scope sound t e fit integral) (works.0.0 d (fit_legal v.scope t e fit)) in (
          conversion_works quiet v d first e t _ is legal (numbers_work quiet laws v d t e _ fit work needless every (ap has_numbers integral)),
          conversion_width v.scope first e t is legal,
        )
    converted t is (MoreSelectors (Arguments NoArguments) NoSelectors) form works legal =
        (let no = single_converted t is NoArguments legal in absurd cc)
    converted t is (MoreSelectors (Arguments (MoreArguments (tree.Text label place) NoArguments)) NoSelectors) form works legal =
        absurd (no_label t is label place legal)
    converted t is (MoreSelectors (Arguments (MoreArguments x (MoreArguments y more))) NoSelectors) form works legal =
        absurd (two_given (count more) (single_converted t is (MoreArguments x (MoreArguments y more)) legal))
    converted t is all form works legal = absurd form

    -- ---- calls

    called_form : (f : Callee) → begins ≡ standing.Callee f → (all : SelectorTrees) → IsLegalExpression v.scope (whole all) → IsCalledWith all
    called_form f is NoSelectors legal = tt
    called_form f is (MoreSelectors x rest) legal =
        applied_called (MoreSelectors x rest) (called_applied v.scope sound first f is (MoreSelectors x rest) legal refl)

    by_profile : (all : SelectorTrees) (f : Callee) → begins ≡ standing.Callee f → operation_named v.scope first.name ≡ None → (p : Option Profile)
        → profile_named v.scope first.name ≡ p → SelectorsWork v all → IsLegalExpression v.scope (whole all) → fixed_value (standing_of v.scope first all) ≡ None
        → IsDone all (profiled_code (d + actuals_count all) op.Call (subprogram_of v first.name) (parts_of v d all) p)
    by_profile all f is none (Some p) profiled works legal valueless =
        direct_works quiet laws needless every v sound cover d first p (profile_names v.scope first.name p profiled) all (called_form f is all legal) works legal valueless
    by_profile all f is none None profiled works legal valueless =
        absurd (one_of_two v.scope sound cover.formals first all f is legal none profiled)

    by_operation : (all : SelectorTrees) (f : Callee) → begins ≡ standing.Callee f → (o : Option PredefinedOperation) → operation_named v.scope first.name ≡ o
        → SelectorsWork v all → IsLegalExpression v.scope (whole all) → fixed_value (standing_of v.scope first all) ≡ None
        → IsDone all (called_code v d first all (parts_of v d all) o)
    by_operation all f is (Some o) named works legal valueless =
        language_works quiet laws needless every v sound cover d first o (operation_names v.scope first.name o named) all (called_form f is all legal) works legal
        valueless
    by_operation all f is None named works legal valueless =
        by_profile all f is named (profile_named v.scope first.name) refl works legal valueless

    through : (all : SelectorTrees) (n : ℕ) → begins ≡ standing.Protected n → SelectorsWork v all → IsLegalExpression v.scope (whole all)
        → fixed_value (standing_of v.scope first all) ≡ None → IsDone all (external_code v d first all (parts_of v d all) (operation_behind all))
    through all n is works legal valueless =
        let x = told_behind v.scope sound first all legal n is in
        subst (λ y. SelectorsWork v y → IsLegalExpression v.scope (whole y) → fixed_value (standing_of v.scope first y) ≡ None
        → IsDone y (external_code v d first y (parts_of v d y) (operation_behind y))) (sym x.is)
        (λ w l f. subst (λ o. IsDone (MoreSelectors (Component x.operation) x.rest) (profiled_code (d + actuals_count x.rest) op.ProtectedCall
        (external_of v first.name x.operation.name) (parts_of v d (MoreSelectors (Component x.operation) x.rest)) o)) (sym x.told)
        (external_works quiet laws needless every v sound cover d first x.operation x.profile x.told x.rest x.ends w.1 l f))
        works legal valueless

    -- ---- by what a name stands for

    by_standing : (all : SelectorTrees) (w : Standing) → begins ≡ w → SelectorsWork v all → IsLegalExpression v.scope (whole all)
        → fixed_value (standing_of v.scope first all) ≡ None → IsDone all (named_code v d first all (parts_of v d all) w)
    by_standing all (standing.Part r t) is works legal valueless = by_slot all r t is (slot_of v first.name) refl works legal valueless
    by_standing all (standing.Named t) is works legal valueless =
        let it = converted t is all (converted_applied v.scope sound first t is all legal valueless) works legal in
        as_wide v d 1 _ (whole all) _ (sym it.1) it.0
    by_standing all (standing.Callee f) is works legal valueless =
        by_operation all f is (operation_named v.scope first.name) refl works legal valueless
    by_standing all (standing.Protected n) is works legal valueless = through all n is works legal valueless
    by_standing all w is works legal valueless =
        absurd (begins_otherwise v.scope first all legal sound valueless w is (λ r t e. cc) (λ t e. cc) (λ f e. cc) (λ n e. cc))

    by_value : (all : SelectorTrees) (x : Option Scalar) → fixed_value (standing_of v.scope first all) ≡ x → SelectorsWork v all → IsLegalExpression v.scope (whole all)
        → IsDone all (name_code v d first all (parts_of v d all) x)
    by_value all (Some x) is works legal =
        as_wide v d 1 _ (whole all) _ (sym (fixed_width v.scope sound first all x legal is)) (fixed_works quiet v d first all x legal is)
    by_value all None is works legal = by_standing all begins refl works legal is

    pub names_work : (all : SelectorTrees) → SelectorsWork v all → IsLegalExpression v.scope (whole all) → IsDone all (expr_code v d (whole all))
    names_work all works legal = by_value all (fixed_value (standing_of v.scope first all)) refl works legal

    -- ---- how many words they have

    one_as_wide : (n : ℕ) → n ≡ 1 → IsAsWide 1 n
    one_as_wide n is = record { less = omega (arith, is); same = λ le. sym is }

    part_as_wide : (all : SelectorTrees) (r : Role) (t : Subtype) → begins ≡ standing.Part r t → (o : Option Slot) → slot_of v first.name ≡ o
        → IsLegalExpression v.scope (whole all) → fixed_value (standing_of v.scope first all) ≡ None
        → IsAsWide (stored_words o (capped (words_of v.scope (path_part v.scope (whole_of t) all).subtype))) (width_of v.scope (whole all))
    part_as_wide all r t is None there legal valueless =
        (let no = subst (λ o. is_some o ≡ true) there (cover.stored first.name r t is) in absurd cc)
    part_as_wide all r t is (Some slot) there legal valueless =
        let path = whole_path v.scope sound first all r t legal is valueless in
        let wide = part_width v.scope first all r t (path_part v.scope (whole_of t) all).subtype is (path_ends v (whole_of t) all path r) in
        record { less = omega (arith, wide); same = λ le. (let few : capped (words_of v.scope (path_part v.scope (whole_of t) all).subtype) ≤ FRAME_WORDS = le in omega (arith, wide, few)) }

    program_as_wide : (all : SelectorTrees) (f : Callee) → begins ≡ standing.Callee f → (o : Option PredefinedOperation) → operation_named v.scope first.name ≡ o
        → (p : Option Profile) → profile_named v.scope first.name ≡ p → IsLegalExpression v.scope (whole all) → width_of v.scope (whole all) ≡ 1
    program_as_wide all f is (Some o) named p profiled legal =
        language_width quiet laws needless every v sound cover d first o (operation_names v.scope first.name o named) all (called_form f is all legal)
    program_as_wide all f is None named (Some p) profiled legal =
        direct_width quiet laws needless every v sound cover d first p (profile_names v.scope first.name p profiled) all (called_form f is all legal) legal
    program_as_wide all f is None named None profiled legal = absurd (one_of_two v.scope sound cover.formals first all f is legal named profiled)

    standing_as_wide : (all : SelectorTrees) (w : Standing) → begins ≡ w → SelectorsWork v all → IsLegalExpression v.scope (whole all)
        → fixed_value (standing_of v.scope first all) ≡ None → IsAsWide (named_words v first all w) (width_of v.scope (whole all))
    standing_as_wide all (standing.Part r t) is works legal valueless = part_as_wide all r t is (slot_of v first.name) refl legal valueless
    standing_as_wide all (standing.Named t) is works legal valueless =
        one_as_wide _ (converted t is all (converted_applied v.scope sound first t is all legal valueless) works legal).1
    standing_as_wide all (standing.Callee f) is works legal valueless =
        one_as_wide _ (program_as_wide all f is (operation_named v.scope first.name) refl (profile_named v.scope first.name) refl legal)
    standing_as_wide all (standing.Protected n) is works legal valueless =
        let x = told_behind v.scope sound first all legal n is in
        one_as_wide _ (subst (λ y. IsLegalExpression v.scope (whole y) → width_of v.scope (whole y) ≡ 1) (sym x.is)
        (λ l. through_width quiet laws needless every v sound cover d first x.operation x.profile x.told x.rest x.ends l) legal)
    standing_as_wide all w is works legal valueless =
        absurd (begins_otherwise v.scope first all legal sound valueless w is (λ r t e. cc) (λ t e. cc) (λ f e. cc) (λ n e. cc))

    value_as_wide : (all : SelectorTrees) (x : Option Scalar) → fixed_value (standing_of v.scope first all) ≡ x → SelectorsWork v all
        → IsLegalExpression v.scope (whole all) → IsAsWide (name_words v first all x) (width_of v.scope (whole all))
    value_as_wide all (Some x) is works legal = one_as_wide _ (fixed_width v.scope sound first all x legal is)
    value_as_wide all None is works legal = standing_as_wide all begins refl works legal is

    pub names_as_wide : (all : SelectorTrees) → SelectorsWork v all → IsLegalExpression v.scope (whole all)
        → IsAsWide (value_words v (whole all)) (width_of v.scope (whole all))
    names_as_wide all works legal = value_as_wide all (fixed_value (standing_of v.scope first all)) refl works legal

  -- ---- all expressions

  pub all_work : (d : ℕ) (e : ExprTree) → IsLegalExpression v.scope e → Works v d (width_of v.scope e) e (expr_code v d e)
  all_work d e legal =
      expr_works quiet laws v sound (λ k first all works h. names_work k first all works h) (λ k first all works h. names_as_wide k first all works h) d e legal

  selectors_done : (all : SelectorTrees) → SelectorsWork v all
  selectors_done NoSelectors = tt
  selectors_done (MoreSelectors (Component name) rest) = (tt, selectors_done rest)
  selectors_done (MoreSelectors (Arguments a) rest) = (arguments_done a, selectors_done rest)
    where
      arguments_done : (a : ArgumentTrees) → ArgumentsWork v a
      arguments_done NoArguments = tt
      arguments_done (MoreArguments (tree.Value e) more) = ((λ d h. all_work d e h), arguments_done more)
      arguments_done (MoreArguments (tree.Text label place) more) = (tt, arguments_done more)
  selectors_done (MoreSelectors (Attribute name) rest) = (tt, selectors_done rest)

  -- from the address of an object of this subtype to that of its part
  pub address_works : (d : ℕ) (t : Subtype) (all : SelectorTrees) → IsLegalPath v.scope t all
      → PathWorks (HasUnfitObject v ⊎ IsUnfit v.scope t) v d (whole_of t) (path_part v.scope (whole_of t) all) all (path_code v (d + 1) (whole_of t) all)
  address_works d t all legal =
      path_works quiet laws needless every v sound (HasUnfitObject v ⊎ IsUnfit v.scope t) (λ h. inl h) d (whole_of t) all
      (let near : IsNear (pos 0) = omega arith in near) legal (λ h. inr h) (selectors_done all)
