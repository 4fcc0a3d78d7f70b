-- What calls of procedures need on the operand stack: what is passed, and what is copied back.
use Rattle.std.proofs.Common.{◌≡◌, ◌≤◌, ◌++◌, ◌+◌, ◌*◌, ℕ, zero, suc, [], ◌∷◌, List, length, Bool, true, false, not, Option, Some, None, refl, sym, ap, ◌∙◌, subst, arith}
use Rattle.std.specs.Prelude.{⊤, nat_eq}
use Rattle.std.proofs.Math.Nat.{max-le}
use Rattle.std.proofs.lemmas.Bool.{or_from}
use Rattle.base.specs.declared.faults.TheConstants.{NOT_A_VARIABLE, NO_MEANING}
use Rattle.ada_tree.specs.declared.declaration.Mode.{Mode}
use Rattle.ada_tree.specs.declared.declaration.Mode.TheVariants as mode
use Rattle.ada_tree.specs.declared.expression.Identifier.{Identifier}
use Rattle.ada_tree.specs.Depth.{argument_depth, arguments_depth, expr_depth, name_depth, selectors_depth}
use Rattle.ada_tree.specs.ExpressionGrammar.{Expression, expression, spells_argument, spells_arguments, spells_further_arguments, spells_name, spells_selectors}
use Rattle.ada_tree.specs.ExpressionTree.{Arguments, ArgumentTree, ArgumentTrees, Attribute, Component, ExprTree, MoreArguments, MoreSelectors, Named, NameTree, NoArguments, NoSelectors, SelectorTrees, Text, Value}
use Rattle.ada_tree.specs.Language.{Limit, Tokens}
use Rattle.ada_tree.specs.Size.{total}
use Rattle.types.specs.declared.entity.FormalParameter.{FormalParameter}
use Rattle.types.specs.declared.entity.Role.{Role}
use Rattle.types.specs.declared.entity.Subtype.{Subtype}
use Rattle.types.specs.declared.standing.Callee.TheVariants as callee
use Rattle.types.specs.declared.standing.Callee.{Callee}
use Rattle.types.specs.declared.standing.Standing.{Standing}
use Rattle.types.specs.declared.standing.Standing.TheVariants as standing
use Rattle.types.specs.Entities.{Integers, Profile, Put, Spans, Times, TypeForm}
use Rattle.types.specs.Layouts.{words_of}
use Rattle.types.specs.Scopes.{Scope, base_range_of, form_at, integer_type, number_of}
use Rattle.types.specs.Shapes.{shape_of}
use Rattle.types.specs.Standings.{callee_profile, standing_of, stands_first, stands_for}
use Rattle.expr_soundness.specs.expr_rules.specs.declared.names.Slot.{Slot}
use Rattle.expr_soundness.specs.expr_rules.specs.declared.names.Slot.TheVariants.{Expects, Takes}
use Rattle.expr_soundness.specs.expr_rules.specs.declared.own.Own.TheVariants.{Typed}
use Rattle.expr_soundness.specs.expr_rules.specs.declared.own.Wanted.TheVariants.{OfType}
use Rattle.expr_soundness.specs.expr_rules.specs.ExpressionRules.{argument_faults, arguments_faults, call_faults, faults_in, name_faults, selector_faults, selectors_faults}
use Rattle.expr_soundness.specs.expr_rules.specs.NameRules.{actual_rule, call_rule, is_changeable, mismatch, part_rule, slot_at, variable_rule}
use Rattle.expr_soundness.specs.expr_rules.specs.Faults.{rule}
use Rattle.expr_soundness.specs.expr_rules.specs.Typing.{is_integers}
use Rattle.expr_soundness.specs.expr_rules.proofs.TypedLaw.{back_empty, front_empty, same_number, unbroken}
use Rattle.expr_soundness.specs.type_rules.specs.SubtypeNames.{entity_at_or_none}
use Rattle.expr_soundness.specs.SoundScopes.{AreKnown}
use Rattle.expr_soundness.proofs.Expressions.{not_false}
use Rattle.program_soundness.specs.step_soundness.specs.Fitting.{entity_named}
use Rattle.expr_code.specs.Emitting.{IsLegalExpression}
use Rattle.expr_code.specs.Refusing.{is_fit}
use Rattle.expr_code.specs.Seeing.{external_profile, profile_named, slot_of}
use Rattle.expr_code.specs.declared.visible.Slot as visible
use Rattle.expr_code.specs.declared.visible.Visible.{Visible}
use Rattle.expr_code.proofs.Widths.{integral_one, words_by_type}
use Rattle.part_code.specs.Lines.{LabelledValue, is_put, line_behind, line_in, line_of}
use Rattle.part_code.specs.Passing.{ExternalName, actuals_behind, copied_width, operation_behind}
use Rattle.part_code.specs.EntryNames.{is_own_entry}
use Rattle.part_code.specs.Needs.{Needs, actual_needs, actuals_needs, address_needs, bare_needs, behind_needs, both, call_needs, called_needs, check_words, copies_needs, copy_needs, destination_at, destinations_for, destinations_named, destinations_of, has_unfit, in_needs, in_out_needs, line_needs, passed_needs, stacked, target_needs, through_needs, words_at}
use Rattle.part_code.specs.Suiting.{passed_width, returned_width}
use Rattle.part_code.specs.declared.call.Destination.{Destination}
use Rattle.stmt_code.proofs.CallForms.{put_there}
use Rattle.stmt_code.proofs.Putting.{put_is}
use Rattle.source_laws.specs.Depths.{IsSmallScope, formals_take}
use Rattle.source_laws.proofs.PeakBounds.{through}
use Rattle.expr_code.proofs.PeakSlots.{IsPath, begins, slot_by, slot_width, value_path}
use Rattle.source_laws.proofs.Peaks.{selectors_low}
use Rattle.expr_code.proofs.NamedBehind.{behind_legal, behind_profile, named_behind}
use Rattle.source_laws.proofs.NamedCalls.{SlotsFrom, begins_there, called_arguments, first_slot, later_slots, names, profile_is, profile_slots}
use Rattle.source_laws.proofs.NeedsBounds.{Fits, copied_bound, passed_bound}
use Rattle.source_laws.proofs.NeedsScopes.{few_words, known_behind, known_formals}
use Rattle.source_laws.proofs.NeedsShapes.{AreFit, fits_here, nothing_unfit}
use Rattle.source_laws.proofs.NeedsValues.{single_low, typed_low}

-- ---- sums over formals

abbrev passed_by : Mode → ℕ → ℕ
passed_by m words = elim m [ mode.In ↦ words | mode.Out ↦ 1 | mode.InOut ↦ suc words ]

abbrev returned_by : Mode → ℕ → ℕ
returned_by m words = elim m [ mode.In ↦ 0 | mode.Out ↦ suc words | mode.InOut ↦ suc words ]

passed_most : (m : Mode) (words : ℕ) → passed_by m words ≤ suc words
passed_most mode.In words = omega arith
passed_most mode.Out words = omega arith
passed_most mode.InOut words = omega arith

returned_most : (m : Mode) (words : ℕ) → returned_by m words ≤ suc words
returned_most mode.In words = omega arith
returned_most mode.Out words = omega arith
returned_most mode.InOut words = omega arith

-- an address for each, and all words
pub all_passed : (s : Scope) (fs : List FormalParameter) → total (passed_width s) fs ≤ length fs + formals_take s fs
all_passed s [] = omega arith
all_passed s (f ∷ fs) = let one = passed_most f.mode (words_of s f.subtype) in let more = all_passed s fs in omega (arith, one, more)

all_returned : (s : Scope) (fs : List FormalParameter) → total (returned_width s) fs ≤ length fs + formals_take s fs
all_returned s [] = omega arith
all_returned s (f ∷ fs) = let one = returned_most f.mode (words_of s f.subtype) in let more = all_returned s fs in omega (arith, one, more)

total_append : {A : Type 0} (size : A → ℕ) (xs ys : List A) → total size (xs ++ ys) ≡ total size xs + total size ys
total_append size [] ys = omega arith
total_append size (x ∷ xs) ys = let more = total_append size xs ys in omega (arith, more)

check_few : (o : Option TypeForm) → check_words o ≤ 2
check_few (Some Integers) = omega arith
check_few (Some Times) = omega arith
check_few (Some Spans) = omega arith
check_few o = omega arith

-- ---- actual parameters that are spelled

abbrev AreSpelled : Limit → ArgumentTrees → Type 0
AreSpelled l NoArguments = ⊤
AreSpelled l (MoreArguments a rest) = ((ts : Tokens) × spells_argument a l ts) × AreSpelled l rest

further_spelled : (l : Limit) (all : ArgumentTrees) (ts : Tokens) → spells_further_arguments all l ts → AreSpelled l all
further_spelled l NoArguments ts d = tt
further_spelled l (MoreArguments a rest) ts d = ((d.3.1, d.3.4), further_spelled l rest d.1 d.4)

all_spelled : (l : Limit) (all : ArgumentTrees) (ts : Tokens) → spells_arguments all l ts → AreSpelled l all
all_spelled l NoArguments ts d = tt
all_spelled l (MoreArguments a rest) ts d = ((d.0, d.3), further_spelled l rest d.1 d.4)

-- between the parentheses of a name
behind_spelled : (l : Limit) (all : ArgumentTrees) (rest : SelectorTrees) (ts : Tokens) → spells_selectors (MoreSelectors (Arguments all) rest) l ts
    → (m : Limit) × AreSpelled m all
behind_spelled None all rest ts d = (None, all_spelled None all d.3.4.0 d.3.4.3)
behind_spelled (Some zero) all rest ts d = absurd d.3
behind_spelled (Some (suc n)) all rest ts d = (Some n, all_spelled (Some n) all d.3.4.0 d.3.4.3)

-- ---- targets

module _ (s : Scope) (t : Subtype) where
  same_words : (r : Role) (u : Subtype) (place : ℕ) → variable_rule s place (OfType t.type_number) (standing.Part r u) ≡ [] → words_of s u ≡ words_of s t
  same_words r u place h =
      let fit = mismatch s (OfType t.type_number) (Typed u.type_number) place in
      let same = same_number t.type_number u.type_number
      (not_false (nat_eq t.type_number u.type_number) (unbroken NO_MEANING place _ (front_empty fit (rule NOT_A_VARIABLE place (not (is_changeable r))) h))) in
      sym (words_by_type s u) ∙ ap (λ n. words_of s (base_range_of n)) (sym same) ∙ words_by_type s t

  -- what is named has the words of the parameter
  target_words : (w : Standing) (place : ℕ) → variable_rule s place (OfType t.type_number) w ≡ [] → words_at s w ≤ words_of s t
  target_words (standing.Part r u) place h = let same = same_words r u place h in omega (arith, same)
  target_words w place h = omega arith

  destination_words : (o : Option visible.Slot) (w : Standing) (place : ℕ) → variable_rule s place (OfType t.type_number) w ≡ []
      → total (copied_width s) (destination_at o w) ≤ suc (words_of s t)
  destination_words (Some x) (standing.Part r u) place h = let same = same_words r u place h in omega (arith, same)
  destination_words o w place h = omega arith

-- ---- one actual parameter

abbrev pub moded_by : Mode → (depth : ℕ) → Visible → Subtype → ExprTree → Needs
moded_by m depth v t e = elim m [ mode.In ↦ in_needs depth v t e | mode.Out ↦ target_needs depth v e | mode.InOut ↦ in_out_needs depth v t e ]

abbrev pub destinations_by : Mode → Visible → ExprTree → List Destination
destinations_by m v e = elim m [ mode.In ↦ [] | mode.Out ↦ destinations_named v e | mode.InOut ↦ destinations_named v e ]

module _ (v : Visible) (small : IsSmallScope v.scope) where
  abbrev s : Scope
  s = v.scope

  pub address_low : (depth place : ℕ) (w : Standing) (first : Identifier) (path : SelectorTrees) (l : Limit) (ts : Tokens) → spells_selectors path l ts
      → IsPath s small.sound small.formals place w path → (address_needs depth v path).stack ≤ depth + 2 + 12 * selectors_depth path
  address_low depth place w first path l ts d h =
      let low = selectors_low s small.sound small.formals place w path l ts 1 (omega arith) d h in omega (arith, low)

  named_legal : (n : ℕ) (e : ExprTree) → argument_faults s (Takes n) (Value e) ≡ [] → IsLegalExpression s e
  named_legal n e h = record { wanted = OfType n; unbroken = front_empty (faults_in s (OfType n) e) (actual_rule s (OfType n) e) h }

  target_rule : (n : ℕ) (first : Identifier) (path : SelectorTrees) → argument_faults s (Takes n) (Value (Named first path)) ≡ []
      → variable_rule s first.place (OfType n) (standing_of s first path) ≡ []
  target_rule n first path h = back_empty (faults_in s (OfType n) (Named first path)) (actual_rule s (OfType n) (Named first path)) h

  named_address : (height n : ℕ) (first : Identifier) (path : SelectorTrees) (l : Limit) (ts : Tokens) → expression l (Named first path) ts
      → argument_faults s (Takes n) (Value (Named first path)) ≡ [] → height ≤ 71
      → (address_needs height v path).stack ≤ 78 + 12 * selectors_depth path
  named_address height n first path l ts d h room =
      let low = address_low height first.place (begins s small.sound small.formals first path) first path l d.1.1 d.1.4
      (value_path s small.sound small.formals first path (named_legal n (Named first path) h)) in
      omega (arith, low, room)

  moded_low : (m : Mode) (t : Subtype) (height : ℕ) (e : ExprTree) (l : Limit) (ts : Tokens) → expression l e ts
      → argument_faults s (slot_by m t.type_number) (Value e) ≡ [] → height + passed_by m (words_of s t) ≤ 72
      → (moded_by m height v t e).stack ≤ 78 + 12 * expr_depth e
  moded_low mode.In t height e l ts d h room = passed_bound height (words_of s t) _ (expr_depth e) (typed_low s small t e l ts d h) room
  moded_low mode.Out t height (Named first path) l ts d h room = named_address height t.type_number first path l ts d h (omega (arith, room))
  moded_low mode.Out t height e l ts d h room = omega arith
  moded_low mode.InOut t height (Named first path) l ts d h room =
      let copied = copied_bound height (words_at s (standing_of s first path)) (words_of s t) (check_words (form_at s t.type_number))
      (target_words s t (standing_of s first path) first.place (target_rule t.type_number first path h)) (check_few (form_at s t.type_number)) room in
      max-le (named_address height t.type_number first path l ts d h (omega (arith, room))) (omega (arith, copied))
  moded_low mode.InOut t height e l ts d h room = omega arith

  moded_back : (m : Mode) (t : Subtype) (e : ExprTree) → argument_faults s (slot_by m t.type_number) (Value e) ≡ []
      → total (copied_width s) (destinations_by m v e) ≤ returned_by m (words_of s t)
  moded_back mode.In t e h = omega arith
  moded_back mode.Out t (Named first path) h =
      destination_words s t (slot_of v first.name) (standing_of s first path) first.place (target_rule t.type_number first path h)
  moded_back mode.Out t e h = omega arith
  moded_back mode.InOut t (Named first path) h =
      destination_words s t (slot_of v first.name) (standing_of s first path) first.place (target_rule t.type_number first path h)
  moded_back mode.InOut t e h = omega arith

  actual_low : (f : FormalParameter) (height : ℕ) (a : ArgumentTree) (l : Limit) → ((ts : Tokens) × spells_argument a l ts)
      → argument_faults s (slot_by f.mode f.subtype.type_number) a ≡ [] → height + passed_width s f ≤ 72
      → (actual_needs height v f a).stack ≤ 78 + 12 * argument_depth a
  actual_low f height (Value e) l d h room = moded_low f.mode f.subtype height e l d.0 d.1 h room
  actual_low f height (Text label place) l d h room = omega arith

  actual_back : (f : FormalParameter) (a : ArgumentTree) → argument_faults s (slot_by f.mode f.subtype.type_number) a ≡ []
      → total (copied_width s) (destinations_for v f a) ≤ returned_width s f
  actual_back f (Value e) h = moded_back f.mode f.subtype e h
  actual_back f (Text label place) h = omega arith

  -- ---- all of them

  actuals_low : (fs : List FormalParameter) (w : Standing) (k height : ℕ) (all : ArgumentTrees) (l : Limit) → AreSpelled l all → SlotsFrom s w k fs
      → arguments_faults s w k all ≡ [] → height + total (passed_width s) fs ≤ 72
      → (actuals_needs height v fs all).stack ≤ 78 + 12 * arguments_depth all
  actuals_low fs w k height NoArguments l d same h room = omega arith
  actuals_low [] w k height (MoreArguments a rest) l d same h room = omega arith
  actuals_low (f ∷ fs) w k height (MoreArguments a rest) l d same h room =
      let here = argument_faults s (slot_at s w k) a in
      let more = arguments_faults s w (suc k) rest in
      let one = actual_low f height a l d.0 (first_slot s w k f fs a same (front_empty here more h)) (omega (arith, room)) in
      let others = actuals_low fs w (suc k) (height + passed_width s f) rest l d.1 (later_slots s w k f fs same) (back_empty here more h)
      (omega (arith, room)) in
      max-le (omega (arith, one)) (omega (arith, others))

  actuals_back : (fs : List FormalParameter) (w : Standing) (k : ℕ) (all : ArgumentTrees) → SlotsFrom s w k fs → arguments_faults s w k all ≡ []
      → total (copied_width s) (destinations_of v fs all) ≤ total (returned_width s) fs
  actuals_back fs w k NoArguments same h = omega arith
  actuals_back [] w k (MoreArguments a rest) same h = omega arith
  actuals_back (f ∷ fs) w k (MoreArguments a rest) same h =
      let here = argument_faults s (slot_at s w k) a in
      let more = arguments_faults s w (suc k) rest in
      let one = actual_back f a (first_slot s w k f fs a same (front_empty here more h)) in
      let others = actuals_back fs w (suc k) rest (later_slots s w k f fs same) (back_empty here more h) in
      let both = total_append (copied_width s) (destinations_for v f a) (destinations_of v fs rest) in
      omega (arith, one, others, both)

  copies_low : (ds : List Destination) (most : ℕ) → total (copied_width s) ds ≤ most → (copies_needs v ds).stack ≤ most + 2
  copies_low [] most h = omega arith
  copies_low (d ∷ ds) most h =
      let few = check_few (form_at s d.subtype.type_number) in
      max-le (omega (arith, h, few)) (copies_low ds most (omega (arith, h)))

  -- ---- what is called

  module _ (f : Callee) (p : Profile) (is : callee_profile s f ≡ Some p) (few : formals_take s p.formals ≤ 64) where
    abbrev w : Standing
    w = standing.Callee f

    few_formals : length p.formals ≤ 8
    few_formals = (small.formals f p is).few

    few_passed : total (passed_width s) p.formals ≤ 72
    few_passed = let all = all_passed s p.formals in let eight = few_formals in omega (arith, all, few, eight)

    few_returned : total (returned_width s) p.formals ≤ 72
    few_returned = let all = all_returned s p.formals in let eight = few_formals in omega (arith, all, few, eight)

    given_low : (all : ArgumentTrees) (l : Limit) (d : ℕ) → AreSpelled l all → arguments_faults s w 0 all ≡ [] → arguments_depth all ≤ d
        → (passed_needs v p.formals (Some all)).stack ≤ 78 + 12 * d
    given_low all l d spelled h deep =
        let slots = profile_slots s f p is in
        let low = actuals_low p.formals w 0 0 all l spelled slots h (omega (arith, few_passed)) in
        let back = copies_low (destinations_of v p.formals all) 72
        (through _ (total (returned_width s) p.formals) 72 (actuals_back p.formals w 0 all slots h) few_returned) in
        let passed = few_passed in
        max-le (omega (arith, low, deep)) (max-le (omega (arith, passed)) (omega (arith, back)))

    -- with nothing behind it, or with actual parameters
    pub passed_low : (place : ℕ) (selectors : SelectorTrees) (l : Limit) (ts : Tokens) → spells_selectors selectors l ts
        → selectors_faults s place w selectors ≡ []
        → (passed_needs v p.formals (actuals_behind selectors)).stack ≤ 78 + 12 * selectors_depth selectors
    passed_low place NoSelectors l ts d h = given_low NoArguments l 0 tt refl (omega arith)
    passed_low place (MoreSelectors (Arguments a) NoSelectors) l ts d h =
        let inside = behind_spelled l a NoSelectors ts d in
        given_low a inside.0 (selectors_depth (MoreSelectors (Arguments a) NoSelectors)) inside.1 (called_arguments s place f a NoSelectors h) (omega arith)
    passed_low place (MoreSelectors (Arguments a) (MoreSelectors x rest)) l ts d h = omega arith
    passed_low place (MoreSelectors (Component name) rest) l ts d h = omega arith
    passed_low place (MoreSelectors (Attribute name) rest) l ts d h = omega arith

  -- ---- calls of procedures of the package

  pub invoked_low : (first : Identifier) (p : Profile) → profile_named s first.name ≡ Some p → (selectors : SelectorTrees) (l : Limit) (ts : Tokens)
      → spells_selectors selectors l ts → name_faults s first selectors ≡ []
      → (passed_needs v p.formals (actuals_behind selectors)).stack ≤ 78 + 12 * selectors_depth selectors
  invoked_low first p there selectors l ts d h =
      passed_low (callee.Direct (names s first p there).number) p (profile_is s first p there) (small.words first.name p there) first.place selectors l ts d
      (subst (λ u. selectors_faults s first.place u selectors ≡ []) (begins_there s first p there)
      (back_empty _ (selectors_faults s first.place (stands_first s (number_of s first.name)) selectors) h))

  -- ---- ... of operations and entries, named behind their protected objects

  module _ (first operation : Identifier) (rest : SelectorTrees) (l : Limit) (ts : Tokens)
      (d : spells_selectors (MoreSelectors (Component operation) rest) l ts) (h : name_faults s first (MoreSelectors (Component operation) rest) ≡ []) where
    external_passed : (p : Profile) → external_profile s first.name operation.name ≡ Some p
        → (passed_needs v p.formals (actuals_behind rest)).stack ≤ 78 + 12 * selectors_depth rest
    external_passed p told =
        passed_low (named_behind s first operation p told) p (behind_profile s first operation p told) (small.behind first.name operation.name p told)
        first.place rest l d.1 d.4 (behind_legal s first operation p told rest h)

    external_low : (a : ArgumentTrees) → actuals_behind rest ≡ Some a
        → (through_needs v (record { first = first; selectors = MoreSelectors (Component operation) rest })
        (Some (record { operation = operation; arguments = a }))).stack ≤ 80 + 12 * selectors_depth (MoreSelectors (Component operation) rest)
    external_low a is =
        by_profile (external_profile s first.name operation.name) refl
      where
        x : ExternalName
        x = record { operation = operation; arguments = a }

        passed : (p : Profile) → external_profile s first.name operation.name ≡ Some p
            → (passed_needs v p.formals (Some a)).stack ≤ 78 + 12 * selectors_depth rest
        passed p told = subst (λ o. (passed_needs v p.formals o).stack ≤ 78 + 12 * selectors_depth rest) is (external_passed p told)

        by_profile : (o : Option Profile) → external_profile s first.name operation.name ≡ o
            → (behind_needs v x o).stack ≤ 80 + 12 * selectors_depth (MoreSelectors (Component operation) rest)
        by_profile (Some p) told = let low = passed p told in omega (arith, low)
        by_profile None told = omega arith

  -- ---- lines

  module _ (first : Identifier) (is : is_put (entity_named s first.name) ≡ true) where
    put_stands : stands_first s (number_of s first.name) ≡ standing.Put
    put_stands = by_number (number_of s first.name) (put_is (entity_named s first.name) is)
      where
        by_number : (o : Option ℕ) → entity_at_or_none s o ≡ Some Put → stands_first s o ≡ standing.Put
        by_number (Some n) h = ap (stands_for n) h
        by_number None h = absurd cc

    line_value : (a : ArgumentTrees) (l : Limit) → AreSpelled l a → arguments_faults s standing.Put 0 a ≡ []
        → (line_needs v (line_in a)).stack ≤ 6 + 12 * arguments_depth a
    line_value (MoreArguments (Text label at) (MoreArguments (Value e) NoArguments)) l d h =
        let slot : Slot = Expects (OfType integer_type) in
        let ends = front_empty (argument_faults s slot (Value e)) []
        (back_empty (argument_faults s (slot_at s standing.Put 0) (Text label at)) (argument_faults s slot (Value e) ++ []) h) in
        let one = slot_width s small.sound slot e (integral_one s (Typed integer_type) (ap is_integers small.sound.integer)) ends in
        let low = single_low s small Expression e l d.1.0.0 d.1.0.1 (omega arith) one.0 one.1 in
        omega (arith, low)
    line_value a l d h = omega arith

    pub line_low : (selectors : SelectorTrees) (l : Limit) (ts : Tokens) → spells_selectors selectors l ts → name_faults s first selectors ≡ []
        → (line_needs v (line_behind selectors)).stack ≤ 6 + 12 * selectors_depth selectors
    line_low NoSelectors l ts d h = omega arith
    line_low (MoreSelectors (Arguments a) NoSelectors) l ts d h =
        let x = MoreSelectors (Arguments a) NoSelectors in
        let behind = subst (λ u. selectors_faults s first.place u x ≡ []) put_stands
        (back_empty _ (selectors_faults s first.place (stands_first s (number_of s first.name)) x) h) in
        let inside = behind_spelled l a NoSelectors ts d in
        let low = line_value a inside.0 inside.1 (back_empty (part_rule s first.place standing.Put (Arguments a)) (arguments_faults s standing.Put 0 a)
        (front_empty (selector_faults s first.place standing.Put (Arguments a)) _ behind)) in
        omega (arith, low)
    line_low (MoreSelectors (Arguments a) (MoreSelectors x rest)) l ts d h = omega arith
    line_low (MoreSelectors (Component name) rest) l ts d h = omega arith
    line_low (MoreSelectors (Attribute name) rest) l ts d h = omega arith

  -- ---- all calls

  -- no words of the frame, and no value without words
  record IsPlain (n : Needs) : Type 0 where
    frame : n.frame ≤ 0
    fit : n.unfit ≡ false

  both_plain : (a b : Needs) → IsPlain a → IsPlain b → IsPlain (both a b)
  both_plain a b p q = record { frame = max-le p.frame q.frame; fit = or_from a.unfit b.unfit p.fit q.fit }

  visible_fit : has_unfit v ≡ false
  visible_fit = nothing_unfit v small

  target_plain : (height : ℕ) (e : ExprTree) → IsPlain (target_needs height v e)
  target_plain height (Named first path) = record { frame = omega arith; fit = visible_fit }
  target_plain height e = record { frame = omega arith; fit = refl }

  in_out_plain : (height : ℕ) (t : Subtype) (e : ExprTree) → IsPlain (in_out_needs height v t e)
  in_out_plain height t (Named first path) = record { frame = omega arith; fit = or_from (has_unfit v) (has_unfit v) visible_fit visible_fit }
  in_out_plain height t e = record { frame = omega arith; fit = refl }

  moded_plain : (m : Mode) (height : ℕ) (t : Subtype) (e : ExprTree) → is_fit (shape_of s t) ≡ true → IsPlain (moded_by m height v t e)
  moded_plain mode.In height t e h =
      record { frame = omega arith; fit = or_from (has_unfit v) (not (is_fit (shape_of s t))) visible_fit (ap not h) }
  moded_plain mode.Out height t e h = target_plain height e
  moded_plain mode.InOut height t e h = in_out_plain height t e

  actual_plain : (height : ℕ) (f : FormalParameter) (a : ArgumentTree) → is_fit (shape_of s f.subtype) ≡ true → IsPlain (actual_needs height v f a)
  actual_plain height f (Value e) h = moded_plain f.mode height f.subtype e h
  actual_plain height f (Text label place) h = record { frame = omega arith; fit = refl }

  actuals_plain : (height : ℕ) (fs : List FormalParameter) (all : ArgumentTrees) → AreFit s fs → IsPlain (actuals_needs height v fs all)
  actuals_plain height fs NoArguments h = record { frame = omega arith; fit = refl }
  actuals_plain height [] (MoreArguments a rest) h = record { frame = omega arith; fit = refl }
  actuals_plain height (f ∷ fs) (MoreArguments a rest) h =
      both_plain (actual_needs height v f a) (actuals_needs (height + passed_width s f) v fs rest) (actual_plain height f a h.0)
      (actuals_plain (height + passed_width s f) fs rest h.1)

  copies_plain : (ds : List Destination) → IsPlain (copies_needs v ds)
  copies_plain [] = record { frame = omega arith; fit = refl }
  copies_plain (d ∷ ds) =
      both_plain (copy_needs v (total (copied_width s) (d ∷ ds)) d) (copies_needs v ds) (record { frame = omega arith; fit = visible_fit }) (copies_plain ds)

  passed_plain : (fs : List FormalParameter) (o : Option ArgumentTrees) → AreFit s fs → IsPlain (passed_needs v fs o)
  passed_plain fs None h = record { frame = omega arith; fit = refl }
  passed_plain fs (Some all) h =
      let words = stacked (total (passed_width s) fs) in
      let copies = copies_needs v (destinations_of v fs all) in
      both_plain (actuals_needs 0 v fs all) (both words copies) (actuals_plain 0 fs all h)
      (both_plain words copies (record { frame = omega arith; fit = refl }) (copies_plain (destinations_of v fs all)))

  line_plain : (o : Option LabelledValue) → IsPlain (line_needs v o)
  line_plain (Some line) = record { frame = omega arith; fit = visible_fit }
  line_plain None = record { frame = omega arith; fit = refl }

  formals_fit : (fs : List FormalParameter) → AreKnown s fs → formals_take s fs ≤ 64 → AreFit s fs
  formals_fit [] h few = tt
  formals_fit (f ∷ fs) h few =
      (fits_here s small f.subtype h.0 (few_words (words_of s f.subtype) (omega (arith, few))), formals_fit fs h.1 (omega (arith, few)))

  bare_plain : (name : NameTree) (own_entry : Bool) → IsPlain (bare_needs v name own_entry)
  bare_plain name true = record { frame = omega arith; fit = refl }
  bare_plain name false = line_plain (line_of name)

  through_plain : (name : NameTree) (o : Option ExternalName) → IsPlain (through_needs v name o)
  through_plain name None = bare_plain name (is_own_entry (entity_named s name.first.name))
  through_plain name (Some x) = by_profile (external_profile s name.first.name x.operation.name) refl
    where
      passed : (p : Profile) → external_profile s name.first.name x.operation.name ≡ Some p → IsPlain (passed_needs v p.formals (Some x.arguments))
      passed p told =
          passed_plain p.formals (Some x.arguments)
          (formals_fit p.formals (known_behind s name.first.name x.operation.name p small.sound told) (small.behind name.first.name x.operation.name p told))

      by_profile : (o : Option Profile) → external_profile s name.first.name x.operation.name ≡ o → IsPlain (behind_needs v x o)
      by_profile (Some p) told = passed p told
      by_profile None told = record { frame = omega arith; fit = refl }

  called_plain : (name : NameTree) (o : Option Profile) → profile_named s name.first.name ≡ o → IsPlain (called_needs v name o)
  called_plain name (Some p) is =
      passed_plain p.formals (actuals_behind name.selectors)
      (formals_fit p.formals (known_formals s name.first.name p small.sound is) (small.words name.first.name p is))
  called_plain name None is = through_plain name (operation_behind name.selectors)

  module _ (name : NameTree) (l : Limit) (ts : Tokens) (spelled : spells_name l name ts) (h : call_faults s name.first name.selectors ≡ []) where
    abbrev path : SelectorTrees
    path = name.selectors

    parts : name_faults s name.first path ≡ []
    parts = front_empty (name_faults s name.first path) (call_rule name.first.place (standing_of s name.first path)) h

    -- what is no subprogram's, no operation's and no entry's is a line
    bare_low : profile_named s name.first.name ≡ None → operation_behind path ≡ None → (own_entry : Bool)
        → is_own_entry (entity_named s name.first.name) ≡ own_entry → (bare_needs v name own_entry).stack ≤ 80 + 12 * name_depth name
    bare_low none alone true is = omega arith
    bare_low none alone false is =
        let low = line_low name.first (put_there s small.sound name h none alone is) path l spelled.1 spelled.4 parts in omega (arith, low)

    through_low : (operation : Identifier) (rest : SelectorTrees) (a : ArgumentTrees) → path ≡ MoreSelectors (Component operation) rest
        → actuals_behind rest ≡ Some a
        → (through_needs v name (Some (record { operation = operation; arguments = a }))).stack ≤ 80 + 12 * name_depth name
    through_low operation rest a is given =
        let low = external_low name.first operation rest l spelled.1 (subst (λ x. spells_selectors x l spelled.1) is spelled.4)
        (subst (λ x. name_faults s name.first x ≡ []) is parts) a given in
        let deep : selectors_depth path ≡ selectors_depth (MoreSelectors (Component operation) rest) = ap selectors_depth is in
        omega (arith, low, deep)

    by_path : profile_named s name.first.name ≡ None → (all : SelectorTrees) → path ≡ all
        → (through_needs v name (operation_behind all)).stack ≤ 80 + 12 * name_depth name
    by_path none (MoreSelectors (Component operation) NoSelectors) is = through_low operation NoSelectors NoArguments is refl
    by_path none (MoreSelectors (Component operation) (MoreSelectors (Arguments a) NoSelectors)) is =
        through_low operation (MoreSelectors (Arguments a) NoSelectors) a is refl
    by_path none all is = bare_low none (ap operation_behind is) (is_own_entry (entity_named s name.first.name)) refl

    by_profile : (o : Option Profile) → profile_named s name.first.name ≡ o → (called_needs v name o).stack ≤ 80 + 12 * name_depth name
    by_profile (Some p) is = let low = invoked_low name.first p is path l spelled.1 spelled.4 parts in omega (arith, low)
    by_profile None is = by_path is path refl

    pub call_fits : (taken words : ℕ) → Fits (call_needs v name) taken words (name_depth name)
    call_fits taken words =
        let plain = called_plain name (profile_named s name.first.name) refl in
        let frame = plain.frame in
        record { stack_low = by_profile (profile_named s name.first.name) refl; frame_low = omega (arith, frame); fit = plain.fit }
