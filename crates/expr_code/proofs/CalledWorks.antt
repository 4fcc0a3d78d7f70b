-- The code of calls of functions, by whatever name, wherever it stands.
use Rattle.std.proofs.Common.{◌≡◌, ◌≢◌, ℕ, ◌+◌, List, [], map, Option, None, Some, refl, sym, ap, ◌∙◌, subst, arith}
use Rattle.std.specs.Prelude.{⊤}
use Rattle.kernel.specs.Laws.{QuietStays}
use Rattle.ada_tree.specs.declared.expression.Identifier.{Identifier}
use Rattle.ada_tree.specs.ExpressionTree as tree
use Rattle.ada_tree.specs.ExpressionTree.{Arguments, Component, ExprTree, MoreArguments, MoreSelectors, NoArguments, NoSelectors, SelectorTrees}
use Rattle.image.specs.declared.instruction.Operation.TheVariants as op
use Rattle.types.specs.declared.entity.PredefinedOperation.{PredefinedOperation}
use Rattle.types.specs.declared.entity.PredefinedOperation.TheVariants as predefined
use Rattle.types.specs.declared.standing.Callee.TheVariants as callee
use Rattle.types.specs.Entities.{Entity, Predefined, Profile, Subprogram}
use Rattle.types.specs.Evaluating.{fixed_value}
use Rattle.types.specs.Scopes.{Scope, entity_at, integer, number_of}
use Rattle.types.specs.Standings.{call_stands, count, result_stands, select_all, settle, standing_of}
use Rattle.expr_soundness.specs.Agreeing.{parameter_subtype}
use Rattle.expr_soundness.specs.BoundsLaw.{AllValuesLie, ChecksAreSpared}
use Rattle.expr_soundness.specs.Laws.{ExpressionsAreTyped}
use Rattle.expr_soundness.specs.SoundScopes.{SoundScope}
use Rattle.expr_soundness.specs.expr_rules.specs.Typing.{own_of_standing}
use Rattle.ada_tree.specs.Size.{total}
use Rattle.image.specs.Sections.{Sections}
use Rattle.types.specs.declared.entity.Subtype.{Subtype}
use Rattle.types.specs.Evaluating.{name_with}
use Rattle.types.specs.Evaluations.{Gives}
use Rattle.types.specs.Places.{IsPredefined}
use Rattle.types.specs.Values.{Number}
use Rattle.types.specs.Layouts.{words_of}
use Rattle.expr_code.specs.Computing.{AlwaysNames}
use Rattle.expr_code.specs.Emitting.{IsLegalExpression, has_numbers}
use Rattle.expr_code.specs.Actuals.{applied_to}
use Rattle.expr_code.specs.ExpressionCode.{actuals_count, argument_code, arguments_code, call_code, checked_code, expr_code, parts_of, predefined_code, profiled_code}
use Rattle.expr_code.specs.Pieces.{Piece, nothing, one, ◌▸◌}
use Rattle.expr_code.specs.Providing.{HasWhatExpressionsNeed}
use Rattle.expr_code.specs.Seeing.{NamesOperation, NamesProfile, Package, Sees, Suits, library_of, external_of, external_profile, operation_named, operation_of, profile_named, subprogram_of, subprogram_profile}
use Rattle.expr_code.specs.Widths.{own_words, width_of}
use Rattle.expr_code.specs.declared.visible.Visible.{Visible}
use Rattle.expr_code.proofs.Actuals.{changes, named, none_wanted, parts, profiled, stands}
use Rattle.expr_code.proofs.CoveredNames.{behind_called, named_called}
use Rattle.expr_code.proofs.ExpressionWorks.{DoesWork, SelectorsWork, Works}
use Rattle.expr_code.proofs.Flowing.{Changes}
use Rattle.expr_code.proofs.Externals as externals
use Rattle.expr_code.proofs.Language.{alone_width, clock_alone, no_arguments, one_argument, one_fit, one_legal, with_width}
use Rattle.expr_code.proofs.LanguageWorks.{clock_works, microseconds_works, milliseconds_works, read_works}
use Rattle.expr_code.proofs.LegalNames.{ins}
use Rattle.expr_code.proofs.NameWorks.{WorksChecked, numbers_work}
use Rattle.expr_code.proofs.PassedWorks.{alone_works, coded, with_works}
use Rattle.expr_code.proofs.ThroughObjects.{IsCalledWith}
use Rattle.expr_code.proofs.Checking.{fit_legal}
use Rattle.expr_code.proofs.Widths.{call_alone_width, call_width, integers_fit_width, words_by_type}

-- ---- by the name that a function has

pub operation_names : (s : Scope) (name : List ℕ) (o : PredefinedOperation) → operation_named s name ≡ Some o → NamesOperation s name o
operation_names s name o is = by_number (number_of s name) refl is
  where
    by_entity : (n : ℕ) → number_of s name ≡ Some n → (e : Option Entity) → entity_at s n ≡ e → operation_of e ≡ Some o → NamesOperation s name o
    by_entity n numbered (Some (Predefined x p)) there e =
        (let same : x ≡ o = cc in record { number = n; profile = p; numbered = numbered; stands = there ∙ ap (λ y. Some (Predefined y p)) same })
    by_entity n numbered e there h = absurd cc

    by_number : (n : Option ℕ) → number_of s name ≡ n → elim n [ None ↦ None | Some k ↦ operation_of (entity_at s k) ] ≡ Some o → NamesOperation s name o
    by_number (Some n) numbered h = by_entity n numbered (entity_at s n) refl h
    by_number None numbered h = absurd cc

pub profile_names : (s : Scope) (name : List ℕ) (p : Profile) → profile_named s name ≡ Some p → NamesProfile s name p
profile_names s name p is = by_number (number_of s name) refl is
  where
    by_entity : (n : ℕ) → number_of s name ≡ Some n → (e : Option Entity) → entity_at s n ≡ e → subprogram_profile e ≡ Some p → NamesProfile s name p
    by_entity n numbered (Some (Subprogram q)) there h = (let same : q ≡ p = cc in record { number = n; numbered = numbered; stands = there ∙ ap (λ y. Some (Subprogram y)) same })
    by_entity n numbered e there h = absurd cc

    by_number : (n : Option ℕ) → number_of s name ≡ n → elim n [ None ↦ None | Some k ↦ subprogram_profile (entity_at s k) ] ≡ Some p → NamesProfile s name p
    by_number (Some n) numbered h = by_entity n numbered (entity_at s n) refl h
    by_number None numbered h = absurd cc

pub as_wide : (v : Visible) (d w n : ℕ) (e : ExprTree) (a : Piece) → w ≡ n → Works v d w e a → Works v d n e a
as_wide v d w n e a same p = subst (λ m. Works v d m e a) same p

-- ---- functions of the program

module _ (quiet : QuietStays) (laws : ExpressionsAreTyped) (needless : ChecksAreSpared) (every : AllValuesLie) (v : Visible) (sound : SoundScope v.scope)
    (cover : HasWhatExpressionsNeed v) (d : ℕ) (first : Identifier) where
  abbrev whole : SelectorTrees → ExprTree
  whole all = tree.Named first all

  abbrev HasCode : SelectorTrees → Piece → Type 0
  HasCode all a = Works v d (width_of v.scope (whole all)) (whole all) a

  module _ (p : Profile) (names : NamesProfile v.scope first.name p) where
    pub direct_width : (all : SelectorTrees) → IsCalledWith all → IsLegalExpression v.scope (whole all) → width_of v.scope (whole all) ≡ 1
    direct_width NoSelectors form legal =
        let code = coded v (subprogram_of v first.name) p (named_called v sound cover first NoSelectors p names legal).called in
        call_alone_width v.scope first p code.result names code.is code.single
    direct_width (MoreSelectors (Arguments a) NoSelectors) form legal =
        let code = coded v (subprogram_of v first.name) p (named_called v sound cover first (MoreSelectors (Arguments a) NoSelectors) p names legal).called in
        call_width v.scope first p code.result names code.is code.single a
    direct_width all form legal = absurd form

    pub direct_works : (all : SelectorTrees) → IsCalledWith all → SelectorsWork v all → IsLegalExpression v.scope (whole all)
        → fixed_value (standing_of v.scope first all) ≡ None
        → HasCode all (profiled_code (d + actuals_count all) op.Call (subprogram_of v first.name) (parts_of v d all) (Some p))
    direct_works NoSelectors form works legal valueless =
        let may = named_called v sound cover first NoSelectors p names legal in
        let code = coded v (subprogram_of v first.name) p may.called in
        let none = none_wanted v.scope first.place p (callee.Direct names.number) (profiled v first p names) (parts v first p names NoSelectors legal) in
        let no_value = ap (λ w. fixed_value (select_all v.scope w NoSelectors)) (sym (stands v first p names)) ∙ valueless in
        subst (λ o. HasCode NoSelectors (nothing ▸ call_code (d + 0) op.Call o)) (sym code.numbered)
        (as_wide v d 1 _ (whole NoSelectors) _ (sym (call_alone_width v.scope first p code.result names code.is code.single))
        (alone_works quiet laws v d (op.Call code.number) first NoSelectors
        (λ i g. subst (λ l. AlwaysNames i (library_of g) (Sees g v) first NoSelectors NoSelectors (op.Call code.number) (map parameter_subtype l)) none
        (named v first p names d code NoSelectors legal no_value g i))
        (changes v first p names d code d (subst (λ l. d ≡ d + total (words_of v.scope) (map parameter_subtype l)) (sym none) (omega arith)))))
    direct_works (MoreSelectors (Arguments a) NoSelectors) form works legal valueless =
        let all = MoreSelectors (Arguments a) NoSelectors in
        let may = named_called v sound cover first all p names legal in
        let code = coded v (subprogram_of v first.name) p may.called in
        let no_value = ap (λ w. fixed_value (select_all v.scope w all)) (sym (stands v first p names)) ∙ valueless in
        subst (λ o. HasCode all (arguments_code v d p.formals a ▸ call_code (d + count a) op.Call o)) (sym code.numbered)
        (as_wide v d 1 _ (whole all) _ (sym (call_width v.scope first p code.result names code.is code.single a))
        (with_works quiet laws needless every v sound (callee.Direct names.number) p (profiled v first p names) first.place a (parts v first p names all legal) d
        (op.Call code.number) first all (ins v.scope sound first.name p names code.result code.is) may.passable works.0
        (λ i g. named v first p names (d + count a) code all legal no_value g i) (changes v first p names (d + count a) code d) (omega arith) (omega arith)))
    direct_works all form works legal valueless = absurd form

  -- ---- through the name of a protected object

  module _ (operation : Identifier) (p : Profile) (known : external_profile v.scope first.name operation.name ≡ Some p) where
    abbrev behind : SelectorTrees → SelectorTrees
    behind rest = MoreSelectors (Component operation) rest

    external_width : (t : Subtype) → p.result ≡ Some t → words_of v.scope t ≡ 1 → (rest : SelectorTrees) → IsCalledWith rest
        → width_of v.scope (whole (behind rest)) ≡ 1
    external_width t is single NoSelectors form =
        ap (λ u. own_words v.scope (own_of_standing u)) (externals.stands_behind v first operation p known NoSelectors)
        ∙ ap (λ o. own_words v.scope (own_of_standing (call_stands o))) (externals.profile_is v first operation p known)
        ∙ ap (λ o. own_words v.scope (own_of_standing (result_stands o))) is ∙ words_by_type v.scope t ∙ single
    external_width t is single (MoreSelectors (Arguments a) NoSelectors) form =
        ap (λ u. own_words v.scope (own_of_standing u)) (externals.stands_behind v first operation p known (MoreSelectors (Arguments a) NoSelectors))
        ∙ ap (λ o. own_words v.scope (own_of_standing (settle v.scope (call_stands o)))) (externals.profile_is v first operation p known)
        ∙ ap (λ o. own_words v.scope (own_of_standing (settle v.scope (result_stands o)))) is ∙ words_by_type v.scope t ∙ single
    external_width t is single rest form = absurd form

    pub through_width : (rest : SelectorTrees) → IsCalledWith rest → IsLegalExpression v.scope (whole (behind rest)) → width_of v.scope (whole (behind rest)) ≡ 1
    through_width rest form legal =
        let code = coded v (external_of v first.name operation.name) p (behind_called v sound cover first operation rest p known legal).called in
        external_width code.result code.is code.single rest form

    pub external_works : (rest : SelectorTrees) → IsCalledWith rest → SelectorsWork v rest → IsLegalExpression v.scope (whole (behind rest))
        → fixed_value (standing_of v.scope first (behind rest)) ≡ None
        → HasCode (behind rest) (profiled_code (d + actuals_count rest) op.ProtectedCall (external_of v first.name operation.name) (parts_of v d (behind rest)) (Some p))
    external_works NoSelectors form works legal valueless =
        let may = behind_called v sound cover first operation NoSelectors p known legal in
        let code = coded v (external_of v first.name operation.name) p may.called in
        let none = none_wanted v.scope first.place p (externals.of_object v first operation p known) (externals.profile_is v first operation p known)
        (externals.external_parts v first operation p known NoSelectors legal) in
        subst (λ o. HasCode (behind NoSelectors) (nothing ▸ call_code (d + 0) op.ProtectedCall o)) (sym code.numbered)
        (as_wide v d 1 _ (whole (behind NoSelectors)) _ (sym (external_width code.result code.is code.single NoSelectors form))
        (external_alone_works code.number
        (λ i g. subst (λ l. AlwaysNames i (library_of g) (Sees g v) first (behind NoSelectors) NoSelectors (op.ProtectedCall code.number) (map parameter_subtype l)) none
        (externals.external_named v first operation p known d code NoSelectors legal valueless g i))
        (externals.external_changes v first operation p known d code d
        (subst (λ l. d ≡ d + total (words_of v.scope) (map parameter_subtype l)) (sym none) (omega arith)))))
      where
        external_alone_works : (n : ℕ)
            → ((i : Sections) (g : Package) → AlwaysNames i (library_of g) (Sees g v) first (behind NoSelectors) NoSelectors (op.ProtectedCall n) [])
            → Changes (Suits v) (op.ProtectedCall n) d (d + 1) → Works v d 1 (whole (behind NoSelectors)) (nothing ▸ one (d + 0) (op.ProtectedCall n))
        external_alone_works n means alters = alone_works quiet laws v d (op.ProtectedCall n) first (behind NoSelectors) means alters
    external_works (MoreSelectors (Arguments a) NoSelectors) form works legal valueless =
        let rest = MoreSelectors (Arguments a) NoSelectors in
        let may = behind_called v sound cover first operation rest p known legal in
        let code = coded v (external_of v first.name operation.name) p may.called in
        subst (λ o. HasCode (behind rest) (arguments_code v d p.formals a ▸ call_code (d + count a) op.ProtectedCall o)) (sym code.numbered)
        (as_wide v d 1 _ (whole (behind rest)) _ (sym (external_width code.result code.is code.single rest form))
        (with_works quiet laws needless every v sound (externals.of_object v first operation p known) p (externals.profile_is v first operation p known) first.place a
        (externals.external_parts v first operation p known rest legal) d (op.ProtectedCall code.number) first (behind rest)
        (externals.external_ins v first operation p known a sound legal) may.passable works.0
        (λ i g. externals.external_named v first operation p known (d + count a) code rest legal valueless g i)
        (externals.external_changes v first operation p known (d + count a) code d) (omega arith) (omega arith)))
    external_works rest form works legal valueless = absurd form

  -- ---- functions of the language

  module _ (o : PredefinedOperation) (names : NamesOperation v.scope first.name o) where
    abbrev argument : SelectorTrees → ℕ → Option Subtype → Piece
    argument all depth check = argument_code v depth check all

    one_works : (k : ℕ) (e : ExprTree) → o ≢ predefined.Clock → IsLegalExpression v.scope (applied_to first e) → DoesWork v e → Works v k 1 e (expr_code v k e)
    one_works k e other legal does =
        let fit = one_fit v.scope sound first o names e other legal in
        as_wide v k _ 1 e _ (integers_fit_width v.scope sound integer e fit sound.integer) (does k (fit_legal v.scope integer e fit))

    one_checked : (k : ℕ) (e : ExprTree) → o ≢ predefined.Clock → IsLegalExpression v.scope (applied_to first e) → DoesWork v e
        → WorksChecked v k integer e (checked_code v k integer e (expr_code v k e))
    one_checked k e other legal does =
        numbers_work quiet laws v k integer e _ (one_fit v.scope sound first o names e other legal) (one_works k e other legal does) needless every
        (ap has_numbers sound.integer)

    -- one value in parentheses, and nothing else
    abbrev IsOther : SelectorTrees → Type 0
    IsOther (MoreSelectors (Arguments (MoreArguments (tree.Value e) NoArguments)) NoSelectors) = ⊥
    IsOther all = ⊤

    no_other : o ≢ predefined.Clock → (all : SelectorTrees) → IsCalledWith all → IsLegalExpression v.scope (whole all) → IsOther all → ⊥
    no_other other NoSelectors form legal rest = clock_alone v.scope sound first o names other legal
    no_other other (MoreSelectors (Arguments NoArguments) NoSelectors) form legal rest =
        (let one = one_argument v.scope sound first o names NoArguments legal other in absurd (omega (arith, one)))
    no_other other (MoreSelectors (Arguments (MoreArguments (tree.Value e) NoArguments)) NoSelectors) form legal rest = rest
    no_other other (MoreSelectors (Arguments (MoreArguments (tree.Text label place) NoArguments)) NoSelectors) form legal rest =
        (let no = one_legal v.scope sound first o names (tree.Text label place) other legal in absurd cc)
    no_other other (MoreSelectors (Arguments (MoreArguments x (MoreArguments y more))) NoSelectors) form legal rest =
        (let one = one_argument v.scope sound first o names (MoreArguments x (MoreArguments y more)) legal other in absurd (omega (arith, one)))
    no_other other all form legal rest = absurd form

    clock_is : o ≡ predefined.Clock → (all : SelectorTrees) → IsCalledWith all → IsLegalExpression v.scope (whole all)
        → fixed_value (standing_of v.scope first all) ≡ None → Works v d 1 (whole all) (predefined_code d predefined.Clock (argument all))
    clock_is is NoSelectors form legal valueless =
        clock_works quiet v sound first d (subst (NamesOperation v.scope first.name) is names) NoSelectors (λ calls p. refl) legal valueless
    clock_is is (MoreSelectors (Arguments a) NoSelectors) form legal valueless =
        let none = no_arguments v.scope sound first o names a legal is in
        clock_works quiet v sound first d (subst (NamesOperation v.scope first.name) is names) (MoreSelectors (Arguments a) NoSelectors)
        (λ calls p. subst (λ b. name_with calls p (IsPredefined predefined.Clock) (MoreSelectors (Arguments b) NoSelectors) ≡ Gives (Number p.now)) (sym none) refl)
        legal valueless
    clock_is is all form legal valueless = absurd form

    module _ (other : o ≢ predefined.Clock) where
      milliseconds_is : o ≡ predefined.Milliseconds → (all : SelectorTrees) → IsCalledWith all → SelectorsWork v all → IsLegalExpression v.scope (whole all)
          → Works v d 1 (whole all) (predefined_code d predefined.Milliseconds (argument all))
      milliseconds_is is (MoreSelectors (Arguments (MoreArguments (tree.Value e) NoArguments)) NoSelectors) form works legal =
          milliseconds_works quiet v sound first d e legal _ (subst (NamesOperation v.scope first.name) is names) (one_checked (d + 1) e other legal works.0.0)
      milliseconds_is is all form works legal = absurd (no_other other all form legal tt)

      microseconds_is : o ≡ predefined.Microseconds → (all : SelectorTrees) → IsCalledWith all → SelectorsWork v all → IsLegalExpression v.scope (whole all)
          → Works v d 1 (whole all) (predefined_code d predefined.Microseconds (argument all))
      microseconds_is is (MoreSelectors (Arguments (MoreArguments (tree.Value e) NoArguments)) NoSelectors) form works legal =
          microseconds_works quiet v sound first d e legal _ (subst (NamesOperation v.scope first.name) is names) (one_checked d e other legal works.0.0)
      microseconds_is is all form works legal = absurd (no_other other all form legal tt)

      read_is : o ≡ predefined.Read → (all : SelectorTrees) → IsCalledWith all → SelectorsWork v all → IsLegalExpression v.scope (whole all)
          → Works v d 1 (whole all) (predefined_code d predefined.Read (argument all))
      read_is is (MoreSelectors (Arguments (MoreArguments (tree.Value e) NoArguments)) NoSelectors) form works legal =
          read_works quiet v sound first d e legal _ laws (subst (NamesOperation v.scope first.name) is names) (one_works d e other legal works.0.0)
      read_is is all form works legal = absurd (no_other other all form legal tt)

    pub language_width : (all : SelectorTrees) → IsCalledWith all → width_of v.scope (whole all) ≡ 1
    language_width NoSelectors form = alone_width v.scope sound first o names
    language_width (MoreSelectors (Arguments a) NoSelectors) form = with_width v.scope sound first o names a
    language_width all form = absurd form

    by_operation : (x : PredefinedOperation) → o ≡ x → (all : SelectorTrees) → IsCalledWith all → SelectorsWork v all → IsLegalExpression v.scope (whole all)
        → fixed_value (standing_of v.scope first all) ≡ None → Works v d 1 (whole all) (predefined_code d x (argument all))
    by_operation predefined.Clock is all form works legal valueless = clock_is is all form legal valueless
    by_operation predefined.Milliseconds is all form works legal valueless = milliseconds_is (λ c. (let no = sym is ∙ c in absurd cc)) is all form works legal
    by_operation predefined.Microseconds is all form works legal valueless = microseconds_is (λ c. (let no = sym is ∙ c in absurd cc)) is all form works legal
    by_operation predefined.Read is all form works legal valueless = read_is (λ c. (let no = sym is ∙ c in absurd cc)) is all form works legal

    pub language_works : (all : SelectorTrees) → IsCalledWith all → SelectorsWork v all → IsLegalExpression v.scope (whole all)
        → fixed_value (standing_of v.scope first all) ≡ None → HasCode all (predefined_code d o (argument all))
    language_works all form works legal valueless =
        as_wide v d 1 _ (whole all) _ (sym (language_width all form)) (by_operation o refl all form works legal valueless)
