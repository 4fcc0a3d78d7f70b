-- Code of calls of functions of the language: Clock, Milliseconds, Microseconds, Read.
use Rattle.std.proofs.Common.{◌≡◌, ◌≢◌, ◌++◌, [], ◌∷◌, length, true, Option, Some, None, refl, sym, ap, ◌∙◌, arith}
use Rattle.std.specs.Prelude.{slice_get}
use Rattle.kernel.specs.Laws.{QuietStays}
use Rattle.ada_tree.specs.declared.expression.Identifier.{Identifier}
use Rattle.ada_tree.specs.ExpressionTree as tree
use Rattle.ada_tree.specs.ExpressionTree.{ArgumentTree, ArgumentTrees, Arguments, ExprTree, MoreArguments, MoreSelectors, NoArguments, NoSelectors, SelectorTrees}
use Rattle.types.specs.declared.entity.PredefinedOperation.{PredefinedOperation}
use Rattle.types.specs.declared.entity.PredefinedOperation.TheVariants as predefined
use Rattle.types.specs.declared.entity.Subtype.{Subtype}
use Rattle.types.specs.declared.standing.Callee.TheVariants as callee
use Rattle.types.specs.declared.standing.Standing.{Standing}
use Rattle.types.specs.declared.standing.Standing.TheVariants as standing
use Rattle.types.specs.Entities.{Predefined, Profile, Spans, Times, TypeForm}
use Rattle.types.specs.Evaluating.{fixed_value}
use Rattle.types.specs.Places.{IsPredefined}
use Rattle.types.specs.Scopes.{form_at, integer, integer_type, number_of, profile_at, profile_of, Scope}
use Rattle.types.specs.Standings.{call_stands, count, result_stands, select, select_all, settle, standing_of, stands_first, stands_for}
use Rattle.expr_soundness.specs.expr_rules.specs.declared.own.Own.TheVariants.{Typed}
use Rattle.expr_soundness.specs.expr_rules.specs.declared.own.Wanted.TheVariants.{OfType}
use Rattle.expr_soundness.specs.expr_rules.specs.ExpressionRules.{argument_faults, arguments_faults}
use Rattle.expr_soundness.specs.expr_rules.specs.NameRules.{call_slot, count_rule, end_rule, formal_slot, formal_slot_or, part_rule, profile_formals, slot_at}
use Rattle.expr_soundness.specs.expr_rules.specs.Typing.{is_spans, is_times, own_of_standing}
use Rattle.expr_soundness.specs.expr_rules.proofs.TypedLaw.{back_empty, front_empty}
use Rattle.expr_soundness.specs.SoundScopes.{integer_formal, IsSoundPredefined, SoundScope}
use Rattle.expr_soundness.proofs.Applying.{one_count}
use Rattle.expr_code.specs.Actuals.{applied_to}
use Rattle.expr_code.specs.Emitting.{has_numbers, IsFit, IsLegalExpression}
use Rattle.expr_code.specs.Naming.{NamesMeaning, SeesTime}
use Rattle.expr_code.specs.Seeing.{NamesOperation, Package, Sees}
use Rattle.expr_code.specs.Widths.{own_words, width_of}
use Rattle.expr_code.specs.declared.visible.Visible.{Visible}
use Rattle.expr_code.proofs.Checking.{integers_numbers}
use Rattle.expr_code.proofs.LegalNames.{parts_unbroken}
use Rattle.expr_code.proofs.Names.{legal_here}
use Rattle.expr_code.proofs.Widths.{numeric_one}

-- ---- what the functions take and give

times_numbers : (o : Option TypeForm) → is_times o ≡ true → has_numbers o ≡ true
times_numbers (Some Times) h = refl
times_numbers o h = cc

spans_numbers : (o : Option TypeForm) → is_spans o ≡ true → has_numbers o ≡ true
spans_numbers (Some Spans) h = refl
spans_numbers o h = cc

-- a number
pub record GivesNumber (s : Scope) (p : Profile) : Type 0 where
  pub subtype : Subtype
  pub result : p.result ≡ Some subtype
  pub numbers : has_numbers (form_at s subtype.type_number) ≡ true

pub gives_number : (s : Scope) (o : PredefinedOperation) (p : Profile) → IsSoundPredefined s o p → GivesNumber s p
gives_number s predefined.Clock p h = record { subtype = h.subtype; result = h.result; numbers = times_numbers (form_at s h.subtype.type_number) h.form }
gives_number s predefined.Milliseconds p h = record { subtype = h.subtype; result = h.result; numbers = spans_numbers (form_at s h.subtype.type_number) h.form }
gives_number s predefined.Microseconds p h = record { subtype = h.subtype; result = h.result; numbers = spans_numbers (form_at s h.subtype.type_number) h.form }
gives_number s predefined.Read p h = record { subtype = h.subtype; result = h.result; numbers = integers_numbers (form_at s h.subtype.type_number) h.form }

-- Clock takes nothing, each other one an integer
no_formals : (s : Scope) (o : PredefinedOperation) (p : Profile) → o ≡ predefined.Clock → IsSoundPredefined s o p → p.formals ≡ []
no_formals s predefined.Clock p is h = h.takes
no_formals s predefined.Milliseconds p is h = cc
no_formals s predefined.Microseconds p is h = cc
no_formals s predefined.Read p is h = cc

one_formal : (s : Scope) (o : PredefinedOperation) (p : Profile) → o ≢ predefined.Clock → IsSoundPredefined s o p → p.formals ≡ integer_formal ∷ []
one_formal s predefined.Clock p other h = absurd (other refl)
one_formal s predefined.Milliseconds p other h = h.takes
one_formal s predefined.Microseconds p other h = h.takes
one_formal s predefined.Read p other h = h.takes

-- these actual parameters behind the name
abbrev pub given : ArgumentTrees → SelectorTrees
given a = MoreSelectors (Arguments a) NoSelectors

abbrev pub with_one : ExprTree → SelectorTrees
with_one e = given (MoreArguments (tree.Value e) NoArguments)

none_given : (a : ArgumentTrees) → count a ≡ 0 → a ≡ NoArguments
none_given NoArguments e = refl
none_given (MoreArguments x rest) e = absurd (omega (arith, e))

-- ---- what legality says of a call

module _ (s : Scope) (sound : SoundScope s) (first : Identifier) (o : PredefinedOperation) (names : NamesOperation s first.name o) where
  abbrev callee_of : Standing
  callee_of = standing.Callee (callee.Direct names.number)

  abbrev profile : Profile
  profile = names.profile

  stands : stands_first s (number_of s first.name) ≡ callee_of
  stands = ap (stands_first s) names.numbered ∙ ap (stands_for names.number) names.stands

  profiled : profile_at s names.number ≡ Some profile
  profiled = ap profile_of names.stands

  of_language : IsSoundPredefined s o profile
  of_language = sound.each names.number (Predefined o profile) names.stands

  result : GivesNumber s profile
  result = gives_number s o profile of_language

  -- with nothing behind it
  none_alone : IsLegalExpression s (tree.Named first NoSelectors) → 0 ≡ length profile.formals
  none_alone legal =
      one_count first.place 0 (length profile.formals)
      (ap (λ p. count_rule first.place 0 (length (profile_formals p))) (sym profiled) ∙ parts_unbroken s first NoSelectors legal callee_of stands)

  pub clock_alone : o ≢ predefined.Clock → IsLegalExpression s (tree.Named first NoSelectors) → ⊥
  clock_alone other legal = let none = none_alone legal ∙ ap length (one_formal s o profile other of_language) in omega (arith, none)

  -- with actual parameters
  module _ (a : ArgumentTrees) (legal : IsLegalExpression s (tree.Named first (given a))) where
    behind : part_rule s first.place callee_of (Arguments a) ++ arguments_faults s callee_of 0 a ≡ []
    behind =
        front_empty (part_rule s first.place callee_of (Arguments a) ++ arguments_faults s callee_of 0 a)
        (end_rule s first.place (select s callee_of (Arguments a))) (parts_unbroken s first (given a) legal callee_of stands)

    as_many : count a ≡ length profile.formals
    as_many =
        one_count first.place (count a) (length profile.formals)
        (ap (λ p. count_rule first.place (count a) (length (profile_formals p))) (sym profiled)
        ∙ front_empty (part_rule s first.place callee_of (Arguments a)) (arguments_faults s callee_of 0 a) behind)

    pub one_argument : o ≢ predefined.Clock → count a ≡ 1
    one_argument other = as_many ∙ ap length (one_formal s o profile other of_language)

    pub no_arguments : o ≡ predefined.Clock → a ≡ NoArguments
    no_arguments is = none_given a (as_many ∙ ap length (no_formals s o profile is of_language))

  -- the one that there is stands for an integer
  pub one_legal : (x : ArgumentTree) → o ≢ predefined.Clock → IsLegalExpression s (tree.Named first (given (MoreArguments x NoArguments)))
      → argument_faults s (formal_slot integer_formal) x ≡ []
  one_legal x other legal =
      let a = MoreArguments x NoArguments in
      let all = back_empty (part_rule s first.place callee_of (Arguments a)) (arguments_faults s callee_of 0 a) (behind a legal) in
      let slot : slot_at s callee_of 0 ≡ formal_slot integer_formal =
      ap (λ p. call_slot p 0) profiled ∙ ap (λ fs. formal_slot_or (slice_get fs 0)) (one_formal s o profile other of_language) in
      ap (λ w. argument_faults s w x) (sym slot) ∙ front_empty (argument_faults s (slot_at s callee_of 0) x) [] all

  pub one_fit : (e : ExprTree) → o ≢ predefined.Clock → IsLegalExpression s (applied_to first e) → IsFit s integer e
  one_fit e other legal = record { wanted = OfType integer_type; fits = refl; unbroken = one_legal (tree.Value e) other legal }

  -- what it stands for as a whole
  alone_given : select_all s callee_of NoSelectors ≡ standing.Given result.subtype None
  alone_given = ap call_stands profiled ∙ ap result_stands result.result

  with_given : (a : ArgumentTrees) → select_all s callee_of (given a) ≡ standing.Given result.subtype None
  with_given a = ap (λ p. settle s (call_stands p)) profiled ∙ ap (λ r. settle s (result_stands r)) result.result

  module _ (selectors : SelectorTrees) (ends : select_all s callee_of selectors ≡ standing.Given result.subtype None) where
    valueless : fixed_value (standing_of s first selectors) ≡ None
    valueless = ap (λ w. fixed_value (select_all s w selectors)) stands ∙ ap fixed_value ends

    width : width_of s (tree.Named first selectors) ≡ 1
    width =
        ap (λ w. own_words s (own_of_standing (select_all s w selectors))) stands
        ∙ ap (λ w. own_words s (own_of_standing w)) ends
        ∙ numeric_one s (Typed result.subtype.type_number) result.numbers

  pub alone_width : width_of s (tree.Named first NoSelectors) ≡ 1
  alone_width = width NoSelectors alone_given

  pub with_width : (a : ArgumentTrees) → width_of s (tree.Named first (given a)) ≡ 1
  with_width a = width (given a) (with_given a)

-- ---- what was added

module _ (quiet : QuietStays) (v : Visible) (sound : SoundScope v.scope) (first : Identifier) where
  -- what the name means, and that the time and the inputs are seen
  pub means : (o : PredefinedOperation) (names : NamesOperation v.scope first.name o) (selectors : SelectorTrees)
      → IsLegalExpression v.scope (tree.Named first selectors)
      → fixed_value (standing_of v.scope first selectors) ≡ None → (g : Package) → NamesMeaning (Sees g v) first selectors (IsPredefined o)
  means o names selectors legal none g p view sees = (
    (legal_here v.scope p sees.names.agrees first selectors legal).same ∙ none,
    sees.names.agrees.names first.name names.number (Predefined o names.profile) names.numbered names.stands,
  )

  pub times : (g : Package) → SeesTime (Sees g v)
  times g p view sees = (sees.unit.now, sees.unit.schedule)

  module _ (e : ExprTree) (legal : IsLegalExpression v.scope (applied_to first e)) where
    pub none : (o : PredefinedOperation) (names : NamesOperation v.scope first.name o) → fixed_value (standing_of v.scope first (with_one e)) ≡ None
    none o names = valueless v.scope sound first o names (with_one e) (with_given v.scope sound first o names (MoreArguments (tree.Value e) NoArguments))
