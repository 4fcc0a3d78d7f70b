-- The code of actual parameters and of calls of functions of the program, wherever it stands.
use Rattle.std.proofs.Common.{◌≡◌, ◌≤◌, ℕ, suc, ◌+◌, List, [], ◌∷◌, ◌++◌, length, map, Bool, true, false, Option, None, Some, refl, rules, sym, ap, ◌∙◌, subst, arith}
use Rattle.std.proofs.lemmas.Bool.{and_parts}
use Rattle.std.specs.Prelude.{is_some, nat_eq, slice_get, ◌||◌}
use Rattle.kernel.specs.Laws.{QuietStays}
use Rattle.ada_tree.specs.declared.declaration.Mode.TheVariants as mode
use Rattle.ada_tree.specs.declared.expression.Identifier.{Identifier}
use Rattle.ada_tree.specs.ExpressionTree as tree
use Rattle.ada_tree.specs.ExpressionTree.{ArgumentTrees, Arguments, ExprTree, MoreArguments, MoreSelectors, NoArguments, NoSelectors, SelectorTrees}
use Rattle.ada_tree.specs.Size.{arguments_size, expr_size, total}
use Rattle.image.specs.Sections.{Sections}
use Rattle.image.specs.declared.instruction.Operation.{Operation}
use Rattle.types.specs.declared.entity.FormalParameter.{FormalParameter}
use Rattle.types.specs.declared.entity.Subtype.{Subtype}
use Rattle.types.specs.declared.standing.Callee.{Callee}
use Rattle.types.specs.declared.standing.Standing.TheVariants as standing
use Rattle.types.specs.Entities.{Booleans, Integers, Profile, Spans, Times, TypeForm}
use Rattle.types.specs.Layouts.{words_of}
use Rattle.types.specs.Scopes.{Scope, form_at}
use Rattle.types.specs.Standings.{callee_profile, count, select}
use Rattle.expr_soundness.specs.Agreeing.{parameter_subtype}
use Rattle.expr_soundness.specs.BoundsLaw.{AllValuesLie, ChecksAreSpared}
use Rattle.expr_soundness.specs.Laws.{ExpressionsAreTyped}
use Rattle.expr_soundness.specs.SoundScopes.{AreIn, SoundScope}
use Rattle.expr_soundness.specs.expr_rules.specs.declared.own.Wanted.TheVariants.{OfType}
use Rattle.expr_soundness.specs.expr_rules.specs.ExpressionRules.{argument_faults, arguments_faults, selectors_faults}
use Rattle.expr_soundness.specs.expr_rules.specs.Typing.{is_booleans}
use Rattle.expr_soundness.specs.expr_rules.specs.NameRules.{call_slot, count_rule, end_rule, formal_slot, formal_slot_or, part_rule, profile_formals, slot_at}
use Rattle.expr_code.specs.Computing.{AlwaysNames, Computes}
use Rattle.expr_code.specs.Emitting.{IsFit, has_numbers}
use Rattle.expr_code.specs.ExpressionCode.{arguments_code, checked_code, expr_code}
use Rattle.expr_code.specs.Pieces.{nothing, one, ◌▸◌}
use Rattle.expr_code.specs.Providing.{are_passable, is_called, is_passable, is_scalar_form, is_single}
use Rattle.expr_code.specs.Refusing.{arguments_peak, peak}
use Rattle.expr_code.specs.Views.{At}
use Rattle.expr_code.specs.Seeing.{Package, Sees, Suits, library_of}
use Rattle.expr_code.specs.declared.visible.Visible.{Visible}
use Rattle.expr_soundness.specs.expr_rules.proofs.TypedLaw.{back_empty, front_empty}
use Rattle.expr_soundness.proofs.Applying.{one_count}
use Rattle.expr_code.proofs.Actuals.{IsCoded}
use Rattle.expr_code.proofs.CallWorks.{AreFit, WorksAll, call_works, more_work, none_work, passed_well}
use Rattle.expr_code.proofs.Checking.{fit_legal}
use Rattle.expr_code.proofs.CoveredNames.{single_result}
use Rattle.expr_code.proofs.ExpressionWorks.{ArgumentsWork, DoesWork, Works}
use Rattle.expr_code.proofs.Flowing.{Changes}
use Rattle.expr_code.proofs.NameWorks.{WorksChecked, numbers_work, truths_work}
use Rattle.expr_code.proofs.Passing.{computes_call_alone}
use Rattle.expr_code.proofs.StandingPieces.{Between, both_stand, fits_none, fits_one, fits_then, one_stands}
use Rattle.expr_code.proofs.Widths.{fit_width}

-- ---- values that may be passed

only_booleans : (f : Option TypeForm) → is_booleans f ≡ true → f ≡ Some Booleans
only_booleans (Some Booleans) h = refl
only_booleans f h = absurd cc

pub is_known : (f : Option TypeForm) → (has_numbers f || is_booleans f) ≡ true → (form : TypeForm) × (f ≡ Some form)
is_known (Some form) h = (form, refl)
is_known None h = absurd cc

passable_scalar : (f : Option TypeForm) → (has_numbers f || is_booleans f) ≡ true → is_scalar_form f ≡ true
passable_scalar (Some Integers) h = refl
passable_scalar (Some Booleans) h = refl
passable_scalar (Some Times) h = refl
passable_scalar (Some Spans) h = refl
passable_scalar f h = absurd cc

pub passable_word : (s : Scope) (t : Subtype) → is_passable s t ≡ true → words_of s t ≡ 1
passable_word s t h = as_number (words_of s t) (single_result s t (passable_scalar (form_at s t.type_number) h))
  where
    as_number : (n : ℕ) → nat_eq n 1 ≡ true → n ≡ 1
    as_number n e = search rules

module _ (quiet : QuietStays) (laws : ExpressionsAreTyped) (needless : ChecksAreSpared) (every : AllValuesLie) (v : Visible) (sound : SoundScope v.scope) where
  by_numbers : (d : ℕ) (t : Subtype) (e : ExprTree) → is_passable v.scope t ≡ true → IsFit v.scope t e → Works v d 1 e (expr_code v d e)
      → (b : Bool) → has_numbers (form_at v.scope t.type_number) ≡ b → WorksChecked v d t e (checked_code v d t e (expr_code v d e))
  by_numbers d t e passable fit work true is = numbers_work quiet laws v d t e _ fit work needless every is
  by_numbers d t e passable fit work false is =
      truths_work quiet laws v d t e _ fit work
      (only_booleans (form_at v.scope t.type_number) (ap (λ b. b || is_booleans (form_at v.scope t.type_number)) (sym is) ∙ passable))

  pub value_works : (d : ℕ) (t : Subtype) (e : ExprTree) → is_passable v.scope t ≡ true → IsFit v.scope t e → DoesWork v e
      → WorksChecked v d t e (checked_code v d t e (expr_code v d e))
  value_works d t e passable fit does =
      by_numbers d t e passable fit
      (subst (λ n. Works v d n e (expr_code v d e)) (fit_width v.scope sound t e fit passable) (does d (fit_legal v.scope t e fit)))
      (has_numbers (form_at v.scope t.type_number)) refl

  -- ---- actual parameters

  pub record ArePassedFit (d height : ℕ) (formals : List FormalParameter) (all : ArgumentTrees) : Type 0 where
    pub works : WorksAll v d height (map parameter_subtype formals) all (arguments_code v d formals all)
    pub fit : AreFit v (map parameter_subtype formals) all

  formal_in : (f : FormalParameter) → f.mode ≡ mode.In → (e : ExprTree) → argument_faults v.scope (formal_slot f) (tree.Value e) ≡ [] → IsFit v.scope f.subtype e
  formal_in f is e h = record {
    wanted = OfType f.subtype.type_number;
    fits = refl;
    unbroken = (let g : argument_faults v.scope (formal_slot (record f { mode = mode.In })) (tree.Value e) ≡ [] =
        ap (λ m. argument_faults v.scope (formal_slot (record f { mode = m })) (tree.Value e)) (sym is) ∙ h in g);
  }

  module _ (f : Callee) (profile : Profile) (profiled : callee_profile v.scope f ≡ Some profile) where
    passed_fit : (k d height : ℕ) (formals : List FormalParameter) (all : ArgumentTrees)
        → ((n : ℕ) → slice_get profile.formals (k + n) ≡ slice_get formals n) → height ≡ d + length formals → count all ≡ length formals
        → AreIn formals → are_passable v.scope formals ≡ true → arguments_faults v.scope (standing.Callee f) k all ≡ [] → ArgumentsWork v all
        → ArePassedFit d height formals all
    passed_fit k d height [] NoArguments same high many ins passable legal works = record {
      works = subst (λ n. WorksAll v d n [] NoArguments nothing) (let e : d ≡ height = omega (arith, high) in e) (none_work quiet v d);
      fit = tt;
    }
    passed_fit k d height [] (MoreArguments a rest) same high many ins passable legal works = absurd (omega (arith, many))
    passed_fit k d height (x ∷ formals) NoArguments same high many ins passable legal works = absurd (omega (arith, many))
    passed_fit k d height (x ∷ formals) (MoreArguments (tree.Value e) rest) same high many ins passable legal works =
        let both = and_parts (is_passable v.scope x.subtype) (are_passable v.scope formals) passable in
        let here_ : k + 0 ≡ k = omega arith in
        let slot : slot_at v.scope (standing.Callee f) k ≡ formal_slot x =
        ap (λ o. call_slot o k) profiled ∙ ap formal_slot_or (ap (slice_get profile.formals) (sym here_) ∙ same 0) in
        let its = front_empty (argument_faults v.scope (slot_at v.scope (standing.Callee f) k) (tree.Value e))
        (arguments_faults v.scope (standing.Callee f) (suc k) rest) legal in
        let fit = formal_in x ins.0 e (ap (λ o. argument_faults v.scope o (tree.Value e)) (sym slot) ∙ its) in
        let others = passed_fit (suc k) (d + 1) height formals rest
        (λ n. (let e : suc k + n ≡ k + suc n = omega arith in ap (slice_get profile.formals) e ∙ same (suc n)))
        (omega (arith, high)) (omega (arith, many)) ins.1 both.1
        (back_empty (argument_faults v.scope (slot_at v.scope (standing.Callee f) k) (tree.Value e)) (arguments_faults v.scope (standing.Callee f) (suc k) rest) legal)
        works.1 in
        record {
          works = more_work quiet v d height x.subtype (map parameter_subtype formals) e rest _ _ (value_works d x.subtype e both.0 fit works.0) others.works;
          fit = (fit, is_known (form_at v.scope x.subtype.type_number) both.0, others.fit);
        }
    passed_fit k d height (x ∷ formals) (MoreArguments (tree.Text label place) rest) same high many ins passable legal works =
        let here_ : k + 0 ≡ k = omega arith in
        let slot : slot_at v.scope (standing.Callee f) k ≡ formal_slot x =
        ap (λ o. call_slot o k) profiled ∙ ap formal_slot_or (ap (slice_get profile.formals) (sym here_) ∙ same 0) in
        let its = front_empty (argument_faults v.scope (slot_at v.scope (standing.Callee f) k) (tree.Text label place))
        (arguments_faults v.scope (standing.Callee f) (suc k) rest) legal in
        let never : argument_faults v.scope (formal_slot (record x { mode = mode.In })) (tree.Text label place) ≡ [] =
        ap (λ m. argument_faults v.scope (formal_slot (record x { mode = m })) (tree.Text label place)) (sym ins.0)
        ∙ ap (λ o. argument_faults v.scope o (tree.Text label place)) (sym slot) ∙ its in
        absurd cc

-- ---- a call after its actual parameters

passable_words : (s : Scope) (formals : List FormalParameter) → are_passable s formals ≡ true → total (words_of s) (map parameter_subtype formals) ≡ length formals
passable_words s [] h = refl
passable_words s (f ∷ formals) h =
    let both = and_parts (is_passable s f.subtype) (are_passable s formals) h in
    let one = passable_word s f.subtype both.0 in
    let rest = passable_words s formals both.1 in
    omega (arith, one, rest)

pub coded : (v : Visible) (told : Option ℕ) (profile : Profile) → is_called v.scope told profile ≡ true → IsCoded v told profile
coded v told profile h = by_parts told profile.result refl refl (and_parts (is_some told) (is_single v.scope profile.result) h)
  where
    by_parts : (o : Option ℕ) (r : Option Subtype) → told ≡ o → profile.result ≡ r → (is_some told ≡ true) × (is_single v.scope profile.result ≡ true)
        → IsCoded v told profile
    by_parts (Some n) (Some t) numbered is both = record {
      number = n;
      numbered = numbered;
      result = t;
      is = is;
      single = (let one : nat_eq (words_of v.scope t) 1 ≡ true = ap (is_single v.scope) (sym is) ∙ both.1 in search rules);
    }
    by_parts None r numbered is both = (let no = subst (λ o. is_some o ≡ true) numbered both.0 in absurd cc)
    by_parts (Some n) None numbered is both = (let no = subst (λ r. is_single v.scope r ≡ true) is both.1 in absurd cc)

count_high : (s : Scope) (all : ArgumentTrees) → count all ≤ arguments_peak s all
count_high s NoArguments = omega arith
count_high s (MoreArguments a rest) = let more = count_high s rest in omega (arith, more)

same_height : (d : ℕ) → d ≡ d + 0
same_height d = omega arith

none_between : (i : Sections) (from to : ℕ) → Between i from to nothing → to ≡ from
unfolding nothing
none_between i from to h = omega (arith, h.ends)

-- without any
pub alone_works : QuietStays → ExpressionsAreTyped → (v : Visible) (d : ℕ) (operation : Operation) (first : Identifier) (selectors : SelectorTrees)
    → ((i : Sections) (g : Package) → AlwaysNames i (library_of g) (Sees g v) first selectors NoSelectors operation []) → Changes (Suits v) operation d (d + 1)
    → Works v d 1 (tree.Named first selectors) (nothing ▸ one (d + 0) operation)
alone_works quiet laws v d operation first selectors names changes =
    subst (λ n. Works v d 1 (tree.Named first selectors) (nothing ▸ one n operation)) (same_height d)
    (record {
      long = 0 + 1;
      few = omega arith;
      fits = fits_then (Suits v) 0 1 (d + peak v.scope (tree.Named first selectors)) d d (d + 1) nothing (one d operation)
          (fits_none (Suits v) (d + peak v.scope (tree.Named first selectors)) d)
          (fits_one (Suits v) (d + peak v.scope (tree.Named first selectors)) d (d + 1) operation (omega arith) changes);
      computes = λ i from to h g.
          let both = both_stand i from to nothing (one d operation) h in
          let it = one_stands i both.mid to d operation both.second in
          let from_is = none_between i from both.mid both.first in
          subst (λ n. Computes i (library_of g) (Sees g v) from n (tree.Named first selectors)) (let e : suc from ≡ to = omega (arith, from_is, it.ends) in e)
          (computes_call_alone quiet i (library_of g) (Sees g v) from operation first selectors (names i g) (passed_well laws v [] NoArguments tt i g)
          (subst (λ n. At i n operation) from_is (d, it.there)));
    })

module _ (quiet : QuietStays) (laws : ExpressionsAreTyped) (needless : ChecksAreSpared) (every : AllValuesLie) (v : Visible) (sound : SoundScope v.scope)
    (f : Callee) (profile : Profile) (profiled : callee_profile v.scope f ≡ Some profile) (place : ℕ) where
  module _ (a : ArgumentTrees) (unbroken : selectors_faults v.scope place (standing.Callee f) (MoreSelectors (Arguments a) NoSelectors) ≡ []) where
    each_part : part_rule v.scope place (standing.Callee f) (Arguments a) ++ arguments_faults v.scope (standing.Callee f) 0 a ≡ []
    each_part = front_empty _ (end_rule v.scope place (select v.scope (standing.Callee f) (Arguments a))) unbroken

    as_many : count a ≡ length profile.formals
    as_many =
        one_count place (count a) (length profile.formals)
        (ap (λ o. count_rule place (count a) (length (profile_formals o))) (sym profiled)
        ∙ front_empty _ (arguments_faults v.scope (standing.Callee f) 0 a) each_part)

    pub with_works : (d : ℕ) (operation : Operation) (first : Identifier) (selectors : SelectorTrees) → AreIn profile.formals
        → are_passable v.scope profile.formals ≡ true → ArgumentsWork v a
        → ((i : Sections) (g : Package) → AlwaysNames i (library_of g) (Sees g v) first selectors (MoreSelectors (Arguments a) NoSelectors) operation
        (map parameter_subtype profile.formals))
        → ((high : d + count a ≡ d + total (words_of v.scope) (map parameter_subtype profile.formals)) → Changes (Suits v) operation (d + count a) (d + 1))
        → arguments_size a + 1 ≤ expr_size (tree.Named first selectors)
        → arguments_peak v.scope a ≤ peak v.scope (tree.Named first selectors)
        → Works v d 1 (tree.Named first selectors) (arguments_code v d profile.formals a ▸ one (d + count a) operation)
    with_works d operation first selectors ins passable works names changes larger low =
        let many = as_many in
        let same = passable_words v.scope profile.formals passable in
        let high = count_high v.scope a in
        let it = passed_fit quiet laws needless every v sound f profile profiled 0 d (d + count a) profile.formals a
        (λ n. (let e : 0 + n ≡ n = omega arith in ap (slice_get profile.formals) e)) (omega (arith, many)) many ins passable
        (back_empty (part_rule v.scope place (standing.Callee f) (Arguments a)) (arguments_faults v.scope (standing.Callee f) 0 a) each_part) works in
        call_works quiet v d (d + count a) operation first selectors a (map parameter_subtype profile.formals) _ it.works names
        (passed_well laws v (map parameter_subtype profile.formals) a it.fit) (changes (omega (arith, many, same))) larger (omega (arith, low)) (omega (arith, high, low))
