-- What the steps of a run take is there: by what holds of each world that a run of an accepted program comes to.
use Rattle.std.proofs.Common.{◌≡◌, ◌<◌, ◌+◌, ℕ, suc, List, [], ◌∷◌, ◌++◌, drop, length, length-append, map, Bool, true, false, cond, not, Option, Some, None, refl, sym, ap, ◌∙◌, subst, arith}
use Rattle.std.specs.Prelude.{nat_lt}
use Rattle.base.specs.declared.schedule.ScheduleLine.{ScheduleLine}
use Rattle.ada_tree.specs.declared.declaration.Mode.{Mode}
use Rattle.ada_tree.specs.declared.declaration.Mode.TheVariants as mode
use Rattle.ada_tree.specs.ExpressionTree.{ArgumentTree, MoreArguments, NameTree, NoArguments, Text}
use Rattle.ada_tree.specs.ExpressionTree as tree
use Rattle.ada_tree.specs.ProgramTree.{ProgramTree}
use Rattle.ada_tree.specs.StatementTree.{Assignment, Exit}
use Rattle.types.specs.declared.entity.Subtype.{Subtype}
use Rattle.types.specs.Evaluating.{passed, val}
use Rattle.types.specs.Evaluations.{Gives, Meaningless, Raises, Val, and_then}
use Rattle.types.specs.Places.{Place, object_of}
use Rattle.types.specs.Scopes.{Scope}
use Rattle.types.specs.Standings.{standing_of}
use Rattle.types.specs.Statics.{static_place}
use Rattle.types.specs.Values.{Value}
use Rattle.expr_soundness.specs.expr_rules.specs.ExpressionRules.{faults_of, target_faults}
use Rattle.expr_soundness.specs.expr_rules.proofs.TypedLaw.{front_empty, unbroken}
use Rattle.program_soundness.specs.stmt_rules.specs.declared.around.Around.{Around}
use Rattle.program_soundness.specs.stmt_rules.specs.SimpleRules.{assigned_wanted, exit_rule, optional_condition_faults}
use Rattle.legality.specs.ProgramRules.{IsLegal}
use Rattle.program_soundness.specs.ravenscar.specs.ProgramRules.{IsRestricted}
use Rattle.expr_soundness.specs.Answers.{FunctionsAreSound}
use Rattle.expr_soundness.specs.Variables.{NamesTarget, part_in, part_subtype}
use Rattle.expr_soundness.specs.meaning.specs.Calls.{Actuals, actual, actuals, bound, copied_both, copied_in, copied_out, is_in, is_out, results, results_in, value_or_nothing, with_actuals, with_first, with_value_of}
use Rattle.expr_soundness.specs.meaning.specs.Programs.{Parameter, Program, program_of}
use Rattle.expr_soundness.specs.meaning.specs.Source.{SourceWorld, source}
use Rattle.expr_soundness.specs.meaning.specs.Targets.{named_target, objects_of, target, target_value, value_in}
use Rattle.expr_soundness.specs.meaning.specs.Works.{Activation, Completed, Completion, Copies, Does, DoesMain, Element, EndsAction, EndsCall, EndsHandler, EndsServed, Field, Goes, Handles, Home, InActivation, InObject, InPackage, Item, Part, Pending, Queued, Raising, Repeats, RepeatsFor, RepeatsWhile, Store, Target, Work}
use Rattle.base.specs.declared.faults.TheConstants.{MISPLACED_STATEMENT}
use Rattle.expr_soundness.proofs.Expressions.{not_false}
use Rattle.expr_soundness.proofs.Parts.{subtype_values}
use Rattle.expr_soundness.specs.meaning.specs.SourceSteps.{items_of}
use Rattle.program_soundness.specs.BodyLaws.{IsSoundMemory}
use Rattle.program_soundness.specs.RunLaws.{RunsAreSound}
use Rattle.program_soundness.specs.SoundWorlds.{IsSoundWorld, awaited}
use Rattle.program_soundness.specs.step_soundness.specs.Fitting.{FitsScope, result_types, taken_types}
use Rattle.program_soundness.specs.step_soundness.specs.Holding.{IsSoundStore, IsSoundTask, inside, waiting_activation}
use Rattle.program_soundness.specs.step_soundness.specs.Judged.{AreResults, IsCompletion, IsQueuedWork, IsReady, IsWorkOf, Judged, Leaves, Waiting}
use Rattle.program_soundness.specs.step_soundness.specs.Laws.{Premises}
use Rattle.program_soundness.specs.step_soundness.specs.Objects.{AreOf, AreSoundObjects, AreTargets, IsTarget, PartOf, first_store, subtype_in}
use Rattle.program_soundness.proofs.Agreed.{object_by, sound_object}
use Rattle.package_code.proofs.InFront.{LawsOfNames}
use Rattle.source_laws.specs.MeantRuns.{ActualsFit, AreCopied, AreThere, HasAll, HasWhatTheNextTakes, IsAwaitedAt, IsCopied, IsInLoop, IsThere, IsWaitingCall, RunsHaveAll, WorkHasAll}
use Rattle.source_laws.proofs.MeantBarriers.{barrier_truth}

-- ---- lengths of lists that go side by side

values_counted : (s : Scope) (ns : List ℕ) (vs : List Value) → AreOf s ns vs → length vs ≡ length ns
values_counted s [] [] h = refl
values_counted s (n ∷ ns) (v ∷ vs) h = ap suc (values_counted s ns vs h.1)
values_counted s [] (v ∷ vs) h = absurd h
values_counted s (n ∷ ns) [] h = absurd h

targets_counted : (program : Program) (a : Activation) (ns : List ℕ) (xs : List Target) → AreTargets program a ns xs → length xs ≡ length ns
targets_counted program a [] [] h = refl
targets_counted program a (n ∷ ns) (x ∷ xs) h = ap suc (targets_counted program a ns xs h.2)
targets_counted program a [] (x ∷ xs) h = absurd h
targets_counted program a (n ∷ ns) [] h = absurd h

names_counted : (s : Scope) (ns : List ℕ) (names : List (List ℕ)) → AreResults s ns names → length names ≡ length ns
names_counted s [] [] h = refl
names_counted s (n ∷ ns) (name ∷ names) h = ap suc (names_counted s ns names h.1)
names_counted s [] (name ∷ names) h = absurd h
names_counted s (n ∷ ns) [] h = absurd h

-- the names of parameters that are copied back, and their types
results_counted : (fs : List Parameter) → length (results fs) ≡ length (result_types fs)
results_counted [] = refl
results_counted (f ∷ fs) = by_mode (is_in f.mode) (results_counted fs)
  where
    by_mode : (b : Bool) → length (results fs) ≡ length (result_types fs)
        → length (cond b (results fs) (f.name ∷ results fs)) ≡ length (cond b (result_types fs) (f.subtype.type_number ∷ result_types fs))
    by_mode true rest = rest
    by_mode false rest = ap suc rest

-- ---- actual parameters

then_gives : {A B : Type 0} (v : Val A) (f : A → Val B) (b : B) → and_then v f ≡ Gives b → (a : A) × (v ≡ Gives a) × (f a ≡ Gives b)
then_gives (Gives a) f b h = (a, refl, h)
then_gives (Raises x) f b h = cc
then_gives Meaningless f b h = cc

gives_same : {A : Type 0} (a b : A) → Gives a ≡ Gives b → a ≡ b
gives_same {A} a b h = let read : Val A → A = λ v. elim v [ Gives x ↦ x | Raises x ↦ a | Meaningless ↦ a ] in ap read h

-- how many values are copied in, and how many targets copied back to, for a parameter of this mode
abbrev taken_by : Mode → ℕ
taken_by m = cond (is_out m) 0 1

abbrev given_by : Mode → ℕ
given_by m = cond (is_in m) 0 1

record FitsMode (m : Mode) (x : Actuals) : Type 0 where
  values : length x.values ≡ taken_by m
  targets : length x.targets ≡ given_by m

same_fits : (o : Mode) (y one : Actuals) → Gives y ≡ Gives one → FitsMode o y → FitsMode o one
same_fits o y one h = subst (FitsMode o) (gives_same y one h)

one_fits : (place : Place) (m : Store) (a : Activation) (f : Parameter) (x : ArgumentTree) (one : Actuals) → actual place m a f x ≡ Gives one
    → FitsMode f.mode one
one_fits place m a f (Text label at) one h = cc
one_fits place m a f (tree.Value e) one h = by_mode f.mode h
  where
    by_mode : (o : Mode) → elim o [
      | mode.In ↦ and_then (and_then (val place e) (passed f.subtype)) copied_in
      | mode.Out ↦ and_then (named_target place e) copied_out
      | mode.InOut ↦ and_then (named_target place e) (λ x. and_then (and_then (value_or_nothing (target_value x m a)) (passed f.subtype)) (copied_both x))
    ] ≡ Gives one → FitsMode o one
    by_mode mode.In k =
        let v = then_gives (and_then (val place e) (passed f.subtype)) copied_in one k in
        same_fits mode.In _ one v.2 (record { values = refl; targets = refl })
    by_mode mode.Out k =
        let x = then_gives (named_target place e) copied_out one k in same_fits mode.Out _ one x.2 (record { values = refl; targets = refl })
    by_mode mode.InOut k =
        let x = then_gives (named_target place e) (λ y. and_then (and_then (value_or_nothing (target_value y m a)) (passed f.subtype)) (copied_both y)) one k in
        let v = then_gives (and_then (value_or_nothing (target_value x.0 m a)) (passed f.subtype)) (copied_both x.0) one x.2 in
        same_fits mode.InOut _ one v.2 (record { values = refl; targets = refl })

-- each parameter that is copied in is bound to its value
all_bound : (fs : List Parameter) (vs : List Value) → length vs ≡ length (taken_types fs) → length (bound fs vs) ≡ length vs
all_bound [] [] h = refl
all_bound [] (v ∷ vs) h = cc
all_bound (f ∷ fs) vs h = by_mode (is_out f.mode) vs h (λ us. all_bound fs us)
  where
    by_mode : (b : Bool) (us : List Value) → length us ≡ length (cond b (taken_types fs) (f.subtype.type_number ∷ taken_types fs))
        → ((ws : List Value) → length ws ≡ length (taken_types fs) → length (bound fs ws) ≡ length ws)
        → length (cond b (bound fs us) (with_first f us (bound fs (drop 1 us)))) ≡ length us
    by_mode true us k rest = rest us k
    by_mode false [] k rest = cc
    by_mode false (u ∷ us) k rest = ap suc (rest us (omega (arith, k)))

-- as many values and targets as parameters take
pub actuals_fit : ActualsFit
actuals_fit place m a [] NoArguments x h =
    let same = gives_same _ x h in
    record {
      values = ap (λ (z : Actuals). length z.values) (sym same);
      targets = ap (λ (z : Actuals). length z.targets) (sym same);
      bound_ = all_bound [] x.values (ap (λ (z : Actuals). length z.values) (sym same));
    }
actuals_fit place m a [] (MoreArguments y rest) x h = cc
actuals_fit place m a (f ∷ fs) NoArguments x h = cc
actuals_fit place m a (f ∷ fs) (MoreArguments y rest) x h =
    let one = then_gives (actual place m a f y) (λ z. and_then (actuals place m a fs rest) (with_actuals z)) x h in
    let more = then_gives (actuals place m a fs rest) (with_actuals one.0) x one.2 in
    let same = gives_same _ x more.2 in
    let first = one_fits place m a f y one.0 one.1 in
    let later = actuals_fit place m a fs rest more.0 more.1 in
    let values : length x.values ≡ length (taken_types (f ∷ fs)) =
    ap (λ (z : Actuals). length z.values) (sym same)
    ∙ joined one.0.values more.0.values (taken_by f.mode) (length (taken_types fs)) first.values later.values
    ∙ taken_more f.subtype.type_number (is_out f.mode) (taken_types fs) in
    record {
      values = values;
      targets = ap (λ (z : Actuals). length z.targets) (sym same)
          ∙ joined one.0.targets more.0.targets (given_by f.mode) (length (results fs)) first.targets later.targets
          ∙ taken_more f.name (is_in f.mode) (results fs);
      bound_ = all_bound (f ∷ fs) x.values values;
    }
  where
    joined : {A : Type 0} (xs ys : List A) (m n : ℕ) → length xs ≡ m → length ys ≡ n → length (xs ++ ys) ≡ m + n
    joined xs ys m n h k = omega (arith, length-append xs ys, h, k)

    taken_more : {A : Type 0} (z : A) (b : Bool) (zs : List A) → cond b 0 1 + length zs ≡ length (cond b zs (z ∷ zs))
    taken_more z true zs = omega arith
    taken_more z false zs = omega arith

-- ---- targets

below : (n m : ℕ) → n < m → nat_lt n m ≡ true
below n m h = grind (arith, h)

parts_there : (s : Scope) (parts : List Part) (t u : Subtype) → PartOf s t parts u → part_subtype s t parts ≡ Some u
parts_there s [] t u h = ap Some h
parts_there s (Element n ∷ parts) t u h =
    ap (λ o. elim o [ Some w ↦ part_subtype s w parts | None ↦ None ])
    (ap (λ o. part_in o (Element n)) h.3 ∙ ap (λ b. cond b (Some h.2) None) (below n h.1 h.4))
    ∙ parts_there s parts h.2 u h.5
parts_there s (Field name ∷ parts) t u h =
    ap (λ o. elim o [ Some w ↦ part_subtype s w parts | None ↦ None ]) (ap (λ o. part_in o (Field name)) h.2 ∙ h.3) ∙ parts_there s parts h.1 u h.4

module _ (program : Program) (laws : Premises program) (m : Store) (store : IsSoundStore program m) (own : Activation)
    (locals : AreSoundObjects program.scope own.locals) where
  -- the objects among which it stands now are those of the start, with values of their types
  abbrev AreSoundAt : Target → Home → Type 0
  AreSoundAt x home = AreSoundObjects program.scope (objects_of (record x { home = home }) m own)

  abbrev IsSameAt : Target → Home → Type 0
  IsSameAt x home =
      subtype_in (objects_of (record x { home = home }) m own) x.name ≡ subtype_in (objects_of (record x { home = home }) (first_store program) own) x.name

  sound_at : (x : Target) (home : Home) → AreSoundAt x home
  sound_at x InActivation = locals
  sound_at x InPackage = store.variables
  sound_at x (InObject o) = store.components o

  same_at : (x : Target) (home : Home) → IsSameAt x home
  same_at x InActivation = refl
  same_at x InPackage = store.same.variables x.name
  same_at x (InObject o) = store.same.components o x.name

  target_there : (x : Target) → IsTarget program own x → IsThere program m own x
  target_there x h =
      let objects = objects_of x m own in
      let y = object_by (object_of objects x.name) h.part.whole (same_at x x.home ∙ h.part.found) in
      let suited = sound_object program.scope objects x.name y.0 (sound_at x x.home) y.1 in
      let part = subst (λ t. part_subtype program.scope t x.parts ≡ Some x.subtype) (sym y.2)
      (parts_there program.scope x.parts h.part.whole x.subtype h.part.part) in
      let found = laws.targets.value program.scope y.0.subtype x.subtype x.parts y.0.value laws.sound part
      (subtype_values program.scope y.0.subtype y.0.value ∙ suited) in
      (found.value, ap (λ o. value_in o x.parts) y.1 ∙ found.is)

  targets_there : (ns : List ℕ) (xs : List Target) → AreTargets program own ns xs → AreThere program m own xs
  targets_there [] [] h = tt
  targets_there (n ∷ ns) (x ∷ xs) h = (target_there x h.1, targets_there ns xs h.2)
  targets_there [] (x ∷ xs) h = absurd h
  targets_there (n ∷ ns) [] h = absurd h

  copied : (types : List ℕ) (vs : List Value) (xs : List Target) → AreOf program.scope types vs → AreTargets program own types xs
      → AreCopied program m own vs xs
  copied types vs xs h k =
      record {
        matched = values_counted program.scope types vs h ∙ sym (targets_counted program own types xs k);
        targets = targets_there types xs k;
      }

  completed : (c : Completion) → IsCompletion program own c → IsCopied program m own c
  completed (Completed vs xs) h = copied h.0 vs xs h.1 h.2
  completed (Pending x) h = tt

  -- ---- results

  module _ (s : Scope) (fits : (p : Place) → FitsScope program s (inside program m own p)) where
    results_there : (ns : List ℕ) (names : List (List ℕ)) → AreResults s ns names → length (results_in own.locals names) ≡ length names
    results_there [] [] h = refl
    results_there (n ∷ ns) (name ∷ names) h =
        let one = h.0 in
        let found = (fits (static_place program.scope)).results name one.0 one.1 one.2 one.3 in
        let y = object_by (object_of own.locals name) one.1 found in
        ap (λ o. length (with_value_of o (results_in own.locals names))) y.1 ∙ ap suc (results_there ns names h.1)
    results_there [] (name ∷ names) h = absurd h
    results_there (n ∷ ns) [] h = absurd h

    -- ---- assignments

    functions_at : (p : Place) → FunctionsAreSound (inside program m own p)
    functions_at p = store.functions (record p { locals = own.locals; within = own.within })

    named_there : (name : NameTree) → target_faults s name.first name.selectors ≡ [] → (p : Place) (x : Target)
        → target (inside program m own p) name.first.name name.selectors ≡ Gives x → IsThere program m own x
    named_there name legal p x h =
        let named = laws.targets.named s (inside program m own p) m own (fits p).agrees (functions_at p) name.first name.selectors legal in
        let it = subst (NamesTarget s (standing_of s name.first name.selectors) m own) h named in
        let v = laws.targets.valued s x m own (fits p).agrees.sound it.target in (v.value, v.is)

    -- ---- loops

    in_loop_there : (u : Scope) (outer : List Waiting) (a : Around) (items : List Item) → a.in_loop ≡ true → Judged program u outer a items → IsInLoop items
    in_loop_there u [] a [] is h = (let never = sym is ∙ h.loop in cc)
    in_loop_there u (w ∷ outer) a [] is h = absurd h
    in_loop_there u outer a (Repeats body ∷ items) is h = tt
    in_loop_there u outer a (RepeatsWhile e body ∷ items) is h = tt
    in_loop_there u outer a (RepeatsFor parameter reversed now last body ∷ items) is h = tt
    in_loop_there u outer a (Does x ∷ items) is h = in_loop_there h.1 outer a items is h.3
    in_loop_there u outer a (DoesMain x ∷ items) is h = in_loop_there u outer a items is h.1
    in_loop_there u outer a (Handles all ∷ items) is h = in_loop_there h.1 outer a items is h.3
    in_loop_there u outer a (EndsHandler x ∷ items) is h = in_loop_there h.1 outer (record a { in_handler = h.2 }) items is h.4
    in_loop_there u [] a (EndsCall names opened xs ∷ items) is h = absurd h
    in_loop_there u (w ∷ outer) a (EndsCall names opened xs ∷ items) is h = (let never = sym is ∙ h.0.loop in cc)
    in_loop_there u [] a (EndsServed o names c ∷ items) is h = absurd h
    in_loop_there u (w ∷ outer) a (EndsServed o names c ∷ items) is h = (let never = sym is ∙ h.0.loop in cc)
    in_loop_there u outer a (i ∷ items) is h = absurd h

    -- ---- the next item

    ready : (outer : List Waiting) (a : Around) (items : List Item) → IsReady program own s outer a items → HasWhatTheNextTakes program m own items
    ready outer a [] h = tt
    ready outer a (Does (Assignment name e) ∷ items) h =
        named_there name (front_empty (target_faults s name.first name.selectors) (faults_of s (assigned_wanted s name) e) h.0.0)
    ready outer a (Does (Exit place condition) ∷ items) h =
        let looped = not_false a.in_loop (unbroken MISPLACED_STATEMENT place (not a.in_loop)
        (front_empty (exit_rule a place) (optional_condition_faults s condition) h.0.0)) in
        in_loop_there h.1 outer a items looped h.3
    ready [] a (EndsCall names opened xs ∷ items) h = absurd h
    ready (w ∷ outer) a (EndsCall names opened xs ∷ items) h =
        (results_there h.1 names h.2, names_counted s h.1 names h.2 ∙ sym (targets_counted program w.activation h.1 xs h.3))
    ready outer a (EndsAction o c ∷ items) h = completed c h.0
    ready [] a (EndsServed o names c ∷ items) h = absurd h
    ready (w ∷ outer) a (EndsServed o names c ∷ items) h =
        let q = h.1 in (
          results_there (result_types q.parameters) names h.3,
          q,
          h.2,
          names_counted s (result_types q.parameters) names h.3 ∙ sym
              (results_counted q.parameters),
        )
    ready outer a (i ∷ items) h = tt

    worked : (waits : Option ℕ) (outer : List Waiting) (a : Around) (work : Work) → IsWorkOf program waits own s outer a work → WorkHasAll program m own work
    worked None outer a (Goes items) h = ready outer a items h
    worked None outer a (Copies vs xs items) h = copied h.0 vs xs h.1 h.2
    worked None outer a (Raising x items) h = tt
    worked (Some o) outer a (Goes (Queued q vs xs ∷ items)) h = tt
    worked (Some o) outer a work h = absurd h

  -- ---- activations that wait

  module _ (callers : List Activation) where
    ended : (s : Scope) (outer : List Waiting) (a : Around) (items : List Item) → callers ≡ map waiting_activation outer → Judged program s outer a items
        → IsAwaitedAt callers items
    ended s [] a (EndsCall names opened xs ∷ items) is h = absurd h
    ended s (w ∷ outer) a (EndsCall names opened xs ∷ items) is h = (w.activation, map waiting_activation outer, is)
    ended s [] a (EndsServed o names c ∷ items) is h = absurd h
    ended s (w ∷ outer) a (EndsServed o names c ∷ items) is h = (w.activation, map waiting_activation outer, is)
    ended s outer a items is h = tt

    begun : (s : Scope) (outer : List Waiting) (a : Around) (items : List Item) → callers ≡ map waiting_activation outer → IsReady program own s outer a items
        → IsAwaitedAt callers items
    begun s outer a (EndsCall names opened xs ∷ items) is h = ended s outer a (EndsCall names opened xs ∷ items) is h
    begun s outer a (EndsServed o names c ∷ items) is h = ended s outer a (EndsServed o names c ∷ items) is h
    begun s outer a items is h = tt

    left : (s : Scope) (outer : List Waiting) (a : Around) (items : List Item) → callers ≡ map waiting_activation outer → Leaves program s outer a items
        → IsAwaitedAt callers items
    left s outer a (EndsCall names opened xs ∷ items) is h = ended h.0 outer a (EndsCall names opened xs ∷ items) is h.2
    left s outer a (EndsServed o names c ∷ items) is h = ended h.0 outer a (EndsServed o names c ∷ items) is h.2
    left s outer a items is h = tt

    awaited_there : (waits : Option ℕ) (s : Scope) (outer : List Waiting) (a : Around) (work : Work) → callers ≡ map waiting_activation outer
        → IsWorkOf program waits own s outer a work → IsAwaitedAt callers (items_of work)
    awaited_there None s outer a (Goes items) is h = begun s outer a items is h
    awaited_there None s outer a (Copies vs xs items) is h = ended s outer a items is h.3
    awaited_there None s outer a (Raising x items) is h = left s outer a items is h.1
    awaited_there (Some o) s outer a (Goes (Queued q vs xs ∷ items)) is h = tt
    awaited_there (Some o) s outer a work is h = absurd h

  waiting_call : (o : ℕ) (s : Scope) (outer : List Waiting) (a : Around) (work : Work) → IsQueuedWork program o own s outer a work
      → IsWaitingCall program o work
  waiting_call o s outer a (Goes (Queued q vs xs ∷ items)) h =
      record {
        entry = q;
        values = vs;
        targets = xs;
        items = items;
        is = refl;
        only = h.0.only;
        taken = values_counted program.scope (taken_types q.parameters) vs h.0.given;
        given = targets_counted program own (result_types q.parameters) xs h.0.targets ∙ sym (results_counted q.parameters);
      }
  waiting_call o s outer a work h = absurd h

-- ---- the whole

module _ (laws : LawsOfNames) (runs : RunsAreSound) (t : ProgramTree) (schedule : List ScheduleLine) (n : ℕ) (legal : IsLegal t)
    (restricted : IsRestricted t) where
  abbrev program_ : Program
  program_ = program_of t

  abbrev world : SourceWorld
  world = source t schedule n

  sound : IsSoundWorld program_ world
  sound = runs program_ schedule n (laws.starts t legal restricted)

  memory : IsSoundMemory program_ world.rest.memory
  memory = record { variables = sound.store.variables; components = sound.store.components; same = sound.store.same }

  waits : (u o : ℕ) → awaited (world.kernel.place u) ≡ Some o → IsWaitingCall program_ o (world.rest.tasks u).work
  waits u o is =
      let x = subst (λ a. IsSoundTask program_ world.rest.memory a (world.rest.tasks u)) is (sound.tasks u) in
      waiting_call program_ (laws.premises t legal) world.rest.memory sound.store (world.rest.tasks u).own x.own.locals o x.scope x.outer x.around
      (world.rest.tasks u).work x.work

  all_there : HasAll program_ world
  all_there =
      record {
        barriers = barrier_truth laws t legal restricted world.rest.memory memory;
        waiting = waits;
        works = λ u. let x = sound.tasks u in
            worked program_ (laws.premises t legal) world.rest.memory sound.store (world.rest.tasks u).own x.own.locals x.scope x.own.fits
            (awaited (world.kernel.place u)) x.outer x.around (world.rest.tasks u).work x.work;
        callers = λ u. let x = sound.tasks u in
            awaited_there program_ (laws.premises t legal) world.rest.memory sound.store (world.rest.tasks u).own x.own.locals (world.rest.tasks u).callers
            (awaited (world.kernel.place u)) x.scope x.outer x.around (world.rest.tasks u).work x.callers x.work;
      }

pub runs_have_all : LawsOfNames → RunsAreSound → RunsHaveAll
runs_have_all laws runs t schedule n legal restricted = all_there laws runs t schedule n legal restricted
