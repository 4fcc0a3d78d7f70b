-- Every world of a run has its values in their subtypes, where the start has: by the steps of its tasks, and what the end of an action makes of two of them.
use Rattle.std.proofs.Common.{◌≡◌, ◌≢◌, ◌-◌, ℕ, zero, suc, List, [], ◌∷◌, ◌++◌, length, map, Bool, true, false, cond, Option, Some, None, inl, inr, refl, sym, ap, ◌∙◌, subst}
use Rattle.std.specs.Prelude.{nat_lt, slice_get}
use Rattle.expr_soundness.specs.base.specs.declared.schedule.ScheduleLine.{ScheduleLine}
use Rattle.kernel.specs.State.{Action, Kernel, Outcome, Reads, Serves, Writes, put}
use Rattle.kernel.specs.Effects.{Breaks, Delays, Dies, Effect, Ending, Ends, Finishes, HandsBack, Opens, Queues, Quiet, Says, TakesOver, Views, ending_of, service}
use Rattle.kernel.specs.Invariant.{HasAction, ServesCall}
use Rattle.kernel.specs.PutLaws.{by_put, put_other}
use Rattle.kernel.specs.Worlds.{Local, Tasks, World, among, ending, is_handler_over, reached, run, solo_of, step, step_of}
use Rattle.expr_soundness.specs.Lying.{ObjectsLie}
use Rattle.expr_soundness.specs.ada_tree.specs.declared.program.MainStatement.{MainStatement}
use Rattle.expr_soundness.specs.ada_tree.specs.StatementTree.{DeclarationTree}
use Rattle.types.specs.Scopes.{Scope}
use Rattle.step_soundness.specs.stmt_rules.specs.declared.around.Around.{Around}
use Rattle.expr_soundness.specs.meaning.specs.Programs.{Attached, Duty, OfBody, OfMain, Procedure, Program, Task, handler_at}
use Rattle.expr_soundness.specs.meaning.specs.Works.{Activation, Copies, Declares, DeclaresParameter, Does, DoesMain, EndsAction, EndsCall, EndsHandler, EndsServed, GivenToCaller, Goes, Handles, Item, Queued, Raised, Raising, Repeats, RepeatsFor, RepeatsWhile, Results, Sequence, Store, TaskWork, Work}
use Rattle.expr_soundness.specs.meaning.specs.Calls.{bound, is_open, procedure_among, results}
use Rattle.expr_soundness.specs.meaning.specs.Source.{SourceWorld, duty_items, handler_work, initial_work, items_work, procedure_work, run_of, start_of, task_items, task_work}
use Rattle.expr_soundness.specs.meaning.specs.SourceSteps.{completion_of, here_of, items_of, program_behaviour, received, serves, work_step}
use Rattle.step_soundness.specs.Fitting.{result_types}
use Rattle.step_soundness.specs.Opened.{ForCall, ForCaller, Opened}
use Rattle.step_soundness.specs.Judged.{IsQueuedWork, Waiting}
use Rattle.step_soundness.specs.Holding.{IsSoundTask}
use Rattle.step_soundness.specs.Laws.{Matches, Premises}
use Rattle.step_soundness.specs.Starting.{IsSoundHandler, IsSoundStart}
use Rattle.step_soundness.specs.InSubtypes.{CompletionLies, GivenLies, IsBegun, ItemsLie, PartsLie, StepLies, StepsKeepSubtypes, TaskLies, WorkLies}
use Rattle.step_soundness.proofs.Lookups.{same_some}
use Rattle.step_soundness.proofs.LyingSteps.{body_lies, copying_lies, types_of_targets}
use Rattle.program_soundness.specs.SoundWorlds.{IsSoundWorld, awaited}
use Rattle.program_soundness.specs.RunLaws.{RunsAreSound}
use Rattle.program_soundness.specs.LyingWorlds.{RunsKeepSubtypes, StartLies, WorldLies}
use Rattle.program_soundness.proofs.Awaiting.{awaited_if, runner_awaits}
use Rattle.program_soundness.proofs.Entries.{opened_of}
use Rattle.program_soundness.proofs.Handling.{runner_matches}

-- ---- what the end of an action makes of two tasks

module _ (s : Scope) where
  items_lie : (w : Work) → WorkLies s w → ItemsLie s (items_of w)
  items_lie (Goes items) l = l
  items_lie (Copies vs xs items) l = l.1
  items_lie (Raising x items) l = l

  completion_lies : (w : Work) → WorkLies s w → CompletionLies s (completion_of w)
  completion_lies (Goes items) l = tt
  completion_lies (Copies vs xs items) l = l.0
  completion_lies (Raising x items) l = tt

  -- a body that is run for a queued caller
  serves_lies : (o : ℕ) (w : Work) (t : TaskWork) → WorkLies s w → TaskLies s t → TaskLies s (serves o w t)
  serves_lies o (Goes (Queued q vs xs ∷ items)) t l k =
      record {
        work = body_lies s q (EndsServed o (results q.parameters) (completion_of t.work)) (items_of t.work) l.0.1 (completion_lies t.work k.work)
            (items_lie t.work k.work);
        own = l.0.0;
        callers = (k.own, k.callers);
      }
  serves_lies o (Goes []) t l k = k
  serves_lies o (Goes (Declares d ∷ items)) t l k = k
  serves_lies o (Goes (DeclaresParameter f ∷ items)) t l k = k
  serves_lies o (Goes (Sequence body all ∷ items)) t l k = k
  serves_lies o (Goes (Does x ∷ items)) t l k = k
  serves_lies o (Goes (DoesMain x ∷ items)) t l k = k
  serves_lies o (Goes (Repeats body ∷ items)) t l k = k
  serves_lies o (Goes (RepeatsWhile e body ∷ items)) t l k = k
  serves_lies o (Goes (RepeatsFor parameter reversed now last body ∷ items)) t l k = k
  serves_lies o (Goes (Handles all ∷ items)) t l k = k
  serves_lies o (Goes (EndsHandler x ∷ items)) t l k = k
  serves_lies o (Goes (EndsCall names opened xs ∷ items)) t l k = k
  serves_lies o (Goes (EndsAction object completion ∷ items)) t l k = k
  serves_lies o (Goes (EndsServed object names completion ∷ items)) t l k = k
  serves_lies o (Copies vs xs items) t l k = k
  serves_lies o (Raising x items) t l k = k

module _ (program : Program) where
  -- what a served caller is given lies in the types of the results of the entry in whose call it waits
  received_lies : (o : ℕ) (own : Activation) (s : Scope) (outer : List Waiting) (a : Around) (g : GivenToCaller) (w : Work) (opened : List Opened)
      → IsQueuedWork program o own s outer a w → GivenLies program (ForCaller o ∷ opened) (Some g)
      → WorkLies program.scope w → WorkLies program.scope (received g w)
  received_lies o own s outer a (Results vs) (Goes (Queued q given xs ∷ items)) opened is of l =
      let same : of.0 ≡ q = same_some of.0 q (sym of.1 ∙ is.0.only) in
      let types = types_of_targets program own (result_types q.parameters) xs is.0.targets in
      copying_lies program.scope vs xs items
      (subst (λ ts. PartsLie program.scope ts vs) (sym types) (subst (λ (p : Procedure). PartsLie program.scope (result_types p.parameters) vs) same of.2))
      l.1
  received_lies o own s outer a (Raised x) (Goes (Queued q given xs ∷ items)) opened is of l = l.1
  received_lies o own s outer a g w opened is of l = absurd is

-- ---- a step

module _ (steps : StepsKeepSubtypes) (program : Program) (schedule : List ScheduleLine) (laws : Premises program) (start : StartLies program)
    (first : (u : ℕ) → TaskLies program.scope (initial_work program u)) where
  abbrev Lies : TaskWork → Type 0
  Lies t = TaskLies program.scope t

  module _ (k : Kernel) (d : Tasks Store TaskWork) (t : ℕ) (runs : k.running ≡ Some t) (world : IsSoundWorld program (record { kernel = k; rest = d }))
      (lies : WorldLies program (record { kernel = k; rest = d })) where
    abbrev before : ℕ → Bool
    before = is_open program d.memory

    awake : awaited (k.place t) ≡ None
    awake = runner_awaits before k world.kernel t runs

    -- what the task has to do after its step: a handler that is over what its next start needs
    abbrev mine : TaskWork
    mine =
        let x = work_step (here_of program schedule k t (solo_of t d)) (d.tasks t).work in
        cond (is_handler_over k t x.effect) (initial_work program t) x.solo.task

    abbrev after : ℕ → TaskWork
    after = put t mine d.tasks

    abbrev given : Option GivenToCaller
    given = (work_step (here_of program schedule k t (solo_of t d)) (d.tasks t).work).given

    stepped : StepLies program (opened_of (d.tasks t)) (work_step (here_of program schedule k t (solo_of t d)) (d.tasks t).work)
    stepped =
        steps program schedule k t (solo_of t d) laws start.begun world.store
        (subst (λ w. IsSoundTask program d.memory w (d.tasks t)) awake (world.tasks t)) lies.store (lies.tasks t)

    mine_lies : (b : Bool) (x : TaskWork) → Lies x → Lies (cond b (initial_work program t) x)
    mine_lies true x l = first t
    mine_lies false x l = l

    own_lies : (u : ℕ) → Lies (after u)
    own_lies u =
        let x = work_step (here_of program schedule k t (solo_of t d)) (d.tasks t).work in
        by_put Lies t u mine d.tasks (λ e. mine_lies (is_handler_over k t x.effect) x.solo.task stepped.task) (λ ne. lies.tasks u)

    abbrev tasks_after : Ending → Option GivenToCaller → ℕ → TaskWork
    tasks_after e g = reached (program_behaviour program schedule) t e g after

    -- another task is waiting there
    elsewhere : (o u : ℕ) → awaited (k.place u) ≡ Some o → u ≢ t
    elsewhere o u waits e =
        let i : awaited (k.place t) ≡ Some o = ap (λ v. awaited (k.place v)) (sym e) ∙ waits in
        let j : awaited (k.place t) ≡ None = awake in
        cc

    takes_lies : (o c : ℕ) (g : Option GivenToCaller) (u : ℕ) → Lies (tasks_after (TakesOver o c) g u)
    takes_lies o c g u =
        by_put Lies c u (after c) (put t (serves o (after c).work (after t)) after) (λ e. own_lies c)
        (λ ne. by_put Lies t u (serves o (after c).work (after t)) after
        (λ e. serves_lies program.scope o (after c).work (after t) (own_lies c).work (own_lies t)) (λ nt. own_lies u))

    given_lies : (o c : ℕ) (outer : List Opened) (g : GivenToCaller) → awaited (k.place c) ≡ Some o
        → GivenLies program (ForCaller o ∷ outer) (Some g) → (u : ℕ) → Lies (tasks_after (HandsBack c) (Some g) u)
    given_lies o c outer g waits of u =
        by_put Lies c u (record (after c) { work = received g (after c).work }) after
        (λ e. subst (λ w. Lies (record w { work = received g w.work }))
        (sym (put_other t c mine d.tasks (elsewhere o c waits))) caller)
        (λ ne. own_lies u)
      where
        sound : IsSoundTask program d.memory (Some o) (d.tasks c)
        sound = subst (λ w. IsSoundTask program d.memory w (d.tasks c)) waits (world.tasks c)

        caller : Lies (record (d.tasks c) { work = received g (d.tasks c).work })
        caller =
            record {
              work = received_lies program o (d.tasks c).own sound.scope sound.outer sound.around g (d.tasks c).work outer sound.work of (lies.tasks c).work;
              own = (lies.tasks c).own;
              callers = (lies.tasks c).callers;
            }

    hands_lies : (o c : ℕ) (outer : List Opened) (g : Option GivenToCaller) → awaited (k.place c) ≡ Some o
        → GivenLies program (ForCaller o ∷ outer) g → (u : ℕ) → Lies (tasks_after (HandsBack c) g u)
    hands_lies o c outer None waits of u = own_lies u
    hands_lies o c outer (Some g) waits of u = given_lies o c outer g waits of u

    serviced_lies : (b : Bool) (o : ℕ) (q : Option ℕ) (g : Option GivenToCaller) (u : ℕ) → Lies (tasks_after (service b o q) g u)
    serviced_lies false o q g u = own_lies u
    serviced_lies true o None g u = own_lies u
    serviced_lies true o (Some c) g u = takes_lies o c g u

    served_lies : (o c : ℕ) (outer : List Action) (opened : List Opened) (g : Option GivenToCaller) → k.actions t ≡ Serves o c ∷ outer
        → Matches (Serves o c ∷ outer) opened → GivenLies program opened g → (u : ℕ) → Lies (tasks_after (HandsBack c) g u)
    served_lies o c outer [] g acts match of u = absurd match
    served_lies o c outer (ForCall p ∷ opened) g acts match of u = absurd match
    served_lies o c outer (ForCaller p ∷ opened) g acts match of u =
        hands_lies o c opened g
        (awaited_if before k world.kernel c o (inr (t, subst (HasAction (ServesCall o c)) (sym acts) (inl (refl, refl)))))
        (subst (λ y. GivenLies program (ForCaller y ∷ opened) g) (sym match.0) of) u

    ended_lies : (b : Bool) (actions : List Action) → k.actions t ≡ actions → (u : ℕ) → Lies (tasks_after (ending_of b actions k.queued) given u)
    ended_lies b [] acts u = own_lies u
    ended_lies b (Reads o ∷ outer) acts u = own_lies u
    ended_lies b (Writes o ∷ outer) acts u = serviced_lies b o (k.queued o) given u
    ended_lies b (Serves o c ∷ outer) acts u =
        served_lies o c outer (opened_of (d.tasks t)) given acts (subst (λ l. Matches l (opened_of (d.tasks t))) acts (runner_matches program (record { kernel = k; rest = d }) world t runs)) stepped.given u

    effect_lies : (e : Effect) (u : ℕ) → Lies (tasks_after (ending k t e) given u)
    effect_lies (Ends b) u = ended_lies b (k.actions t) refl u
    effect_lies Quiet u = own_lies u
    effect_lies (Says label value) u = own_lies u
    effect_lies (Delays until) u = own_lies u
    effect_lies (Opens o) u = own_lies u
    effect_lies (Views o) u = own_lies u
    effect_lies (Queues o) u = own_lies u
    effect_lies Finishes u = own_lies u
    effect_lies (Dies y) u = own_lies u
    effect_lies Breaks u = own_lies u

  abbrev behaviour : Local (Tasks Store TaskWork)
  behaviour = among (program_behaviour program schedule)

  step_lies : (k : Kernel) (d : Tasks Store TaskWork) (o : Option Outcome) (r : Option ℕ) → k.running ≡ r
      → IsSoundWorld program (record { kernel = k; rest = d })
      → WorldLies program (record { kernel = k; rest = d })
      → WorldLies program (step_of behaviour k d o r)
  step_lies k d (Some o) r runs world lies = lies
  step_lies k d None None runs world lies = lies
  step_lies k d None (Some t) runs world lies =
      record {
        store = (stepped k d t runs world lies).store;
        tasks = effect_lies k d t runs world lies (work_step (here_of program schedule k t (solo_of t d)) (d.tasks t).work).effect;
      }

-- ---- runs

duty_lies : (s : Scope) (ds : List DeclarationTree) (items : List Item) → ItemsLie s items → ItemsLie s (map Declares ds ++ items)
duty_lies s [] items l = l
duty_lies s (d ∷ ds) items l = (tt, duty_lies s ds items l)

main_lies : (s : Scope) (xs : List MainStatement) → ItemsLie s (map DoesMain xs)
main_lies s [] = tt
main_lies s (x ∷ xs) = (tt, main_lies s xs)

task_lies : (s : Scope) (t : Option Task) → ItemsLie s (task_items t)
task_lies s None = tt
task_lies s (Some t) = by_duty t.duty
  where
    by_duty : (d : Duty) → ItemsLie s (duty_items d)
    by_duty (OfBody b) = duty_lies s b.declarations (Sequence b.statements b.handlers ∷ []) (tt, tt)
    by_duty (OfMain xs) = main_lies s xs

-- a handler has no parameters, and its body begins in their subtypes
procedure_lies : (program : Program) → IsBegun program → (a : Attached) → IsSoundHandler program a → TaskLies program.scope (procedure_work a.object (procedure_among program.procedures (Some a.object) a.name))
procedure_lies program begun a h =
    subst (λ o. TaskLies program.scope (procedure_work a.object o)) (sym h.is)
    (record {
      work = body_lies program.scope h.procedure (EndsCall [] (Some a.object) []) [] (begun.procedures (Some a.object) a.name h.procedure h.is) tt tt;
      own = subst (λ ps. ObjectsLie program.scope (bound ps [])) (sym h.plain) tt;
      callers = (tt, tt);
    })

none_lies : (s : Scope) (items : List Item) → ItemsLie s items → TaskLies s (items_work items)
none_lies s items l = record { work = l; own = tt; callers = tt }

pub initial_lies : (program : Program) → IsSoundStart program → IsBegun program → (u : ℕ) → TaskLies program.scope (initial_work program u)
initial_lies program start begun u = by_number (nat_lt u (length program.tasks))
  where
    by_handler : (o : Option Attached) → handler_at (u - length program.tasks) program.handlers ≡ o → TaskLies program.scope (handler_work program o)
    by_handler None e = none_lies program.scope [] tt
    by_handler (Some a) e = procedure_lies program begun a (start.handlers (u - length program.tasks) a e)

    by_number : (b : Bool)
        → TaskLies program.scope (cond b (task_work program u) (handler_work program (handler_at (u - length program.tasks) program.handlers)))
    by_number true = none_lies program.scope (task_items (slice_get program.tasks u)) (task_lies program.scope (slice_get program.tasks u))
    by_number false = by_handler (handler_at (u - length program.tasks) program.handlers) refl

last_step : {D : Type 0} (f : Local D) (n : ℕ) (w : World D) → run f (suc n) w ≡ step f (run f n w)
last_step f zero w = refl
last_step f (suc n) w = last_step f n (step f w)

pub runs_keep_subtypes : StepsKeepSubtypes → RunsAreSound → ((program : Program) → IsSoundStart program → Premises program) → RunsKeepSubtypes
runs_keep_subtypes steps runs premises program schedule zero sound start =
    record { store = start.store; tasks = initial_lies program sound start.begun }
runs_keep_subtypes steps runs premises program schedule (suc n) sound start =
    subst (WorldLies program) (sym (last_step (among (program_behaviour program schedule)) n (start_of program schedule)))
    (by_world (run_of program schedule n) (runs program schedule n sound) (runs_keep_subtypes steps runs premises program schedule n sound start))
  where
    by_world : (w : SourceWorld) → IsSoundWorld program w → WorldLies program w → WorldLies program (step (among (program_behaviour program schedule)) w)
    by_world w world lies =
        step_lies steps program schedule (premises program sound) start (initial_lies program sound start.begun) w.kernel w.rest w.kernel.outcome w.kernel.running refl world lies
