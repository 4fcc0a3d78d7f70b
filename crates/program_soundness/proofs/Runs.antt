-- Every world of a run is sound, where the start of the program is; so the outcome has a meaning.
use Rattle.std.proofs.Common.{◌≡◌, ◌≢◌, ◌<◌, ◌+◌, ◌-◌, ℕ, zero, suc, List, [], ◌∷◌, length, map, Bool, true, false, cond, Option, Some, None, inl, inr, refl, sym, ap, ◌∙◌, subst, arith}
use Rattle.std.proofs.lemmas.Bool.{le-ltb}
use Rattle.std.specs.Prelude.{slice_get}
use Rattle.expr_soundness.specs.base.specs.declared.schedule.ScheduleLine.{ScheduleLine}
use Rattle.kernel.specs.State.{Interrupt, Kernel, Outcome, Partition, Unhandled, Writes, actor, is_task}
use Rattle.kernel.specs.Interrupts.{interrupt_if, interrupts_of}
use Rattle.kernel.specs.Effects.{activated, begin, blank}
use Rattle.kernel.specs.Invariant.{AreAttached, HasAction, IsBarrierHeld, Kept, Passed, ServesCall}
use Rattle.kernel.specs.Laws.{BeginsKept, KeptByEvery, SettlesTo, StartSettles}
use Rattle.kernel.proofs.Left.{done_partition, done_pending}
use Rattle.kernel.specs.Worlds.{Tasks, among, run, solo_of, step, step_of}
use Rattle.expr_soundness.specs.ada_tree.specs.declared.program.MainStatement.{MainStatement}
use Rattle.types.specs.Laws.{InitialValuesHaveShape}
use Rattle.declaration_rules.specs.Laws.{NamesAreAdded}
use Rattle.expr_soundness.specs.Laws.{AgreementIsKept, CallsAreTyped}
use Rattle.expr_soundness.specs.Variables.{TargetsAreVariables}
use Rattle.expr_soundness.specs.meaning.specs.Programs.{Attached, Duty, OfBody, OfMain, Program, Task, handler_at, object_attached, program_interrupts, program_partition}
use Rattle.expr_soundness.specs.meaning.specs.Works.{DoesMain, EndsCall, Sequence, Store, TaskWork}
use Rattle.expr_soundness.specs.meaning.specs.Calls.{is_open}
use Rattle.expr_soundness.specs.meaning.specs.Source.{SourceWorld, duty_items, handler_work, initial_work, procedure_work, run_of, start_of, task_items, task_work}
use Rattle.expr_soundness.specs.meaning.specs.SourceSteps.{Here, SourceStepped, here_of, program_behaviour, work_step}
use Rattle.step_soundness.specs.Objects.{first_store}
use Rattle.step_soundness.specs.Opened.{opened_in}
use Rattle.step_soundness.specs.Holding.{IsSoundStep, IsSoundTask}
use Rattle.step_soundness.specs.Laws.{EffectsPass, Matches, Premises, StepsAreSound}
use Rattle.step_soundness.specs.Starting.{IsSoundStart}
use Rattle.step_soundness.proofs.Calling.{opened_body}
use Rattle.program_soundness.specs.SoundWorlds.{HandlersOpen, HasMeaning, IsIdle, OpensItsActions, IsSoundWorld, awaited}
use Rattle.program_soundness.specs.RunLaws.{RunsAreSound, RunsHaveMeaning}
use Rattle.program_soundness.proofs.Awaiting.{Awaits, awaits_before, awaits_of, none_if, runner_awaits}
use Rattle.program_soundness.proofs.Handling.{runner_busy, settled_handled, settled_linked}
use Rattle.program_soundness.proofs.Outcomes.{after_meant, settled_meant}
use Rattle.program_soundness.proofs.Entries.{opened_declared, opened_of}
use Rattle.program_soundness.proofs.Others.{IsStep, NextLaws}
use Rattle.program_soundness.proofs.Nexts.{next_sound}

-- what runs stand on
pub record RunLaws : Type 0 where
  pub begins : BeginsKept
  pub starts : StartSettles
  pub every : KeptByEvery
  pub next : NextLaws
  pub steps : StepsAreSound
  pub passes : EffectsPass
  pub typed : CallsAreTyped
  pub agreement : AgreementIsKept
  pub added : NamesAreAdded
  pub targets : TargetsAreVariables
  pub initial : InitialValuesHaveShape

-- ---- the start

record IsFresh (p : Partition) (interrupts : List Interrupt) (k : Kernel) : Type 0 where
  pub partition : k.partition ≡ p
  pub pending : k.pending ≡ interrupts
  pub queued : (o : ℕ) → k.queued o ≡ None
  pub actions : (t : ℕ) → k.actions t ≡ []
  pub outcome : k.outcome ≡ None

fresh : (n : ℕ) (p : Partition) (interrupts : List Interrupt) → IsFresh p interrupts (activated n (blank p interrupts))
fresh zero p interrupts = record { partition = refl; pending = refl; queued = λ o. refl; actions = λ t. refl; outcome = refl }
fresh (suc n) p interrupts =
    let is = fresh n p interrupts in
    record { partition = is.partition; pending = is.pending; queued = is.queued; actions = is.actions; outcome = is.outcome }

opened_statements : (xs : List MainStatement) → opened_in (map DoesMain xs) ≡ []
opened_statements [] = refl
opened_statements (x ∷ xs) = opened_statements xs

opened_duty : (d : Duty) → opened_in (duty_items d) ≡ []
opened_duty (OfBody b) = opened_declared b.declarations (Sequence b.statements b.handlers ∷ [])
opened_duty (OfMain xs) = opened_statements xs

opened_task : (t : Option Task) → opened_in (task_items t) ≡ []
opened_task (Some t) = opened_duty t.duty
opened_task None = refl

module _ (program : Program) (start : IsSoundStart program) where
  abbrev partition_ : Partition
  partition_ = program_partition program

  abbrev attached : ℕ → Option ℕ
  attached channel = object_attached (handler_at channel program.handlers)

  -- what the actor of a channel has to do
  handler_starts : (channel : ℕ) → initial_work program (actor partition_ channel) ≡ handler_work program (handler_at channel program.handlers)
  handler_starts channel =
      let n = length program.tasks in
      let channel_is : (n + channel) - n ≡ channel = omega arith in
      ap (λ b. cond b (task_work program (n + channel)) (handler_work program (handler_at ((n + channel) - n) program.handlers)))
      (le-ltb (n + channel) n (omega arith))
      ∙ ap (λ c. handler_work program (handler_at c program.handlers)) channel_is

  handler_matches : (channel : ℕ) (a : Attached) → handler_at channel program.handlers ≡ Some a
      → Matches (Writes a.object ∷ []) (opened_of (initial_work program (actor partition_ channel)))
  handler_matches channel a is =
      let h = start.handlers channel a is in
      let work : initial_work program (actor partition_ channel) ≡ procedure_work a.object (Some h.procedure) =
      handler_starts channel ∙ (ap (handler_work program) is ∙ ap (procedure_work a.object) h.is) in
      subst (λ w. Matches (Writes a.object ∷ []) (opened_of w)) (sym work)
      (subst (Matches (Writes a.object ∷ [])) (sym (opened_body h.procedure (EndsCall [] (Some a.object) []) [])) (refl, tt))

  -- the interrupts of a schedule are handled, by procedures of objects with the highest ceiling
  pub all_attached : (lines : List ScheduleLine) → AreAttached partition_ (interrupts_of attached lines)
  all_attached [] = tt
  all_attached (l ∷ ls) = by_handler (handler_at l.channel program.handlers) refl (all_attached ls)
    where
      by_handler : (o : Option Attached) → handler_at l.channel program.handlers ≡ o → AreAttached partition_ (interrupts_of attached ls)
          → AreAttached partition_ (interrupt_if (object_attached o) l (interrupts_of attached ls))
      by_handler None is later = later
      by_handler (Some a) is later = ((start.handlers l.channel a is).highest, later)

  pub all_handled : (lines : List ScheduleLine) → HandlersOpen program (interrupts_of attached lines)
  all_handled [] = tt
  all_handled (l ∷ ls) = by_handler (handler_at l.channel program.handlers) refl (all_handled ls)
    where
      by_handler : (o : Option Attached) → handler_at l.channel program.handlers ≡ o → HandlersOpen program (interrupts_of attached ls)
          → HandlersOpen program (interrupt_if (object_attached o) l (interrupts_of attached ls))
      by_handler None is later = later
      by_handler (Some a) is later = (handler_matches l.channel a is, later)

module _ (laws : RunLaws) (program : Program) (schedule : List ScheduleLine) (start : IsSoundStart program) where
  abbrev interrupts : List Interrupt
  interrupts = program_interrupts program schedule

  abbrev active : Kernel
  active = activated (length program.tasks) (blank (program_partition program) interrupts)

  abbrev begun : Kernel
  begun = begin (program_partition program) interrupts

  new : IsFresh (program_partition program) interrupts active
  new = fresh (length program.tasks) (program_partition program) interrupts

  settled : SettlesTo active begun
  settled = laws.starts (program_partition program) interrupts start.partition (all_attached program start schedule)

  kept : Kept (is_open program (first_store program)) begun
  kept = laws.begins (is_open program (first_store program)) (program_partition program) interrupts start.partition (all_attached program start schedule)

  waits_nowhere : (u o : ℕ) → Awaits begun.queued begun.actions u o → ⊥
  waits_nowhere u o awaits = by_case (awaits_before active begun settled u o awaits)
    where
      by_case : Awaits active.queued active.actions u o → ⊥
      by_case (inl q) = let i : active.queued o ≡ None = new.queued o in cc
      by_case (inr s) = subst (HasAction (ServesCall o u)) (new.actions s.0) s.1

  awake : (u : ℕ) → awaited (begun.place u) ≡ None
  awake u =
      none_if (awaited (begun.place u))
      (λ o i. waits_nowhere u o (awaits_of (is_open program (first_store program)) begun kept u o i))

  linked_first : (u : ℕ) → OpensItsActions program u [] (initial_work program u)
  linked_first u = record { matches = λ no. by_number (is_task (program_partition program) u) refl no; idle = λ i. refl }
    where
      by_number : (b : Bool) → is_task (program_partition program) u ≡ b → (IsIdle program u [] → ⊥)
          → Matches [] (opened_of (cond b (task_work program u) (handler_work program (handler_at (u - length program.tasks) program.handlers))))
      by_number true e busy = subst (Matches []) (sym (opened_task (slice_get program.tasks u))) tt
      by_number false e busy = absurd (busy (e, refl))

  linked_active : (u : ℕ) → OpensItsActions program u (active.actions u) (initial_work program u)
  linked_active u = subst (λ a. OpensItsActions program u a (initial_work program u)) (sym (new.actions u)) (linked_first u)

  handled_active : HandlersOpen program active.pending
  handled_active = subst (HandlersOpen program) (sym new.pending) (all_handled program start schedule)

  start_sound : IsSoundWorld program (start_of program schedule)
  start_sound =
      record {
        kernel = kept;
        partition = settled.partition ∙ new.partition;
        store = start.store;
        tasks = λ u. subst (λ w. IsSoundTask program (first_store program) w (initial_work program u)) (sym (awake u)) (start.works u);
        linked = settled_linked program active begun settled new.partition handled_active (initial_work program) linked_active;
        handled = settled_handled program active begun settled new.partition handled_active (initial_work program) linked_active;
        outcome = settled_meant active (subst HasMeaning (sym new.outcome) tt);
      }

  -- ---- a step

  premises : Premises program
  premises = record { typed = laws.typed; kept = laws.agreement; added = laws.added; targets = laws.targets; initial = laws.initial; sound = start.scope }

  step_sound : (k : Kernel) (d : Tasks Store TaskWork) (o : Option Outcome) (r : Option ℕ) → k.running ≡ r
      → IsSoundWorld program (record { kernel = k; rest = d })
      → IsSoundWorld program (step_of (among (program_behaviour program schedule)) k d o r)
  step_sound k d (Some o) r runs world = world
  step_sound k d None None runs world = world
  step_sound k d None (Some t) runs world =
      next_sound laws.next h d.tasks x.solo.memory is x.solo.task x.effect x.given sound.effect sound.task sound.server
      (record {
        settles = laws.next.settle before later k t x.effect runs owed.0 owed.1 world.kernel;
        partition = done_partition t x.effect k;
        pending = done_pending t x.effect k;
        kept = laws.every before later k t x.effect runs owed.0 owed.1 world.kernel;
        meant = after_meant h x.solo.memory (opened_of (d.tasks t)) (opened_of x.solo.task) x.given world.outcome x.effect sound.effect;
      })
    where
      h : Here
      h = here_of program schedule k t (solo_of t d)

      x : SourceStepped
      x = work_step h (d.tasks t).work

      before : ℕ → Bool
      before = is_open program d.memory

      later : ℕ → Bool
      later = is_open program x.solo.memory

      busy : IsIdle program t (k.actions t) → ⊥
      busy = runner_busy program (record { kernel = k; rest = d }) world t runs

      task : IsSoundTask program d.memory None (d.tasks t)
      task = subst (λ w. IsSoundTask program d.memory w (d.tasks t)) (runner_awaits before k world.kernel t runs) (world.tasks t)

      sound : IsSoundStep h (opened_of (d.tasks t)) x
      sound = laws.steps program schedule k t (solo_of t d) premises world.store task

      owed : IsBarrierHeld before later k t × Passed later k t x.effect
      owed = laws.passes h (opened_of (d.tasks t)) x start.barriers ((world.linked t).matches busy) task.held sound

      is : IsStep h d.tasks x.solo.memory
      is = record {
        world = world;
        runs = runs;
        keeps = sound.store;
        restart = λ u.
            laws.next.alike program None (first_store program) x.solo.memory (initial_work program u) start.store sound.store.sound (start.works u);
      }

  run_sound : (n : ℕ) (w : SourceWorld) → IsSoundWorld program w → IsSoundWorld program (run (among (program_behaviour program schedule)) n w)
  run_sound zero w world = world
  run_sound (suc n) w world =
      run_sound n (step (among (program_behaviour program schedule)) w) (step_sound w.kernel w.rest w.kernel.outcome w.kernel.running refl world)

pub runs_are_sound : RunLaws → RunsAreSound
runs_are_sound laws program schedule n start = run_sound laws program schedule start n (start_of program schedule) (start_sound laws program schedule start)

never_zero : (o : Option Outcome) (u : ℕ) → HasMeaning o → o ≢ Some (Unhandled 0 u)
never_zero o u meant e = let positive : 0 < 0 = subst HasMeaning e meant in absurd (omega (arith, positive))

pub runs_have_meaning : RunsAreSound → RunsHaveMeaning
runs_have_meaning sound program schedule n u start = never_zero (run_of program schedule n).kernel.outcome u (sound program schedule n start).outcome
