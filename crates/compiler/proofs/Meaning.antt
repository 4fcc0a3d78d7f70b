-- A linked image has the meaning of its program.
use Rattle.std.proofs.Common.{◌≡◌, ℕ, ◌+◌, ◌-◌, ◌≤◌, List, [], inl, inr, cond, refl, sym, ap, ◌∙◌, subst, ⊎_elim, Bool, true, false, Option, Some, length, pos, arith}
use Rattle.base.specs.declared.schedule.ScheduleLine.{ScheduleLine}
use Rattle.kernel.specs.State.{Kernel, is_task}
use Rattle.kernel.specs.Interrupts.{names_of_all}
use Rattle.kernel.specs.Effects.{begin, after, Closes, Effect, Ending, HandsBack, TakesOver}
use Rattle.kernel.specs.Worlds.{Tasks, among, solo_of, step, Solo, ending}
use Rattle.kernel.specs.Laws.{LeftUnmoved, LinesGrow, QuietStays, ReachesCallers, RunnerIsCalm}
use Rattle.kernel.specs.RunLaws.{run_plus}
use Rattle.image.specs.Sections.{Sections}
use Rattle.image.specs.Rules.{IsWellFormed}
use Rattle.image.specs.Texts.{text_from_one}
use Rattle.image.specs.Frames.{Words, TaskState}
use Rattle.image.specs.Starting.{handler_state, initial_state, task_state}
use Rattle.image.specs.Steps.{behaviour, is_open}
use Rattle.image.specs.Steps as steps
use Rattle.image.specs.Code as image
use Rattle.image_laws.specs.Linked.{IsGone, actions_of, kind_at, with_action}
use Rattle.image_laws.specs.Shape.{IsHandlerActor, IsImageTask}
use Rattle.image_laws.specs.Whole.{IsWhole, StartsWhole, StepsWhole}
use Rattle.ada_tree.specs.ProgramTree.{ProgramTree}
use Rattle.legality.specs.ProgramRules.{IsLegal}
use Rattle.ravenscar.specs.ProgramRules.{IsRestricted}
use Rattle.meaning.specs.Laws.{CountGivesMeaning}
use Rattle.meaning.specs.Calls as calls
use Rattle.meaning.specs.Meeting.{Before, Met, Meets, Relation, Moved, Owed}
use Rattle.meaning.specs.MeetingLaws.{met_for}
use Rattle.meaning.specs.Works.{GivenToCaller, Store, TaskWork}
use Rattle.meaning.specs.Source.{SourceWorld, handler_work, initial_work, source, partition_of, source_behaviour, source_start, task_work}
use Rattle.meaning.specs.Programs.{Attached, Program, handler_at, object_attached, program_interrupts, program_of, program_partition}
use Rattle.meaning.specs.SameMeaning.{KeepsCount, frames_of}
use Rattle.meaning.specs.Compiling.{MeetsUnder, met_keeps_count}
use Rattle.program_soundness.specs.step_soundness.specs.Holding.{IsSoundTask}
use Rattle.program_soundness.specs.step_soundness.specs.Starting.{IsSoundStart}
use Rattle.program_soundness.specs.BodyLaws.{PremisesHold}
use Rattle.program_soundness.specs.ProgramLaws.{StartsAreSound}
use Rattle.program_soundness.specs.RunLaws.{RunsAreSound}
use Rattle.program_soundness.specs.SoundWorlds.{IsSoundWorld}
use Rattle.program_soundness.proofs.Awaiting.{runner_awaits}
use Rattle.program_soundness.proofs.Handling.{own_some, runner_matches}
use Rattle.expr_code.specs.Coming.{most_steps}
use Rattle.expr_code.specs.Seeing.{Package}
use Rattle.step_simulation.specs.Laws.{EffectsAreMet, IsKnownHere, KnowsCaller, StepsAreMet}
use Rattle.step_simulation.specs.part_code.specs.Statements.{Numbers}
use Rattle.step_simulation.specs.Standing.{CodeStands, Note, relation}
use Rattle.package_code.specs.LinkLaws.{LinkedKeepsCount, LinkedMeansTheSame}
use Rattle.package_code.specs.Linked.{IsLinkedProgram}
use Rattle.compiler.proofs.LinkedTasks.{as_many, same_name, same_priority, tasks_stand}
use Rattle.compiler.proofs.Reached.{Step, closed_queue, image_relation, owed}
use Rattle.std.specs.Prelude.{nat_le, nat_lt, ◌&&◌}
use Rattle.std.proofs.lemmas.Bool.{true≢false, cases_lt, le-ltb, lt-ltb}
use Rattle.base.specs.Schedule.{are_lines, are_ordered_from, is_schedule}
use Rattle.base.specs.declared.limits.TheConstants.{SCHEDULE_LINES}
use Rattle.program_soundness.specs.LyingWorlds.{ProgramsKeepSubtypes, WorldLies}
use Rattle.compiler.proofs.KeptTimes.{TimesFit, begin_fits, interrupts_fit, timed, times_left}

-- what a schedule has
lines_of : (a b c : Bool) → (a && b && c) ≡ true → b ≡ true
lines_of true true c h = refl
lines_of true false c h = cc
lines_of false b c h = cc

pub record LawsBelow : Type 0 where
  pub starts_whole : StartsWhole
  pub steps_whole : StepsWhole
  pub grow : LinesGrow
  pub unmoved : LeftUnmoved
  pub quiet : QuietStays
  pub reaches : ReachesCallers
  pub calm : RunnerIsCalm
  pub premises : PremisesHold
  pub starts : StartsAreSound
  pub runs : RunsAreSound
  pub met : StepsAreMet
  pub effects : EffectsAreMet
  pub subtypes : ProgramsKeepSubtypes

module _ (laws : LawsBelow) (p : ProgramTree) (i : Sections) (g : Package) (numbers : Numbers) (well_formed : IsWellFormed i) (legal : IsLegal p)
    (restricted : IsRestricted p) (linked : IsLinkedProgram p i g numbers) where
  abbrev program : Program
  program = program_of p

  abbrev sound : IsSoundStart program
  sound = laws.starts p legal restricted

  same_partition : partition_of p ≡ image.partition_of i
  same_partition =
      (λ j. record {
        tasks = as_many program i g numbers program.tasks i.tasks linked.tasks j;
        objects = (sym linked.objects) j;
        base = λ u. same_priority program i g numbers program.tasks i.tasks linked.tasks u j;
        ceiling = λ o. linked.ceilings o j;
      })

  many : length program.tasks ≡ length i.tasks
  many = as_many program i g numbers program.tasks i.tasks linked.tasks

  -- the actor of a channel that has a handler
  not_task : (u : ℕ) → IsHandlerActor i u → is_task (program_partition program) u ≡ false
  not_task u h =
      let is = h.2 in
      let few = many in
      let le : length program.tasks ≤ u = omega (arith, is, few) in
      le-ltb u (length program.tasks) le

  handler_there : (u : ℕ) → IsHandlerActor i u → (a : Attached) × (handler_at (u - length program.tasks) program.handlers ≡ Some a)
  handler_there u h =
      let is = h.2 in
      let few = many in
      let channel : u - length program.tasks ≡ h.0 = omega (arith, is, few) in
      let found = linked.attached h.0 h.1 h.3 in
      (found.0, ap (λ c. handler_at c program.handlers) channel ∙ found.1)

  -- at the start the state of each task, and of each handler, stands for what it has to do
  starts_stand : (note : Note) (l : Kernel) (u : ℕ) → IsImageTask i u → CodeStands i program g numbers note l u (initial_work program u) (initial_state i u)
  starts_stand note l u (inl less) =
      let few = many in
      let own : nat_lt u (length program.tasks) ≡ true = lt-ltb u (length program.tasks) (omega (arith, less, few)) in
      let there : nat_lt u (length i.tasks) ≡ true = lt-ltb u (length i.tasks) less in
      subst (λ w. CodeStands i program g numbers note l u w (initial_state i u))
      (sym (ap (λ b. cond b (task_work program u) (handler_work program (handler_at (u - length program.tasks) program.handlers))) own))
      (subst (CodeStands i program g numbers note l u (task_work program u))
      (sym (ap (λ b. cond b (task_state i u) (handler_state i (u - length i.tasks))) there))
      (tasks_stand program i g numbers note l u program.tasks i.tasks linked.tasks u less))
  starts_stand note l u (inr h) = let a = handler_there u h in linked.code.restarts note l u a.0 (not_task u h) a.1

  abbrev all : Relation Note Store TaskWork GivenToCaller Words TaskState steps.Given
  all = timed (image_relation i program g numbers)

  module _ (schedule : List ScheduleLine) (ok : is_schedule schedule ≡ true) where
    inputs : are_lines schedule ≡ true
    inputs = lines_of (nat_le (length schedule) SCHEDULE_LINES) (are_lines schedule) (are_ordered_from (pos 0) schedule) ok

    -- the worlds of the program's run
    abbrev Sources : SourceWorld → Type 0
    Sources v = (n : ℕ) × (v ≡ source p schedule n)

    abbrev Here : Note → Kernel → ℕ → Tasks Store TaskWork → Tasks Words TaskState → Type 0
    Here note k t c d = Before (source_behaviour p schedule) (behaviour i schedule) all frames_of (most_steps i) Sources (IsWhole i) note k t c d

    -- the step of this task
    abbrev reached : (note : Note) (k : Kernel) (t : ℕ) (c : Tasks Store TaskWork) (d : Tasks Words TaskState) → Step
    reached note k t c d = record {
      unmoved = laws.unmoved;
      effects = laws.effects;
      i = i;
      program = program;
      g = g;
      numbers = numbers;
      has = linked.code;
      schedule = schedule;
      Ones = Sources;
      sound = λ v h. subst (IsSoundWorld program) (sym h.1) (laws.runs program schedule h.0 sound);
      note = note;
      k = k;
      t = t;
      c = c;
      d = d;
    }

    -- what is known beside the times
    untimed : {note : Note} {k : Kernel} {t : ℕ} {c : Tasks Store TaskWork} {d : Tasks Words TaskState} → Here note k t c d
        → Before (source_behaviour p schedule) (behaviour i schedule) (image_relation i program g numbers) frames_of (most_steps i) Sources (IsWhole i) note k t
        c d
    untimed r = record { ones = r.ones; others = r.others; runner = r.runner; shared = r.shared; stand = λ u. (r.stand u).1 }

    -- who runs has begun
    runner_there : {note : Note} {k : Kernel} {c : Tasks Store TaskWork} {d : Tasks Words TaskState} (t : ℕ) → Here note k t c d → IsGone i k.actions t → ⊥
    runner_there {k = k} t r gone =
        let same : k.partition.tasks ≡ length i.tasks = ap (λ p. p.tasks) r.others.partition in
        let beyond : k.partition.tasks ≤ t = ⊎_elim (λ less. absurd (true≢false (sym (lt-ltb t (length i.tasks) less) ∙ gone.0))) (λ le. omega (arith, same, le)) (cases_lt t (length i.tasks)) in
        own_some (k.actions t) (r.others.kept.within t beyond r.runner.calm.runs.running) gone.1

    -- who runs and is no task is the actor of a handler
    actor_here : (u : ℕ) → IsImageTask i u → is_task (program_partition program) u ≡ false → IsHandlerActor i u
    actor_here u (inl less) e =
        let few = many in absurd (true≢false (sym (lt-ltb u (length program.tasks) (omega (arith, less, few))) ∙ e))
    actor_here u (inr h) e = h

    known : (note : Note) (k : Kernel) (t : ℕ) (c : Tasks Store TaskWork) (d : Tasks Words TaskState) → Here note k t c d
        → IsKnownHere program k t c.memory (c.tasks t)
    known note k t c d r =
        let lying : WorldLies program (record { kernel = k; rest = c }) =
        subst (WorldLies program) (sym r.ones.1) (laws.subtypes p schedule r.ones.0 legal restricted) in
        let world : IsSoundWorld program (record { kernel = k; rest = c }) =
        subst (IsSoundWorld program) (sym r.ones.1) (laws.runs program schedule r.ones.0 sound) in
        let running = r.runner.calm.runs.running in
        let awaits = runner_awaits (calls.is_open program c.memory) k world.kernel t running in
        record {
          store = world.store;
          task = subst (λ q. IsSoundTask program c.memory q (c.tasks t)) awaits (world.tasks t);
          opened = runner_matches program (record { kernel = k; rest = c }) world t running;
          partition = r.others.partition ∙ sym same_partition;
          attached = λ e. handler_there t (actor_here t (r.others.bounded.running t running) e);
          closed = closed_queue (reached note k t c d) (untimed r);
          values = lying.store;
          objects = lying.tasks t;
          time = (r.stand t).0.now;
        }

    -- the kernel knows for whom the frame runs the body of an entry
    knows_caller : (note : Note) (k : Kernel) (t : ℕ) (c : Tasks Store TaskWork) (d : Tasks Words TaskState) → Here note k t c d → KnowsCaller k t (d.tasks t)
    knows_caller note k t c d r o u pending is = (
      actions_of i (d.tasks t).callers,
      r.others.linked.by_frames t (runner_there t r) ∙ ap (λ q. with_action q (kind_at i (d.tasks t).frame) (actions_of i (d.tasks t).callers)) is,
    )

    met : (note : Note) (k : Kernel) (t : ℕ) (c : Tasks Store TaskWork) (d : Tasks Words TaskState) → Here note k t c d
        → Met (source_behaviour p schedule) (behaviour i schedule) all frames_of (most_steps i) note k t (solo_of t c) (solo_of t d)
    met note k t c d r =
        met_for (source_behaviour p schedule) (behaviour i schedule) (relation i program g numbers) all frames_of (most_steps i) note note k t
        (λ m n h. h) (λ w s h. ((r.stand t).0, λ there. h)) (λ e w s given gives h. h) (λ w. refl) (solo_of t c) (solo_of t d)
        (laws.met i program g numbers linked.code (laws.premises p legal) schedule inputs note k t r.runner.calm c.memory d.memory (c.tasks t) (d.tasks t)
        (known note k t c d r) (knows_caller note k t c d r) r.shared ((r.stand t).1 (r.others.bounded.running t r.runner.calm.runs.running)))

    owed_timed : (note : Note) (k : Kernel) (t : ℕ) (c : Tasks Store TaskWork) (d : Tasks Words TaskState) (e : Effect) (a : Solo Store TaskWork)
        (b : Solo Words TaskState) (x : Option GivenToCaller) (y : Option steps.Given)
        → Moved (source_behaviour p schedule) (behaviour i schedule) all frames_of (most_steps i) Sources (IsWhole i) note k t c d e a b x y
        → (next : Note) × Owed (source_behaviour p schedule) (behaviour i schedule) all frames_of (most_steps i) next k t e c.tasks d.tasks a.task b.task x y
        (ending k t e)
    owed_timed note k t c d e a b x y moved = (inner.0, by_ending (ending k t e) inner.1)
      where
        fit : TimesFit (after t e k)
        fit = times_left i program g numbers note k t e a.task b.task x y moved.leaves (moved.before.stand t).0

        inner : (next : Note) × Owed (source_behaviour p schedule) (behaviour i schedule) (image_relation i program g numbers) frames_of (most_steps i) next k t e
            c.tasks d.tasks a.task b.task x y (ending k t e)
        inner =
            owed (reached note k t c d) (untimed moved.before) e a b x y
            (record { before = untimed moved.before; ones = moved.ones; others = moved.others; shared = moved.shared; leaves = moved.leaves })

        by_ending : (z : Ending) → Owed (source_behaviour p schedule) (behaviour i schedule) (image_relation i program g numbers) frames_of (most_steps i) inner.0 k
            t e c.tasks d.tasks a.task b.task x y z
            → Owed (source_behaviour p schedule) (behaviour i schedule) all frames_of (most_steps i) inner.0 k t e c.tasks d.tasks a.task b.task x y z
        by_ending Closes h = ((fit, h.0), λ v other. (fit, h.1 v other))
        by_ending (TakesOver o u) h = ((fit, h.0), (fit, h.1), λ v other unlike. (fit, h.2 v other unlike))
        by_ending (HandsBack u) h = ((fit, h.0), (fit, h.1), λ v other unlike. (fit, h.2 v other unlike))

    meets : Meets (source_behaviour p schedule) (behaviour i schedule) all frames_of (most_steps i) Sources (IsWhole i)
    meets = record {
      kept_ones = λ v h. (
        h.0 + 1,
        ap (step (among (source_behaviour p schedule))) h.1 ∙ sym (run_plus (among (source_behaviour p schedule)) h.0 1 (source_start p schedule)),
      );
      kept_others = λ w h. laws.steps_whole i well_formed schedule w h;
      runner = λ w t h runs. record {
        calm = laws.calm (is_open i w.rest.memory) w.kernel t h.kept runs;
        reaches = λ e. laws.reaches (is_open i w.rest.memory) w.kernel t e runs.running h.kept;
      };
      met = met;
      owed = owed_timed;
    }

    -- ---- the starts

    under : MeetsUnder p i all (most_steps i) (λ s v. (n : ℕ) × (v ≡ source p s n)) (λ s. IsWhole i) schedule
    under = record {
      meets = meets;
      starts = record {
        same = (λ j. begin (same_partition j) (sym (linked.interrupts schedule) j));
        ones = (0, refl);
        others = laws.starts_whole i well_formed schedule;
        note = λ u. [];
        shared = linked.words;
        stands = λ u. (
          begin_fits (partition_of p) (program_interrupts program schedule)
              (interrupts_fit (λ channel. object_attached (handler_at channel program.handlers)) schedule inputs),
          λ there. starts_stand (λ v. []) (source_start p schedule).kernel u there,
        );
      };
    }

  pub counted : KeepsCount p i (most_steps i)
  counted =
      met_keeps_count p i all (most_steps i) (λ s v. (n : ℕ) × (v ≡ source p s n)) (λ s. IsWhole i) laws.grow laws.quiet (λ schedule ok. under schedule ok)

pub linked_keeps_count : LawsBelow → LinkedKeepsCount
linked_keeps_count laws p i g numbers well_formed legal restricted linked = counted laws p i g numbers well_formed legal restricted linked

pub linked_means_the_same : CountGivesMeaning → LinkedKeepsCount → LinkedMeansTheSame
linked_means_the_same count counts p i g numbers well_formed legal restricted linked =
    count p i (most_steps i)
    (record {
      tasks = λ u.
          (λ j. names_of_all
          (sym (as_many (program_of p) i g numbers (program_of p).tasks i.tasks linked.tasks) j)
          (λ v. same_name (program_of p) i g numbers (program_of p).tasks i.tasks linked.tasks v j) u);
      exceptions = λ x. ap (λ names. text_from_one names x) linked.exceptions;
    })
    (counts p i g numbers well_formed legal restricted linked)
