-- Steps of the running task, and what the kernel makes of the last one, as steps of the world.
use Rattle.std.proofs.Common.{◌≡◌, ℕ, ◌+◌, ◌-◌, ◌<◌, List, [], ◌∷◌, length, Bool, Option, Some, None, true, false, sym, ap, ◌∙◌, subst, arith, ⊎_elim}
use Rattle.std.proofs.lemmas.Bool.{cases_lt, true≢false}
use Rattle.std.specs.Prelude.{slice_set}
use Rattle.kernel.specs.Calm.{IsRunner}
use Rattle.kernel.specs.RunLaws.{run_plus}
use Rattle.kernel.specs.State.{Action, Line}
use Rattle.kernel.specs.Worlds.{among, run, solo_of, step}
use Rattle.image.specs.Code.{CodeWorld}
use Rattle.image.specs.Rules.{IsWellFormed}
use Rattle.image.specs.Sections.{Sections}
use Rattle.kernel.specs.Effects.{is_inside_any}
use Rattle.kernel.specs.Invariant.{IsInOwn, Passed}
use Rattle.image.specs.Steps.{act, behaviour, is_open}
use Rattle.image_laws.specs.Whole.{EffectsNamed, IsNamed, IsWhole, LinesUnread, RunnerPasses, StepsWhole, UnseenWhole}
use Rattle.task_steps.specs.Acting.{ComesToAct, effect_of, solo_in}
use Rattle.task_steps.specs.declared.acts.Act.{Act}
use Rattle.task_steps.specs.declared.acts.Effect.{Effect}
use Rattle.task_steps.specs.declared.acts.Effect.TheVariants as acts
use Rattle.tasking.specs.Held.{kernel_of}
use Rattle.tasking.specs.Laws.{KeptWithLines, LinesApart}
use Rattle.tasking.specs.Orderly.{IsTask}
use Rattle.execution.specs.Held.{HeldWorld, Leads, row_of, tasks_of, world_of, world_with}
use Rattle.execution.specs.Settling.{HasPassed, Owes, RunsThere, Settles}
use Rattle.execution.proofs.Going.{Others, Quiet, all_quiet, then_acts}
use Rattle.execution.proofs.Leading.{leads_behind}
use Rattle.execution.proofs.Settled.{settled}
use Rattle.execution.proofs.Tasks.{task_elsewhere}

-- a world is whole whatever lines there are
pub whole_without_lines : KeptWithLines → (i : Sections) (h : HeldWorld) (lines : List Line) → IsWhole i (world_with lines h) → IsWhole i (world_of h)
whole_without_lines kept i h lines w =
    record {
      kept = kept (is_open i (world_of h).rest.memory) (world_with lines h).kernel [] w.kept;
      linked = w.linked;
      handled = w.handled;
      bounded = record { running = w.bounded.running; ready = w.bounded.ready; sleepers = w.bounded.sleepers; pending = w.bounded.pending; queued = w.bounded.queued; callers = w.bounded.callers; now = w.bounded.now };
      partition = w.partition;
    }

-- a handler is within its own action
never_outside : (actions : List Action) → IsInOwn actions → (elim actions [ [] ↦ false | a ∷ outer ↦ true ]) ≡ false → ⊥
never_outside [] own e = own
never_outside (a ∷ outer) own e = true≢false e

-- what the running task asks for is of the image, and was not refused
pub has_passed : EffectsNamed → RunnerPasses → (h : HeldWorld) → IsWellFormed h.image → (t : ℕ) (a : Act) → Owes h t a → HasPassed (length h.image.objects) (kernel_of h.tasking) t a.effect
has_passed names passes h w t a o = by a.effect named passed
  where
    is_effect : (act h.image h.schedule (kernel_of h.tasking) t (solo_of t o.before)).effect ≡ effect_of h.image a.effect
    is_effect = ap (λ r. r.effect) o.did

    named : IsNamed (length h.image.objects) (effect_of h.image a.effect)
    named = subst (IsNamed (length h.image.objects)) is_effect (names h.image w h.schedule (kernel_of h.tasking) t (solo_of t o.before))

    barrier : ℕ → Bool
    barrier = is_open h.image (act h.image h.schedule (kernel_of h.tasking) t (solo_of t o.before)).solo.memory

    passed : Passed barrier (kernel_of h.tasking) t (effect_of h.image a.effect)
    passed = subst (Passed barrier (kernel_of h.tasking) t) is_effect (passes h.image w h.schedule (record { kernel = kernel_of h.tasking; rest = o.before }) t o.whole o.runs.running)

    -- who is within no action is a task
    task_of : is_inside_any (kernel_of h.tasking) t ≡ false → IsTask (kernel_of h.tasking) t
    task_of outside =
        ⊎_elim
        (λ lt. lt)
        (λ le. absurd (never_outside ((kernel_of h.tasking).actions t) (o.whole.kept.within t le o.runs.running) outside))
        (cases_lt t (kernel_of h.tasking).partition.tasks)

    by : (e : Effect) → IsNamed (length h.image.objects) (effect_of h.image e) → Passed barrier (kernel_of h.tasking) t (effect_of h.image e) → HasPassed (length h.image.objects) (kernel_of h.tasking) t e
    by (acts.Opens p) named passed = (named, passed)
    by (acts.Views p) named passed = (named, passed)
    by (acts.Queues p) named passed = (named, passed.3, task_of passed.0)
    by (acts.Delays until) named passed = task_of passed
    by acts.Finishes named passed = task_of passed
    by _ named passed = tt

-- what the running task's steps have made of what was held
abbrev pub Moved : HeldWorld → HeldWorld → ℕ → Type 0
Moved a b t = b ≡ record a { memory = b.memory; tasks = slice_set a.tasks (row_of a.image t) (tasks_of b t) }

module _ (steps : StepsWhole) (unseen : UnseenWhole) (a b : HeldWorld) (w : IsWellFormed a.image) (t limit left : ℕ) (whole : IsWhole a.image (world_of a)) (runs : IsRunner (kernel_of a.tasking) t) (moved : Moved a b t)
    (there : RunsThere a.image a.tasking.handler t) where
  pub others : Others a b t
  others u ne = ap (λ h. tasks_of h u) moved ∙ task_elsewhere a.image a.tasking.handler a.tasks there.beyond t there.here (tasks_of b t) u ne

  pub image : b.image ≡ a.image
  image = ap (λ h. h.image) moved

  pub schedule : b.schedule ≡ a.schedule
  schedule = ap (λ h. h.schedule) moved

  pub tasking : b.tasking ≡ a.tasking
  tasking = ap (λ h. h.tasking) moved

  abbrev pub HasGone : Option Act → Type 0
  HasGone o = ComesToAct a.image a.schedule (kernel_of a.tasking) t limit left (solo_in a.image a.memory (tasks_of a t)) o b.memory (tasks_of b t)

  -- quiet steps up to the limit
  pub gone_whole : HasGone None → IsWhole b.image (world_of b)
  gone_whole went = (all_quiet steps unseen a b w t limit left whole runs others image schedule tasking went).0

  pub gone_leads : LinesApart → LinesUnread → HasGone None → Leads (limit - left) a b []
  gone_leads apart unread went =
      let e : limit - left ≡ limit = omega (arith, went.2) in
      leads_behind apart unread (limit - left) a b [] image schedule
      (ap (λ n. run (among (behaviour a.image a.schedule)) n (world_of a)) e ∙ (all_quiet steps unseen a b w t limit left whole runs others image schedule tasking went).1)

  -- quiet steps and an act
  abbrev pub Acted : Act → Type 0
  Acted did = Quiet steps unseen a b w t limit left whole runs others image schedule tasking did

  pub acted : (did : Act) → HasGone (Some did) → Acted did
  acted did went = then_acts steps unseen a b w t limit left whole runs others image schedule tasking did went

  pub acted_fewer : (did : Act) → Acted did → left < limit
  acted_fewer did q = let e = q.count in omega (arith, e)

  module _ (did : Act) (q : Acted did) (later : HeldWorld) (told : List Line) (s : Settles b later t did told) where
    abbrev owed : CodeWorld
    owed = record { kernel = kernel_of b.tasking; rest = q.owes.before }

    stepped : step (among (behaviour a.image a.schedule)) owed ≡ world_with told later
    stepped =
        ap (λ i. step (among (behaviour i a.schedule)) owed) (sym image)
        ∙ (ap (λ x. step (among (behaviour b.image x)) owed) (sym schedule) ∙ settled b t did later told q.owes s)

    pub settled_leads : LinesApart → LinesUnread → Leads (limit - left) a later told
    settled_leads apart unread =
        let e = q.count in
        let steps_are : limit - left ≡ q.n + 1 = omega (arith, e) in
        leads_behind apart unread (limit - left) a later told (s.image ∙ image) (s.schedule ∙ schedule)
        (ap (λ n. run (among (behaviour a.image a.schedule)) n (world_of a)) steps_are
        ∙ (run_plus (among (behaviour a.image a.schedule)) q.n 1 (world_of a)
        ∙ (ap (run (among (behaviour a.image a.schedule)) 1) q.led ∙ stepped)))

    pub settled_whole : KeptWithLines → IsWhole later.image (world_of later)
    settled_whole kept =
        let owes_whole = subst (λ i. IsWhole i owed) image q.owes.whole in
        let there = subst (IsWhole a.image) stepped (steps a.image w a.schedule owed owes_whole) in
        subst (λ i. IsWhole i (world_of later)) (sym (s.image ∙ image)) (whole_without_lines kept a.image later told there)
