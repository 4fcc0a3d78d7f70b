-- From steps of one task to steps of the world.
use Rattle.std.proofs.Common.{◌≡◌, ℕ, ◌+◌, Option, Some, None, sym, ap, ◌∙◌, subst}
use Rattle.kernel.specs.Calm.{IsRunner}
use Rattle.kernel.specs.PutLaws.{by_put, put_put}
use Rattle.kernel.specs.RunLaws.{solo_back}
use Rattle.kernel.specs.State.{put}
use Rattle.kernel.specs.Worlds.{among, put_back, run, solo_of}
use Rattle.image.specs.Code.{CodeWorld}
use Rattle.image.specs.Rules.{IsWellFormed}
use Rattle.image.specs.Steps as code
use Rattle.image.specs.Steps.{behaviour}
use Rattle.image_laws.specs.Whole.{IsWhole, StepsWhole, UnseenWhole}
use Rattle.processor.specs.Decoding.{words_in}
use Rattle.task_steps.specs.Acting.{ComesToAct, solo_in, stepped_of}
use Rattle.task_steps.specs.declared.acts.Act.{Act}
use Rattle.tasking.specs.Held.{kernel_of}
use Rattle.execution.specs.Held.{HeldWorld, rest_of, tasks_of, world_of}
use Rattle.execution.specs.Settling.{Owes}

-- the tasks of one are those of the other but for t
abbrev pub Others : HeldWorld → HeldWorld → ℕ → Type 0
Others a b t = (u : ℕ) → (u ≡ t → ⊥) → tasks_of b u ≡ tasks_of a u

module _ (a b : HeldWorld) (t : ℕ) (others : Others a b t) where
  own_put : (u : ℕ) → put t (tasks_of b t) (tasks_of a) u ≡ tasks_of b u
  own_put u = by_put (λ s. s ≡ tasks_of b u) t u (tasks_of b t) (tasks_of a) (λ e. ap (tasks_of b) (sym e)) (λ ne. sym (others u ne))

  pub same_rest : b.image ≡ a.image → put_back t (rest_of a) (solo_in a.image b.memory (tasks_of b t)) ≡ rest_of b
  same_rest image = λ j. record { memory = words_in (sym image j) b.memory.shared; tasks = λ u. own_put u j }

module _ (steps : StepsWhole) (unseen : UnseenWhole) (a b : HeldWorld) (w : IsWellFormed a.image) (t limit left : ℕ) (whole : IsWhole a.image (world_of a)) (runs : IsRunner (kernel_of a.tasking) t) (others : Others a b t) (image : b.image ≡ a.image) (schedule : b.schedule ≡ a.schedule) (tasking : b.tasking ≡ a.tasking) where
  abbrev Went : Option Act → Type 0
  Went o = ComesToAct a.image a.schedule (kernel_of a.tasking) t limit left (solo_in a.image a.memory (tasks_of a t)) o b.memory (tasks_of b t)

  abbrev reached_world : CodeWorld
  reached_world = record { kernel = kernel_of a.tasking; rest = put_back t (rest_of a) (solo_in a.image b.memory (tasks_of b t)) }

  same_world : reached_world ≡ world_of b
  same_world = λ j. record { kernel = kernel_of (sym tasking j); rest = same_rest a b t others image j }

  -- no act: the steps of the limit
  pub all_quiet : Went None → IsWhole b.image (world_of b) × (run (among (behaviour a.image a.schedule)) limit (world_of a) ≡ world_of b)
  all_quiet went =
      let x = unseen a.image w a.schedule t limit (kernel_of a.tasking) (kernel_of a.tasking) (rest_of a) (solo_in a.image b.memory (tasks_of b t)) went.0 whole in
      (subst (λ i. IsWhole i (world_of b)) (sym image) (subst (IsWhole a.image) same_world x.0), x.1 ∙ same_world)

  -- an act: quiet steps, and what the last one owes
  pub record Quiet (act : Act) : Type 0 where
    pub n : ℕ
    pub count : n + 1 + left ≡ limit
    pub owes : Owes b t act
    pub led : run (among (behaviour a.image a.schedule)) n (world_of a) ≡ record { kernel = kernel_of b.tasking; rest = owes.before }

  pub then_acts : (act : Act) → Went (Some act) → Quiet act
  then_acts act went =
      let here = went.2.here in
      let x = unseen a.image w a.schedule t went.0 (kernel_of a.tasking) (kernel_of a.tasking) (rest_of a) here went.2.unseen whole in
      let before = put_back t (rest_of a) here in
      let e : kernel_of a.tasking ≡ kernel_of b.tasking = ap kernel_of (sym tasking) in
      record {
        n = went.0;
        count = went.1;
        owes = record {
          before = before;
          whole = subst (λ i. IsWhole i (record { kernel = kernel_of b.tasking; rest = before })) (sym image) (subst (λ k. IsWhole a.image (record { kernel = k; rest = before })) e x.0);
          runs = subst (λ k. IsRunner k t) e runs;
          did = λ j. acted j;
          others = λ j. λ u. sym (put_again u) j;
        };
        led = x.1 ∙ (λ j. record { kernel = e j; rest = before });
      }
    where
      put_again : (u : ℕ) → put t (tasks_of b t) (put t went.2.here.task (tasks_of a)) u ≡ tasks_of b u
      put_again u = put_put t (tasks_of b t) went.2.here.task (tasks_of a) u ∙ own_put a b t others u

      acted : code.act b.image b.schedule (kernel_of b.tasking) t (solo_of t (put_back t (rest_of a) went.2.here)) ≡ stepped_of b.image act b.memory (tasks_of b t)
      acted =
          (λ j. code.act (image j) (schedule j) (kernel_of (tasking j)) t (solo_of t (put_back t (rest_of a) went.2.here)))
          ∙ (ap (code.act a.image a.schedule (kernel_of a.tasking) t) (solo_back t (rest_of a) went.2.here)
          ∙ (went.2.does ∙ ap (λ i. stepped_of i act b.memory (tasks_of b t)) (sym image)))
