-- What the kernel has settled is the step of the world.
use Rattle.std.proofs.Common.{◌≡◌, ℕ, List, cond, sym, ap, ◌∙◌}
use Rattle.kernel.specs.Effects.{after}
use Rattle.kernel.specs.PutLaws.{put_put}
use Rattle.kernel.specs.RunLaws.{step_running}
use Rattle.kernel.specs.State.{Line, put}
use Rattle.kernel.specs.Worlds.{Did, Tasks, among, ending, is_handler_over, reached, step}
use Rattle.image.specs.Code.{CodeWorld, initial_state}
use Rattle.image.specs.Frames.{TaskState, Words}
use Rattle.image.specs.Steps.{Stepped, behaviour}
use Rattle.processor.specs.Decoding.{words_in}
use Rattle.task_steps.specs.Acting.{effect_of, given_of}
use Rattle.task_steps.specs.declared.acts.Act.{Act}
use Rattle.tasking.specs.Held.{kernel_of}
use Rattle.execution.specs.Held.{HeldWorld, tasks_of, world_with}
use Rattle.execution.specs.Settling.{Owes, Settles, own_state}

module _ (h : HeldWorld) (t : ℕ) where
  -- what a step comes to among all tasks
  abbrev among_by : Tasks Words TaskState → Stepped → Did (Tasks Words TaskState)
  among_by d a =
      record {
        effect = a.effect;
        rest = record {
          memory = a.solo.memory;
          tasks = reached (behaviour h.image h.schedule) t (ending (kernel_of h.tasking) t a.effect) a.given
              (put t (cond (is_handler_over (kernel_of h.tasking) t a.effect) (initial_state h.image t) a.solo.task) d.tasks);
        };
      }

  abbrev owed_world : Tasks Words TaskState → CodeWorld
  owed_world d = record { kernel = kernel_of h.tasking; rest = d }

  abbrev world_by : Did (Tasks Words TaskState) → CodeWorld
  world_by d = record { kernel = after t d.effect (kernel_of h.tasking); rest = d.rest }

  pub settled : (a : Act) (later : HeldWorld) (told : List Line) (o : Owes h t a) → Settles h later t a told → step (among (behaviour h.image h.schedule)) (owed_world o.before) ≡ world_with told later
  settled a later told o s =
      let e = effect_of h.image a.effect in
      let given = given_of h.memory.passed a.given in
      let end_ = ending (kernel_of h.tasking) t e in
      let own = own_state h t a in
      let again : put t own o.before.tasks ≡ put t own (tasks_of h) =
      (λ j. λ u. sym (put_put t own (tasks_of h t) o.before.tasks u) j) ∙ ap (put t own) (sym o.others) in
      step_running (among (behaviour h.image h.schedule)) (kernel_of h.tasking) t o.before o.runs
      ∙ (ap (λ x. world_by (among_by o.before x)) o.did
      ∙ (λ j. record {
        kernel = sym s.kernel j;
        rest = record {
          memory = words_in (sym s.image j) (sym s.shared j);
          tasks = (ap (reached (behaviour h.image h.schedule) t end_ given) again ∙ sym s.tasks) j;
        };
      }))
