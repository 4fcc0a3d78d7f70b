-- Exclusion by ceilings as a caller of the machine sees it: what its public calls answer of a world, and what holds of their answers in every world.
use Rattle.std.specs.Prelude.{◌≡◌, ◌≢◌, ◌⊎◌, ℕ, ◌<◌, ◌≤◌, List, length, map, Bool, true, false, Option, Some, option_map}
use Rattle.kernel.specs.Exclusion.{StandsIn}
use Rattle.kernel.specs.Interrupts.{told}
use Rattle.kernel.specs.State.{inside, is_object_open}
use Rattle.image.specs.Steps.{is_open}
use Rattle.tasking.specs.Held.{kernel_of}
use Rattle.execution.specs.Held.{HeldWorld, world_of}
use Rattle.machine.specs.TaskStates.{active_asked, place_asked, state_of}
use Rattle.machine.specs.declared.task_state.TaskState.{TaskState}
use Rattle.machine.specs.declared.task_state.TaskState.TheVariants.{Running, Ready, Queued}

-- the answers of the calls that have these names; tasks and objects are their numbers, and 255 is the handler of an interrupt that runs (RM C.3.1)
pub record Observed : Type 0 where
  pub tasks : ℕ
  pub running : Option ℕ
  pub state : (task : ℕ) → TaskState
  pub active : (task : ℕ) → ℕ
  pub barrier : (object : ℕ) → Bool
  pub inside : (object : ℕ) → List ℕ
  pub is_inside : (task object : ℕ) → Bool
  pub queued : (object : ℕ) → Option ℕ

abbrev pub observed : HeldWorld → Observed
observed h =
    let k = kernel_of h.tasking in
    record {
      tasks = k.partition.tasks;
      running = option_map (told k.partition) k.running;
      state = λ t. state_of (place_asked k t);
      active = λ t. active_asked k t;
      barrier = λ o. is_open h.image (world_of h).rest.memory o;
      inside = λ o. map (told k.partition) (inside k o);
      is_inside = λ t o. is_object_open o (k.actions t);
      queued = λ o. k.queued o;
    }

-- task t, or the handler, is one of those inside object o
abbrev pub IsAmongInside : Observed → ℕ → ℕ → Type 0
IsAmongInside a o t = StandsIn (a.inside o) t

pub record Excludes (a : Observed) : Type 0 where
  -- (1) at most one task is inside each object (RM 9.5.1)
  pub one_inside : (o : ℕ) → length (a.inside o) ≤ 1
  -- (2) tasks inside objects have pairwise different active priorities (RM D.3), and none of them is delayed or queued (RM H.5)
  pub different : (o p t u : ℕ) → IsAmongInside a o t → IsAmongInside a p u → t ≢ u → a.active t ≢ a.active u
  pub none_waits : (o t : ℕ) → IsAmongInside a o t → (a.state t ≡ Running) ⊎ (a.state t ≡ Ready)
  -- (3) where a task is ready one runs, and no ready task has a higher active priority than the running one (RM D.2.1)
  pub highest_runs : (t : ℕ) → a.state t ≡ Ready → (r : ℕ) × (a.running ≡ Some r) × (a.active t ≤ a.active r)
  -- (4) a task waits for its call of an object only while the object's barrier is closed or somebody is inside it (RM 9.5.3)
  pub waits_closed : (o t : ℕ) → a.state t ≡ Queued o → (a.barrier o ≡ false) ⊎ ((u : ℕ) × IsAmongInside a o u)
  -- the other calls agree: `running`, `is_inside` and `queued` with `state` and `inside`
  pub runs : (t : ℕ) → a.running ≡ Some t → a.state t ≡ Running
  pub runner : (t : ℕ) → a.state t ≡ Running → a.running ≡ Some t
  pub inside_one : (o t : ℕ) → t < a.tasks → a.is_inside t o ≡ true → IsAmongInside a o t
  pub one_of_inside : (o t : ℕ) → t < a.tasks → IsAmongInside a o t → a.is_inside t o ≡ true
  pub queued_waits : (o t : ℕ) → a.queued o ≡ Some t → a.state t ≡ Queued o
