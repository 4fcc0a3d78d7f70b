-- A task that runs and that no ready task may preempt.
use Rattle.std.specs.Prelude.{◌≡◌, ℕ, ◌<◌, [], Some, None}
use Rattle.kernel.specs.State.{Kernel, active}

-- task t runs
pub record IsRunner (k : Kernel) (t : ℕ) : Type 0 where
  pub on : k.outcome ≡ None
  pub running : k.running ≡ Some t

-- task t runs, and no ready task has a higher priority: each list above its active priority is empty
pub record Calm (k : Kernel) (t : ℕ) : Type 0 where
  pub runs : IsRunner k t
  pub above : (h : ℕ) → active k t < h → k.ready h ≡ []
