-- What is proved of exceptions that are told ahead, as statements for contracts.
use Rattle.std.specs.Prelude.{◌≡◌, ℕ, List, Some, None}
use Rattle.base.specs.declared.schedule.ScheduleLine.{ScheduleLine}
use Rattle.handlers.specs.declared.rows.Row.{Row}
use Rattle.kernel.specs.State.{Kernel}
use Rattle.kernel.specs.Worlds.{Solo}
use Rattle.image.specs.Frames.{TaskState, Words}
use Rattle.image.specs.Sections.{Sections}
use Rattle.image.specs.Steps.{act, unwind}
use Rattle.task_steps.specs.Raised.{death_of, raised}

-- a step that is told to raise an exception is the unwinding of it, by the handlers that there are (RM 11.4)
abbrev pub RaisedIsUnwound : Type 0
RaisedIsUnwound =
    (i : Sections) (schedule : List ScheduleLine) (k : Kernel) (t : ℕ) (s : Solo Words TaskState) (x : ℕ) → raised i schedule k t s ≡ Some x
    → act i schedule k t s ≡ unwind i s.memory x s.task.frame s.task.callers

-- one that is told to raise none is the same whatever handlers there are, and nobody dies of it
abbrev pub OthersAskNoHandler : Type 0
OthersAskNoHandler =
    (i : Sections) (schedule : List ScheduleLine) (k : Kernel) (t : ℕ) (s : Solo Words TaskState) → raised i schedule k t s ≡ None → (rows : List Row)
    → (act (record i { rows = rows }) schedule k t s ≡ act i schedule k t s) × (death_of (act i schedule k t s).effect ≡ None)
