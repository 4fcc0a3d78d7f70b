-- What the machine tells of a task, by its place in the kernel (RM 9, D.2.1).
use Rattle.std.specs.Prelude.{ℕ, Option, Some, None}
use Rattle.kernel.specs.Interrupts.{asked}
use Rattle.kernel.specs.State.{Kernel, active, TaskPlace, IsRunning, IsReady, IsAsleep, IsQueued, IsServed, IsFinished}
use Rattle.machine.specs.declared.task_state.TaskState.{TaskState}
use Rattle.machine.specs.declared.task_state.TaskState.TheVariants.{Running, Ready, Delayed, Queued, Finished}

-- a caller whose entry body another task runs is told as one whose call is queued: it waits for the end of that call (RM 9.5.3)
abbrev pub state_of : TaskPlace → TaskState
state_of IsRunning = Running
state_of IsReady = Ready
state_of IsAsleep = Delayed
state_of (IsQueued o) = Queued o
state_of (IsServed o) = Queued o
state_of IsFinished = Finished

-- the place of a task that is asked for by its number, or by 255 of the handler that runs (RM C.3.1)
abbrev pub place_if : Kernel → Option ℕ → TaskPlace
place_if k None = IsFinished
place_if k (Some t) = k.place t

abbrev pub place_asked : Kernel → ℕ → TaskPlace
place_asked k n = place_if k (asked k n)

abbrev pub active_if : Kernel → Option ℕ → ℕ
active_if k None = 0
active_if k (Some t) = active k t

abbrev pub active_asked : Kernel → ℕ → ℕ
active_asked k n = active_if k (asked k n)
