-- The instants of a run's virtual time, and the world at the end of each.
use Rattle.std.specs.Prelude.{ℕ, suc, List, [], ◌∷◌, ◌++◌, None, ℤ, int_lt, if◌then◌else◌}
use Rattle.base.specs.declared.schedule.ScheduleLine.{ScheduleLine}
use Rattle.kernel.specs.State.{Kernel, TaskPlace, IsReady, IsRunning, IsAsleep, is_task}
use Rattle.image.specs.Code.{CodeWorld, code}
use Rattle.image.specs.Sections.{Sections}
use Rattle.waveforms.specs.Signals.{all_below}

-- An instant ends where the clock moves, within the step that lets it move. Then nobody runs or is ready: who does so in the kernel l after the step has slept
-- until the clock moved, and a handler that runs there has begun since.

abbrev pub slept : TaskPlace → TaskPlace
slept IsReady = IsAsleep
slept IsRunning = IsAsleep
slept place = place

abbrev pub waiting : Kernel → Kernel
waiting l = record l { running = None; place = λ t. slept (l.place t); actions = λ t. if is_task l.partition t then l.actions t else [] }

-- the kernel at the end of the instant of this time
abbrev pub before_clock : (time : ℤ) → Kernel → Kernel
before_clock time l = record (waiting l) { now = time }

-- The world there, by the world w after the step. Words are those of w: the task that took the step had changed them before the clock moved, and nobody has
-- since, for the start of a handler changes the kernel alone.

abbrev pub waiting_world : CodeWorld → CodeWorld
waiting_world w = record { kernel = waiting w.kernel; rest = w.rest }

abbrev pub world_before : (time : ℤ) → CodeWorld → CodeWorld
world_before time w = record { kernel = before_clock time w.kernel; rest = w.rest }

-- that world, where a step that was taken at this time and leads to w ends the instant
abbrev pub ended_by : (time : ℤ) → CodeWorld → List CodeWorld
ended_by time w = if int_lt time w.kernel.now then world_before time w ∷ [] else []

-- those at the ends of the instants that n steps end
abbrev pub ended : Sections → List ScheduleLine → ℕ → List CodeWorld
ended i schedule n = all_below n (λ m. ended_by (code i schedule m).kernel.now (code i schedule (suc m)))

-- those of all instants of a run of n steps: the last instant ends with the run
abbrev pub instants : Sections → List ScheduleLine → ℕ → List CodeWorld
instants i schedule n = ended i schedule n ++ code i schedule n ∷ []
