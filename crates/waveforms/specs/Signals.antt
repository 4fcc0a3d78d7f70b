-- The values of a run's signals: its time, the states of its tasks and protected objects, its variables, its inputs and its lines, by the world of code.
use Rattle.std.specs.Prelude.{ℕ, zero, suc, ◌+◌, ◌*◌, ℤ, pos, List, [], ◌∷◌, ◌++◌, Option, Some, None, Bool, false, get_or, length, map, nat_eq, slice_get, if◌then◌else◌}
use Rattle.std.specs.Int.{cast_unsigned, w64}
use Rattle.std.specs.List.{list_any}
use Rattle.base.specs.Schedule.{input}
use Rattle.base.specs.declared.limits.TheConstants.{CHANNELS}
use Rattle.base.specs.declared.schedule.ScheduleLine.{ScheduleLine}
use Rattle.kernel.specs.State.{Kernel, Outcome, Unhandled, TaskPlace, IsRunning, IsReady, IsAsleep, IsQueued, IsServed, IsFinished, active, inside, is_task}
use Rattle.image.specs.Code.{CodeWorld}
use Rattle.waveforms.specs.Lines.{TaskLabel, line_values}
use Rattle.waveforms.specs.Scopes.{VariableScope, Scopes, Variable}

-- what stands for each number below n, in their order
abbrev pub all_below : {X : Type 0} → ℕ → (ℕ → List X) → List X
all_below zero f = []
all_below (suc n) f = all_below n f ++ f n

-- Tasks

abbrev pub place_number : TaskPlace → ℕ
place_number IsReady = 0
place_number IsRunning = 1
place_number IsAsleep = 2
place_number (IsQueued o) = 3
place_number (IsServed o) = 4
place_number IsFinished = 5

-- whether an exception has left the body of task t, which ends the run (RM 11.4.1)
abbrev pub is_left : ℕ → Option Outcome → Bool
is_left t (Some (Unhandled x u)) = nat_eq u t
is_left t _ = false

abbrev pub state_number : Kernel → ℕ → ℕ
state_number k t = if is_left t k.outcome then 6 else place_number (k.place t)

abbrev pub task_values : Kernel → ℕ → List ℕ
task_values k t = state_number k t ∷ active k t ∷ []

-- Objects

-- a task's number counted from 1, or 0 for nobody
abbrev pub from_one : Option ℕ → ℕ
from_one None = 0
from_one (Some t) = t + 1

-- the handler of an interrupt has the number behind those of the tasks
abbrev pub shown : Kernel → Option ℕ → Option ℕ
shown k None = None
shown k (Some t) = Some (if is_task k.partition t then t else k.partition.tasks)

-- who is inside, one task or handler at most by ceilings alone (kernel/specs/Exclusion), and whose call waits in the queue of its entry
abbrev pub object_values : Kernel → ℕ → List ℕ
object_values k o = from_one (shown k (slice_get (inside k o) 0)) ∷ from_one (k.queued o) ∷ []

-- Variables

-- the value of a variable that is the word of this number, in 64 bits; 0 where there is no such word
abbrev pub word_value : List ℤ → ℕ → ℕ
word_value words n = cast_unsigned w64 (get_or words n (pos 0))

abbrev pub variable_values : List ℤ → List Variable → List ℕ
variable_values words vs = map (λ v. word_value words v.word) vs

abbrev pub variables_in : Option VariableScope → List Variable
variables_in None = []
variables_in (Some s) = s.variables

abbrev pub package_variables : Scopes → List Variable
package_variables scopes = variables_in scopes.package_

-- those of object o: its components
abbrev pub components : Scopes → ℕ → List Variable
components scopes o = variables_in (slice_get scopes.objects o)

-- Inputs

abbrev pub has_line : List ScheduleLine → ℕ → Bool
has_line schedule c = list_any (λ l. nat_eq l.channel c) schedule

-- the channels that have a line in the schedule, in their order; the first one there may be is 1
abbrev pub channels : List ScheduleLine → List ℕ
channels schedule = all_below CHANNELS (λ n. if has_line schedule (suc n) then suc n ∷ [] else [])

-- the value of a channel at a time, in 64 bits
abbrev pub input_value : List ScheduleLine → (time : ℤ) → ℕ → ℕ
input_value schedule time c = cast_unsigned w64 (input schedule c time)

abbrev pub input_values : List ScheduleLine → (time : ℤ) → List ℕ
input_values schedule time = map (input_value schedule time) (channels schedule)

-- All, in the order in which the signals are declared

abbrev pub shown_object : Scopes → CodeWorld → ℕ → List ℕ
shown_object scopes w o = object_values w.kernel o ++ variable_values (w.rest.memory.objects o) (components scopes o)

-- those that the world determines alone; the time is in 64 bits
abbrev pub world_values : Scopes → CodeWorld → List ℕ
world_values scopes w =
    (cast_unsigned w64 w.kernel.now ∷ [])
    ++ all_below w.kernel.partition.tasks (task_values w.kernel)
    ++ variable_values w.rest.memory.plain (package_variables scopes)
    ++ all_below w.kernel.partition.objects (shown_object scopes w)

-- with the inputs at its time
abbrev pub known_values : Scopes → List ScheduleLine → CodeWorld → List ℕ
known_values scopes schedule w = world_values scopes w ++ input_values schedule w.kernel.now

-- all signals: those that have a value from the start, and after them those of lines, which have one from the first line on
pub record Shown : Type 0 where
  pub known : List ℕ
  pub lines : List (Option ℕ)

abbrev pub values : Scopes → List ScheduleLine → List TaskLabel → CodeWorld → Shown
values scopes schedule labels w = record { known = known_values scopes schedule w; lines = line_values labels w.kernel.lines }

-- Signals are numbered from 0. The first of the package follows the time and those of the tasks, of which there are so many.

abbrev pub package_first : (tasks : ℕ) → ℕ
package_first tasks = 1 + 2 * tasks

-- The first of object o follows those of the package and of the objects before it; so many signals there are before it. The first of the inputs follows those
-- of all objects.
abbrev pub object_first : Scopes → (tasks : ℕ) → ℕ → ℕ
object_first scopes tasks zero = package_first tasks + length (package_variables scopes)
object_first scopes tasks (suc o) = object_first scopes tasks o + 2 + length (components scopes o)

-- the first of the lines follows those of the inputs
abbrev pub lines_first : Scopes → List ScheduleLine → (tasks objects : ℕ) → ℕ
lines_first scopes schedule tasks objects = object_first scopes tasks objects + length (channels schedule)
