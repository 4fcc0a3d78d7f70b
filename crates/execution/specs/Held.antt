-- What a run holds between steps, the world of code that this is, and when steps lead from one to another.
use Rattle.std.specs.Prelude.{◌≡◌, ℕ, ◌++◌, ◌∷◌, ◌||◌, List, [], Bool, not, get_or, length, map, nat_lt, slice_set, Option, Some, None, if◌then◌else◌}
use Rattle.base.specs.declared.schedule.ScheduleLine.{ScheduleLine}
use Rattle.kernel.specs.State as kernel
use Rattle.kernel.specs.Worlds.{Tasks, among, run}
use Rattle.image.specs.Code.{CodeWorld, body_frame, initial_state}
use Rattle.image.specs.Frames.{TaskState, Words}
use Rattle.image.specs.Operations.{called}
use Rattle.image.specs.Sections.{Sections}
use Rattle.image.specs.Steps.{behaviour}
use Rattle.image.specs.Texts.{text_at}
use Rattle.processor.specs.Decoding.{words_in}
use Rattle.processor.specs.Layout.{TaskRow}
use Rattle.task_steps.specs.Acting.{MemoryRows}
use Rattle.tasking.specs.Held as tasking
use Rattle.tasking.specs.Held.{is_handler, kernel_of}
use Rattle.execution.specs.declared.line.Line.{Line}

-- an image, the lines of the schedule, the row of shared words, the frames of the tasks and, in a last row, of the handler that runs, and what the kernel's
-- code holds
pub record HeldWorld : Type 0 where
  pub image : Sections
  pub schedule : List ScheduleLine
  pub memory : MemoryRows
  pub tasks : List TaskState
  pub tasking : tasking.Held

-- the tasks that rows hold
abbrev pub tasks_in : List TaskRow → List TaskState
tasks_in rows = map (λ r. r.task) rows

-- the frames of all rows may have so many words
abbrev pub RowsAreWide : ℕ → List TaskRow → Type 0
RowsAreWide width [] = Unit {0}
RowsAreWide width (r ∷ rows) = (r.width ≡ width) × RowsAreWide width rows

-- a task at the first instruction of subprogram n
abbrev pub body_state : Sections → ℕ → TaskState
body_state i n = record { frame = body_frame i n (called i n); callers = []; raising = None }

-- the row of a task, or of the handler that runs
abbrev pub row_of : Sections → ℕ → ℕ
row_of i t = if nat_lt t (length i.tasks) then t else length i.tasks

abbrev pub row_at : Sections → List TaskState → ℕ → TaskState
row_at i rows t = get_or rows (row_of i t) (initial_state i t)

-- a handler that has not begun is as its start needs, and so is a number that no task has
abbrev pub task_at : Sections → Option ℕ → List TaskState → ℕ → TaskState
task_at i handler rows t = if nat_lt t (length i.tasks) || is_handler handler t then row_at i rows t else initial_state i t

-- the handler that has begun: it did not run before, or has begun anew
abbrev pub begun : (before : Option ℕ) → (is_over : Bool) → (now : Option ℕ) → Option ℕ
begun before is_over None = None
begun before is_over (Some a) = if is_over || not (is_handler before a) then Some a else None

-- the last row holds what its start needs
abbrev pub prepared : Sections → List TaskState → Option ℕ → List TaskState
prepared i rows None = rows
prepared i rows (Some a) = slice_set rows (length i.tasks) (initial_state i a)

abbrev pub tasks_of : HeldWorld → ℕ → TaskState
tasks_of h = task_at h.image h.tasking.handler h.tasks

abbrev pub rest_of : HeldWorld → Tasks Words TaskState
rest_of h = record { memory = words_in h.image h.memory.shared; tasks = tasks_of h }

-- the world of code, beside the lines that were written
abbrev pub world_with : List kernel.Line → HeldWorld → CodeWorld
world_with lines h = record { kernel = record (kernel_of h.tasking) { lines = lines }; rest = rest_of h }

abbrev pub world_of : HeldWorld → CodeWorld
world_of h = record { kernel = kernel_of h.tasking; rest = rest_of h }

-- the line with its label's bytes in place of the number
abbrev pub line_of : Sections → Line → kernel.Line
line_of i l = record { time = l.time; task = l.task; label = text_at i.labels l.label; value = l.value }

abbrev pub lines_of : Sections → Option Line → List kernel.Line
lines_of i None = []
lines_of i (Some l) = line_of i l ∷ []

-- n steps of code lead from what was held to what is held, whatever was written before, and write these lines
pub record Leads (n : ℕ) (before after : HeldWorld) (told : List kernel.Line) : Type 0 where
  pub image : after.image ≡ before.image
  pub schedule : after.schedule ≡ before.schedule
  pub world : (lines : List kernel.Line) → run (among (behaviour before.image before.schedule)) n (world_with lines before) ≡ world_with (lines ++ told) after
