-- Which signs events give, and the cells that have them.
use Rattle.std.specs.Prelude.{ℕ, ◌+◌, ◌*◌, List, [], ◌∷◌, Bool, true, false, ◌&&◌, Option, Some, None, nat_eq, if◌then◌else◌}
use Rattle.machine.specs.declared.reports.Event as reports
use Rattle.machine.specs.declared.reports.Event.TheVariants as reported
use Rattle.tracing.specs.declared.calls.TheConstants.{ACTORS}
use Rattle.tracing.specs.declared.event.Event.{Event}
use Rattle.tracing.specs.declared.event.Event.TheVariants.{Ready, Preempted, Waits, Late, Wakes, Enters, Leaves, Queues, Served, Returns, Ends, Unhandled}
use Rattle.charts.specs.Cells.{no_signs, noted}
use Rattle.charts.specs.declared.cell.Cell.{Cell}
use Rattle.charts.specs.declared.cell.Rest.TheVariants as resting
use Rattle.charts.specs.declared.cell.Sign.{Sign}
use Rattle.charts.specs.declared.cell.Sign.TheVariants as signs
use Rattle.charts.specs.declared.rows.Row.{Row}
use Rattle.charts.specs.declared.rows.Row.TheVariants.{Actor, Object, Lines}
use Rattle.charts.specs.declared.signs.Note.{Note}

abbrev pub of_actor : ℕ → Sign → Option Note
of_actor t sign = Some (record { row = Actor t; sign = sign })

-- What an event says of a task, or of the handler of an interrupt. A task is ready at the start, where it wakes, and where its queued call is over.
abbrev pub actor_note : Event → Option Note
actor_note (Ready t) = of_actor t (signs.Rests resting.Ready)
actor_note (Wakes t) = of_actor t (signs.Rests resting.Ready)
actor_note (Returns t o) = of_actor t (signs.Rests resting.Ready)
actor_note (Queues t o a) = of_actor t (signs.Rests resting.Queued)
actor_note (Waits t time a) = of_actor t (signs.Rests resting.Delayed)
actor_note (Ends t) = of_actor t (signs.Rests resting.Nothing)
actor_note (Preempted t u) = of_actor t signs.Preempted
actor_note (Late t by a) = of_actor t signs.Late
actor_note (Unhandled t x) = of_actor t signs.Unhandled
actor_note event = None

abbrev pub of_object : ℕ → Sign → Option Note
of_object o sign = Some (record { row = Object o; sign = sign })

-- What it says of an object: it is used where an action of it begins or ends, and where a call of its entry is queued. The queue is empty where that call is
-- served.
abbrev pub object_note : Event → Option Note
object_note (Enters t o p a) = of_object o signs.Acts
object_note (Leaves t o p a) = of_object o signs.Acts
object_note (Queues t o a) = of_object o signs.Queues
object_note (Served u o t) = of_object o (signs.Rests resting.Nothing)
object_note event = None

-- Lines

abbrev pub is_line : reports.Event → Bool
is_line (reported.Line text) = true
is_line event = false

abbrev pub line_note : (wrote : Bool) → Option Note
line_note true = Some (record { row = Lines; sign = signs.Acts })
line_note false = None

-- Cells, by the number of a row and a column

abbrev pub row_number : Row → ℕ
row_number (Actor t) = t
row_number (Object o) = ACTORS + o
row_number Lines = 2 * ACTORS

abbrev pub Cells : Type 0
Cells = ℕ → ℕ → Cell

abbrev pub nothing_seen : Cells
nothing_seen row column = no_signs

abbrev pub with_note : (column : ℕ) → Option Note → Cells → Cells
with_note column None cells = cells
with_note column (Some note) cells = λ r c. if nat_eq r (row_number note.row) && nat_eq c column then noted note.sign (cells r c) else cells r c

abbrev pub with_event : (column : ℕ) → Event → Cells → Cells
with_event column event cells = with_note column (object_note event) (with_note column (actor_note event) cells)

abbrev pub with_events : (column : ℕ) → List Event → Cells → Cells
with_events column [] cells = cells
with_events column (e ∷ events) cells = with_events column events (with_event column e cells)
