-- What is written of one step, by what the machine's step has told.
use Rattle.std.specs.Prelude.{ℕ, Bool, true, false, List, [], ◌++◌, ℤ, Option, Some, None, codes}
use Rattle.kernel.specs.State.{Kernel}
use Rattle.base.specs.declared.schedule.ScheduleLine.{ScheduleLine}
use Rattle.machine.specs.declared.reports.Event.{Event}
use Rattle.machine.specs.declared.reports.Event.TheVariants as events
use Rattle.tracing.specs.Calls.{CallTimes}
use Rattle.tracing.specs.Changes.{since_clock, starts, until_clock}
use Rattle.tracing.specs.declared.ahead.Ahead.{Ahead}
use Rattle.tracing.specs.declared.event.Event as changes
use Rattle.tracing.specs.declared.event.Event.TheVariants as about
use Rattle.tracing.specs.Traces.{RowNames, came, heading, lines_come, place_text, rows_text, shown, without_end}

-- the row of the line that was reported, if one was
abbrev pub line_text_of : RowNames → ℤ → ℕ → ℕ → Option ℕ → Event → List ℕ
line_text_of names time step t a (events.Line text) =
    (heading time step (names.line.task t) ++ codes "writes ") ++ without_end text.items ++ (place_text names a ++ codes "\n")
line_text_of names time step t a _ = []

abbrev pub step_text : RowNames → List ScheduleLine → CallTimes → Ahead → Kernel → Kernel → ℕ → Event → Option ℕ → List ℕ
step_text names schedule calls ahead k l step told None = []
step_text names schedule calls ahead k l step told (Some t) =
    line_text_of names k.now step t ahead.address told
    ++ rows_text names (shown k.now step (until_clock calls ahead k l t))
    ++ rows_text names (came step (lines_come (Some k.now) l.now schedule))
    ++ rows_text names (shown l.now step (since_clock k l t))

-- what is written of the start
abbrev pub start_text : RowNames → List ScheduleLine → Kernel → List ℕ
start_text names schedule k = rows_text names (came 0 (lines_come None k.now schedule)) ++ rows_text names (shown k.now 0 (starts k))

-- Events by what they are about

abbrev pub is_request : changes.Event → Bool
is_request (about.Waits t time a) = true
is_request (about.Late t by a) = true
is_request (about.Reads t channel value a) = true
is_request event = false

abbrev pub is_trouble : changes.Event → Bool
is_trouble (about.Refused t cause a) = true
is_trouble (about.Raises t x s a) = true
is_trouble (about.RaisesAtCall t x s a) = true
is_trouble (about.Unhandled t x) = true
is_trouble event = false

abbrev pub is_crossing : changes.Event → Bool
is_crossing (about.Enters t o p a) = true
is_crossing (about.Leaves t o p a) = true
is_crossing event = false

abbrev pub is_service : changes.Event → Bool
is_service (about.Queues t o a) = true
is_service (about.Served t o u) = true
is_service (about.Returns t o) = true
is_service (about.HasWaited t o time) = true
is_service event = false
