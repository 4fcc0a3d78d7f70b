-- The trace of a run, row by row, and its text (docs/FORMATS.md, "Traces").
use Rattle.std.specs.Prelude.{ℕ, zero, suc, ◌-◌, List, [], ◌∷◌, ◌++◌, ℤ, Bool, Option, Some, None, ◌&&◌, codes, decimal, drop, int_le, int_lt, length, map, slice_get, take, if◌then◌else◌}
use Rattle.std.specs.Fmt.{signed_decimal}
use Rattle.base.specs.declared.schedule.ScheduleLine.{ScheduleLine}
use Rattle.kernel.specs.State.{Kernel, Line, Outcome}
use Rattle.kernel.specs.Text.{Names, line_text}
use Rattle.image.specs.Code.{code}
use Rattle.image.specs.Sections.{Sections}
use Rattle.image.specs.Texts.{names_of}
use Rattle.machine.specs.Bounds.{cut_line}
use Rattle.machine.specs.declared.bound.Bound.{Bound}
use Rattle.task_steps.specs.declared.foreseeing.Cause.{Cause}
use Rattle.task_steps.specs.declared.foreseeing.Cause.TheVariants as causes
use Rattle.tracing.specs.Calls.{CallTimes, call_times}
use Rattle.tracing.specs.Changes.{next_ahead, since_clock, starts, until_clock}
use Rattle.tracing.specs.Known.{Known}
use Rattle.tracing.specs.declared.ahead.Ahead.{Ahead}
use Rattle.tracing.specs.declared.event.Event.{Event}
use Rattle.tracing.specs.declared.event.Event.TheVariants.{Ready, Runs, Refused, Raises, RaisesAtCall, Preempted, GivesWay, Waits, Late, Reads, Wakes, Enters, Leaves, Queues, Served, Returns, HasWaited, Ends, Unhandled, ClockMoves}
use Rattle.tracing.specs.declared.origin.Origin.{Origin}

-- what a row reports: a line that the task wrote, by the instruction of this address; a line of the schedule to which the clock has come; or an event
pub data Telling : Type 0 where
  Wrote : (task : ℕ) (address : Option ℕ) (line : Line) → Telling
  Comes : (input : ScheduleLine) → Telling
  Shows : (event : Event) → Telling

-- a row: the time, how many steps had been taken with the one that it tells of, and what it tells
pub record TraceRow : Type 0 where
  pub time : ℤ
  pub step : ℕ
  pub telling : Telling

abbrev pub row : ℤ → ℕ → Telling → TraceRow
row time step telling = record { time = time; step = step; telling = telling }

abbrev pub shown : ℤ → ℕ → List Event → List TraceRow
shown time step events = map (λ e. row time step (Shows e)) events

abbrev pub wrote : ℤ → ℕ → ℕ → Option ℕ → List Line → List TraceRow
wrote time step t a lines = map (λ l. row time step (Wrote t a l)) lines

-- the clock, which was at `since`, has come to a line of the schedule
abbrev pub has_come : (since : Option ℤ) → (now : ℤ) → ScheduleLine → Bool
has_come None now x = int_le x.time now
has_come (Some since) now x = int_lt since x.time && int_le x.time now

abbrev pub lines_come : (since : Option ℤ) → (now : ℤ) → List ScheduleLine → List ScheduleLine
lines_come since now [] = []
lines_come since now (x ∷ schedule) = if has_come since now x then x ∷ lines_come since now schedule else lines_come since now schedule

-- the rows of these lines, each at its own time
abbrev pub came : ℕ → List ScheduleLine → List TraceRow
came step lines = map (λ x. row x.time step (Comes x)) lines

-- the rows of step n, which leads from kernel k to kernel l, by the calls before it and what is known of it before it is taken: none where there was an
-- outcome, and so nobody ran
abbrev pub rows_of_step : List ScheduleLine → CallTimes → Ahead → Kernel → Kernel → ℕ → Option Outcome → Option ℕ → List TraceRow
rows_of_step schedule calls ahead k l n (Some o) running = []
rows_of_step schedule calls ahead k l n None None = []
rows_of_step schedule calls ahead k l n None (Some t) =
    wrote k.now n t ahead.address (drop (length k.lines) l.lines)
    ++ shown k.now n (until_clock calls ahead k l t)
    ++ came n (lines_come (Some k.now) l.now schedule)
    ++ shown l.now n (since_clock k l t)

-- the rows of the start and of the first n steps of an image's code
abbrev pub rows : Sections → List ScheduleLine → ℕ → List TraceRow
rows i schedule zero = let k = (code i schedule 0).kernel in came 0 (lines_come None k.now schedule) ++ shown k.now 0 (starts k)
rows i schedule (suc n) =
    let w = code i schedule n in
    let l = (code i schedule (suc n)).kernel in
    rows i schedule n ++ rows_of_step schedule (call_times i schedule n) (next_ahead i schedule w) w.kernel l (suc n) w.kernel.outcome w.kernel.running

-- Text

-- the names of tasks and exceptions, as lines have them, those of protected objects, and what is known of the source
pub record RowNames : Type 0 where
  pub line : Names
  pub object : ℕ → List ℕ
  pub known : Known

-- an image has no names of objects: one for which none is given is told by its number
abbrev pub named_object : ℕ → Option (List ℕ) → List ℕ
named_object o (Some name) = name
named_object o None = codes "object " ++ decimal o

-- objects have these names, in the order of their numbers
abbrev pub row_names : Sections → (objects : List (List ℕ)) → Known → RowNames
row_names i objects known = record { line = names_of i; object = λ o. named_object o (slice_get objects o); known = known }

-- whom a row is of: nobody where the clock moves
abbrev pub task_of : Names → Event → List ℕ
task_of names (Ready t) = names.task t
task_of names (Runs t p) = names.task t
task_of names (Preempted t u) = names.task t
task_of names (GivesWay t u) = names.task t
task_of names (Refused t cause a) = names.task t
task_of names (Raises t x s a) = names.task t
task_of names (RaisesAtCall t x s a) = names.task t
task_of names (Waits t time a) = names.task t
task_of names (Late t by a) = names.task t
task_of names (Reads t channel value a) = names.task t
task_of names (Wakes t) = names.task t
task_of names (Enters t o p a) = names.task t
task_of names (Leaves t o p a) = names.task t
task_of names (Queues t o a) = names.task t
task_of names (Served t o u) = names.task t
task_of names (Returns t o) = names.task t
task_of names (HasWaited t o time) = names.task t
task_of names (Ends t) = names.task t
task_of names (Unhandled t x) = names.task t
task_of names ClockMoves = codes "-"

-- why Program_Error is raised, where something is refused (RM 9.5.1, D.3, D.7, H.5)
abbrev pub cause_text : (object : ℕ → List ℕ) → Cause → List ℕ
cause_text object (causes.InsideObject o) = (codes "is refused at " ++ object o) ++ codes ": it is inside an action of it"
cause_text object (causes.AboveCeiling o) = (codes "is refused at " ++ object o) ++ codes ": its priority is above the ceiling"
cause_text object (causes.InsideAction o) = (codes "is refused at " ++ object o) ++ codes ": it is inside an action"
cause_text object (causes.QueueFull o) = (codes "is refused at " ++ object o) ++ codes ": a call is queued already"
cause_text object causes.MayNotBlock = codes "is refused: it is inside an action"

-- where the instruction stands that raises: line and column, or nothing where that isn't known
abbrev pub origin_text : Option Origin → List ℕ
origin_text None = []
origin_text (Some o) = (codes " at " ++ decimal o.line) ++ (codes ":" ++ decimal o.column)

-- where the instruction of an address comes from
abbrev pub origin_at : (ℕ → Option Origin) → Option ℕ → Option Origin
origin_at origin None = None
origin_at origin (Some a) = origin a

abbrev pub place_text : RowNames → Option ℕ → List ℕ
place_text names a = origin_text (origin_at names.known.origin a)

-- the operation or entry that the instruction of an address calls, after the name of its object; nothing where that isn't known
abbrev pub operation_text : Option (List ℕ) → List ℕ
operation_text None = []
operation_text (Some name) = codes "." ++ name

abbrev pub operation_at : (ℕ → Option (List ℕ)) → Option ℕ → Option (List ℕ)
operation_at operation None = None
operation_at operation (Some a) = operation a

abbrev pub called_text : RowNames → Option ℕ → List ℕ
called_text names a = operation_text (operation_at names.known.operation a)

abbrev pub event_text : RowNames → Event → List ℕ
event_text names (Ready t) = codes "is ready"
event_text names (Runs t p) = codes "runs at " ++ decimal p
event_text names (Preempted t u) = codes "is preempted by " ++ names.line.task u
event_text names (GivesWay t u) = codes "gives way to " ++ names.line.task u
event_text names (Refused t cause a) = cause_text names.object cause ++ place_text names a
event_text names (Raises t x s a) = (codes "raises " ++ names.line.exception x) ++ origin_text (names.known.origin a)
event_text names (RaisesAtCall t x s a) = ((codes "raises " ++ names.line.exception x) ++ codes " at its call") ++ origin_text (names.known.origin a)
event_text names (Waits t time a) = (codes "waits until " ++ signed_decimal time) ++ place_text names a
event_text names (Late t by a) = (codes "is late by " ++ decimal by) ++ place_text names a
event_text names (Reads t channel value a) = ((codes "reads " ++ signed_decimal value) ++ (codes " from " ++ signed_decimal channel)) ++ place_text names a
event_text names (Wakes t) = codes "wakes"
event_text names (Enters t o p a) = (((codes "enters " ++ names.object o) ++ called_text names a) ++ (codes " at " ++ decimal p)) ++ place_text names a
event_text names (Leaves t o p a) = ((codes "leaves " ++ names.object o) ++ (codes " at " ++ decimal p)) ++ place_text names a
event_text names (Queues t o a) = ((codes "queues at " ++ names.object o) ++ called_text names a) ++ place_text names a
event_text names (Served t o u) = (codes "is served at " ++ names.object o) ++ (codes " by " ++ names.line.task u)
event_text names (Returns t o) = codes "has been served at " ++ names.object o
event_text names (HasWaited t o time) = (codes "has waited " ++ decimal time) ++ (codes " at " ++ names.object o)
event_text names (Ends t) = codes "ends"
event_text names (Unhandled t x) = codes "is left by " ++ names.line.exception x
event_text names ClockMoves = codes "the clock moves"

-- `time step TASK `
abbrev pub heading : ℤ → ℕ → List ℕ → List ℕ
heading time step task = signed_decimal time ++ codes " " ++ decimal step ++ codes " " ++ task ++ codes " "

-- a line without the line feed at its end
abbrev pub without_end : List ℕ → List ℕ
without_end text = take (length text - 1) text

abbrev pub input_text : ScheduleLine → List ℕ
input_text x = (codes "line " ++ decimal x.channel) ++ (codes " " ++ signed_decimal x.value)

-- a line of the run is word for word in its row
abbrev pub telling_text : RowNames → ℤ → ℕ → Telling → List ℕ
telling_text names time step (Wrote t a line) =
    (heading time step (names.line.task t) ++ codes "writes ") ++ without_end (line_text names.line line) ++ (place_text names a ++ codes "\n")
telling_text names time step (Comes x) = heading time step (codes "-") ++ input_text x ++ codes "\n"
telling_text names time step (Shows e) = heading time step (task_of names.line e) ++ event_text names e ++ codes "\n"

abbrev pub row_text : RowNames → TraceRow → List ℕ
row_text names r = telling_text names r.time r.step r.telling

abbrev pub rows_text : RowNames → List TraceRow → List ℕ
rows_text names [] = []
rows_text names (r ∷ rs) = row_text names r ++ rows_text names rs

-- all that the trace of a run within a bound writes: its rows, where objects have these names and this is known of the source, and the last line of the run
abbrev pub trace_text : Sections → (objects : List (List ℕ)) → Known → List ScheduleLine → Bound → List ℕ
trace_text i objects known schedule bound =
    let k = (code i schedule bound.steps).kernel in
    rows_text (row_names i objects known) (rows i schedule bound.steps) ++ cut_line bound.cut (names_of i) k.outcome k.now

-- Lines

abbrev pub line_of : Telling → List Line
line_of (Wrote t a line) = line ∷ []
line_of (Comes x) = []
line_of (Shows e) = []

-- the lines that rows tell, in their order
abbrev pub lines_told : List TraceRow → List Line
lines_told [] = []
lines_told (r ∷ rs) = line_of r.telling ++ lines_told rs
