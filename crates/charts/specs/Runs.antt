-- What is to be seen of a run after so many steps, by the events of its trace.
use Rattle.std.specs.Prelude.{ℕ, zero, suc, List, Bool, Option, Some, None, length, nat_lt}
use Rattle.base.specs.declared.schedule.ScheduleLine.{ScheduleLine}
use Rattle.kernel.specs.State.{Kernel, Outcome}
use Rattle.image.specs.Code.{code}
use Rattle.image.specs.Sections.{Sections}
use Rattle.tracing.specs.Calls.{CallTimes, call_times}
use Rattle.tracing.specs.Changes.{next_ahead, since_clock, starts, until_clock}
use Rattle.tracing.specs.declared.ahead.Ahead.{Ahead}
use Rattle.charts.specs.Scales.{column}
use Rattle.charts.specs.Signs.{Cells, line_note, nothing_seen, of_actor, with_events, with_note}
use Rattle.charts.specs.declared.cell.Sign.TheVariants as signs

-- Throughout, a step leads from kernel k to kernel l, and its events are those of the trace (tracing/specs/Traces, rows_of_step): none where there was an
-- outcome, and so nobody ran.

abbrev pub writes : Kernel → Kernel → Bool
writes k l = nat_lt (length k.lines) (length l.lines)

-- the task that runs takes the step, which writes a line or not; then its events tell
abbrev pub cells_by_step : (scale : ℕ) → CallTimes → Ahead → Kernel → Kernel → (wrote : Bool) → Option Outcome → Option ℕ → Cells → Cells
cells_by_step scale calls ahead k l wrote (Some o) running cells = cells
cells_by_step scale calls ahead k l wrote None None cells = cells
cells_by_step scale calls ahead k l wrote None (Some t) cells =
    let here = column scale k.now in
    with_events (column scale l.now) (since_clock k l t)
    (with_events here (until_clock calls ahead k l t) (with_note here (line_note wrote) (with_note here (of_actor t signs.Acts) cells)))

abbrev pub cells_after : (scale : ℕ) → Sections → List ScheduleLine → ℕ → Cells
cells_after scale i schedule zero = let k = (code i schedule 0).kernel in with_events (column scale k.now) (starts k) nothing_seen
cells_after scale i schedule (suc n) =
    let w = code i schedule n in
    let l = (code i schedule (suc n)).kernel in
    cells_by_step scale (call_times i schedule n) (next_ahead i schedule w) w.kernel l (writes w.kernel l) w.kernel.outcome w.kernel.running
    (cells_after scale i schedule n)
