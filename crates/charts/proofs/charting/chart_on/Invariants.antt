use Rattle.std.proofs.Common.{◌≤◌, ◌+◌, ◌-◌, ◌*◌, ◌≡◌, length}
use Rattle.tracing.specs.declared.calls.TheConstants.{ACTORS}
use Rattle.charts.specs.declared.table.TheConstants.{CELLS}
use Rattle.charts.proofs.Charted.{Charted}
use Rattle.charts.proofs.charting.chart_on.Given as goal

abbrev pub invariant-loop-step : goal.invariant-loop-step
invariant-loop-step g l =
    Charted l.fn.scale l.fn.after.image l.fn.after.schedule l.step l.before l.after l.times l.cells
    × (l.step ≤ l.fn.limit)
    × (l.steps ≤ l.fn.steps + 2 * l.step)
    × (length l.times ≡ ACTORS)
    × (length l.cells ≡ CELLS)

abbrev pub decreases-loop-step : goal.decreases-loop-step
decreases-loop-step g l = l.fn.limit - l.step
