use Rattle.std.proofs.Common.{◌≤◌, ◌+◌, ◌-◌, ◌*◌, ◌≡◌, length}
use Rattle.tracing.specs.declared.calls.TheConstants.{ACTORS}
use Rattle.measuring.specs.Tables.{AreWhole}
use Rattle.measuring.proofs.Measured.{Measured}
use Rattle.measuring.proofs.measuring_of.measure_on.Given as goal

abbrev pub invariant-loop-step : goal.invariant-loop-step
invariant-loop-step g l =
    Measured l.fn.after.image l.fn.after.schedule l.step l.before l.after l.times l.measures
    × (l.step ≤ l.fn.limit)
    × (l.steps ≤ l.fn.steps + 2 * l.step)
    × (length l.times ≡ ACTORS)
    × AreWhole l.measures

abbrev pub decreases-loop-step : goal.decreases-loop-step
decreases-loop-step g l = l.fn.limit - l.step
