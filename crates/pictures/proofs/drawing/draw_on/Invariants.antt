use Rattle.std.proofs.Common.{◌≤◌, ◌+◌, ◌-◌, ◌*◌, ◌≡◌, length}
use Rattle.tracing.specs.declared.calls.TheConstants.{ACTORS}
use Rattle.pictures.proofs.Drawn.{Drawn}
use Rattle.pictures.proofs.drawing.draw_on.Given as goal

abbrev pub invariant-loop-step : goal.invariant-loop-step
invariant-loop-step g l =
    Drawn l.fn.frame l.fn.image l.fn.names l.fn.schedule l.step l.before l.after l.calls l.fn.text.items l.text.items
    × (l.step ≤ l.fn.limit)
    × (l.steps ≤ l.fn.steps + 2 * l.step)
    × (length l.calls ≡ ACTORS)

abbrev pub decreases-loop-step : goal.decreases-loop-step
decreases-loop-step g l = l.fn.limit - l.step
