use Rattle.std.proofs.Common.{◌≤◌, ◌+◌, ◌-◌, ◌*◌, length}
use Rattle.endings.specs.declared.sources.TheConstants.{ACTORS}
use Rattle.endings.proofs.Followed.{Followed}
use Rattle.endings.proofs.sources.froms_on.Given as goal

abbrev pub invariant-loop-step : goal.invariant-loop-step
invariant-loop-step g l = Followed l.fn.after.image l.fn.after.schedule l.step l.before l.after l.froms.items × ((l.step ≤ l.fn.limit) × ((length l.froms.items ≤ ACTORS) × (l.steps ≤ l.fn.steps + 2 * l.step)))

abbrev pub decreases-loop-step : goal.decreases-loop-step
decreases-loop-step g l = l.fn.limit - l.step
