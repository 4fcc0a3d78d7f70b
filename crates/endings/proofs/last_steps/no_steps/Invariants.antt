use Rattle.std.proofs.Common.{◌≡◌, ◌≤◌, ◌-◌}
use Rattle.endings.specs.LastSteps.{no_steps}
use Rattle.endings.specs.declared.sources.TheConstants.{ACTORS}
use Rattle.endings.proofs.last_steps.no_steps.Given as goal

abbrev pub invariant-loop-count : goal.invariant-loop-count
invariant-loop-count l = (l.lasts.items ≡ no_steps l.count) × (l.count ≤ ACTORS)

abbrev pub decreases-loop-count : goal.decreases-loop-count
decreases-loop-count l = ACTORS - l.count
