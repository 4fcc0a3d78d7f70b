use Rattle.std.proofs.Common.{◌≡◌, ◌≤◌, ◌-◌}
use Rattle.endings.specs.Sources.{no_froms}
use Rattle.endings.specs.declared.sources.TheConstants.{ACTORS}
use Rattle.endings.proofs.sources.none_yet.Given as goal

abbrev pub invariant-loop-count : goal.invariant-loop-count
invariant-loop-count l = (l.froms.items ≡ no_froms l.count) × (l.count ≤ ACTORS)

abbrev pub decreases-loop-count : goal.decreases-loop-count
decreases-loop-count l = ACTORS - l.count
