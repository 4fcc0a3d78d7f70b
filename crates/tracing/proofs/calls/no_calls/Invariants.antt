use Rattle.std.proofs.Common.{◌≡◌, ◌≤◌, ◌-◌}
use Rattle.tracing.specs.Calls.{no_calls}
use Rattle.tracing.specs.declared.calls.TheConstants.{ACTORS}
use Rattle.tracing.proofs.calls.no_calls.Given as goal

abbrev pub invariant-loop-count : goal.invariant-loop-count
invariant-loop-count l = (l.calls.items ≡ no_calls l.count) × (l.count ≤ ACTORS)

abbrev pub decreases-loop-count : goal.decreases-loop-count
decreases-loop-count l = ACTORS - l.count
