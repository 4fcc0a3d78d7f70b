use Rattle.std.proofs.Common.{◌≡◌, ◌≤◌, ◌+◌, ◌-◌, []}
use Rattle.execution.specs.Held.{Leads}
use Rattle.execution.proofs.execution_of.Execution.advance.Given as goal

abbrev pub invariant-loop-left : goal.invariant-loop-left
invariant-loop-left g l = Leads (l.fn.limit - l.left) l.fn.self l.self [] × (l.left ≤ l.fn.limit) × (l.steps ≡ l.fn.steps + (l.fn.limit - l.left))

abbrev pub decreases-loop-left : goal.decreases-loop-left
decreases-loop-left g l = l.left
