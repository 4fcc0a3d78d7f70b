use Rattle.std.proofs.Common.{◌≡◌, ◌+◌, ◌≤◌, drop, length}
use Rattle.tasking.specs.Held.{pending_of}
use Rattle.tasking.proofs.tasking.attached_count.Given as goal

abbrev pub invariant-loop-line : goal.invariant-loop-line
invariant-loop-line l =
    (l.count + length (pending_of l.attached (drop l.line-index l.lines)) ≡ length (pending_of l.attached l.lines)) × (l.count ≤ l.line-index)
