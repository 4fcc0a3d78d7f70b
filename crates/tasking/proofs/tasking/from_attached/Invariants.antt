use Rattle.std.proofs.Common.{◌≡◌, length}
use Rattle.tasking.specs.Held.{pending_of}
use Rattle.tasking.proofs.tasking.from_attached.Given as goal

abbrev pub invariant-loop-left : goal.invariant-loop-left
invariant-loop-left l = pending_of l.attached l.left ≡ pending_of l.attached l.lines

abbrev pub decreases-loop-left : goal.decreases-loop-left
decreases-loop-left l = length l.left
