use Rattle.std.proofs.Common.{◌≡◌, ◌-◌, ◌≤◌, ◌++◌, replicate}
use Rattle.printing.proofs.progress.put_times.Given as goal

abbrev pub invariant-loop-added : goal.invariant-loop-added
invariant-loop-added l = (l.out.items ≡ l.fn.out.items ++ replicate l.added l.fn.byte) × (l.added ≤ l.fn.count)

abbrev pub decreases-loop-added : goal.decreases-loop-added
decreases-loop-added l = l.fn.count - l.added
