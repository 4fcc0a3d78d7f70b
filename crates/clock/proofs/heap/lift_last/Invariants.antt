use Rattle.std.proofs.Common.{◌≡◌, ◌<◌, length}
use Rattle.std.specs.List.Sorted.{IsPermutation}
use Rattle.clock.specs.Heaps.{is_before}
use Rattle.clock.proofs.Heaps.{order, Rises}
use Rattle.clock.proofs.heap.lift_last.Given as goal

abbrev pub invariant-loop-at : goal.invariant-loop-at
invariant-loop-at l = (l.at < length l.entries) × (length l.entries ≡ length l.initial.entries) × IsPermutation l.initial.entries l.entries × Rises is_before order l.entries l.at

abbrev pub decreases-loop-at : goal.decreases-loop-at
decreases-loop-at l = l.at
