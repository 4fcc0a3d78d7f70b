use Rattle.std.proofs.Common.{◌≡◌, ◌+◌, ◌++◌, length}
use Rattle.std.specs.List.Sorted.{IsPermutation}
use Rattle.arrayvec.specs.ArrayVec.{array_vec_len}
use Rattle.clock.proofs.heap_delays.take_all.Given as goal

abbrev pub invariant-loop-entry : goal.invariant-loop-entry
invariant-loop-entry l =
    IsPermutation l.initial.heap (l.entries.items ++ l.heap) × (array_vec_len l.entries + length l.heap ≡ length l.initial.heap)

abbrev pub decreases-loop-entry : goal.decreases-loop-entry
decreases-loop-entry l = length l.heap
