use Rattle.std.proofs.Common.{◌≡◌, ◌+◌, ◌++◌, length, true}
use Rattle.std.specs.List.Sorted.{IsPermutation}
use Rattle.arrayvec.specs.ArrayVec.{array_vec_len}
use Rattle.clock.specs.declared.heap.Entry.{Entry}
use Rattle.clock.specs.Heaps.{IsAmong, is_due_entry}
use Rattle.clock.proofs.heap_delays.pop_due.Given as goal

abbrev pub invariant-loop-entry : goal.invariant-loop-entry
invariant-loop-entry l =
    IsPermutation l.initial.heap (l.due.items ++ l.heap) × (array_vec_len l.due + length l.heap ≡ length l.initial.heap)
    × ((z : Entry) → IsAmong z l.due.items → is_due_entry l.now z ≡ true)

abbrev pub decreases-loop-entry : goal.decreases-loop-entry
decreases-loop-entry l = length l.heap
