use Rattle.std.proofs.Common.{◌≡◌, ◌≤◌, ◌+◌, length}
use Rattle.arrayvec.specs.ArrayVec.{array_vec_len}
use Rattle.base.specs.declared.limits.TheConstants.{TASKS}
use Rattle.clock.proofs.Passing.{Parted}
use Rattle.clock.proofs.heap_delays.split_due.Given as goal

abbrev pub invariant-loop-entry : goal.invariant-loop-entry
invariant-loop-entry l =
    Parted l.now l.entry-items l.entry-index l.due.items l.heap × (array_vec_len l.due + length l.heap ≡ l.entry-index) × (length l.entry-items ≤ TASKS)
