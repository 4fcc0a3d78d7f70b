use Rattle.std.proofs.Common.{◌≡◌, ◌≤◌, ◌++◌, drop, length}
use Rattle.arrayvec.specs.ArrayVec.{array_vec_len}
use Rattle.base.specs.declared.limits.TheConstants.{TASKS}
use Rattle.clock.proofs.heap_delays.copied.Given as goal

abbrev pub invariant-loop-entry : goal.invariant-loop-entry
invariant-loop-entry l =
    (l.list.items ++ drop l.entry-index l.entries ≡ l.entries) × (array_vec_len l.list ≡ l.entry-index) × (length l.entries ≤ TASKS)
