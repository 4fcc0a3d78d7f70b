use Rattle.std.proofs.Common.{◌≡◌, ◌≤◌, ◌++◌, drop, length, map}
use Rattle.arrayvec.specs.ArrayVec.{array_vec_len}
use Rattle.base.specs.declared.limits.TheConstants.{TASKS}
use Rattle.clock.proofs.heap_delays.HeapDelaysDelays.expire.Given as goal

abbrev pub invariant-loop-entry : goal.invariant-loop-entry
invariant-loop-entry l =
    (l.tasks.items ++ map (λ e. e.task) (drop l.entry-index l.entry-items) ≡ map (λ e. e.task) l.entry-items) × (array_vec_len l.tasks ≡ l.entry-index) × (length l.entry-items ≤ TASKS)
