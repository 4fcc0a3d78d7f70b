use Rattle.std.proofs.Common.{◌≡◌, ◌≤◌, ◌++◌, drop, length}
use Rattle.arrayvec.specs.ArrayVec.{array_vec_len}
use Rattle.base.specs.declared.limits.TheConstants.{TASKS}
use Rattle.clock.proofs.list_delays.ListDelaysDelays.in_order.Given as goal

abbrev pub invariant-loop-sleeper : goal.invariant-loop-sleeper
invariant-loop-sleeper l =
    (l.sleepers.items ++ drop l.sleeper-index l.sleeper-items ≡ l.sleeper-items) × (array_vec_len l.sleepers ≡ l.sleeper-index) × (length l.sleeper-items ≤ TASKS)
