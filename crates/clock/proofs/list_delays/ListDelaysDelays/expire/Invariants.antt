use Rattle.std.proofs.Common.{◌≡◌, ◌+◌, ◌≤◌, ◌++◌, drop, length}
use Rattle.arrayvec.specs.ArrayVec.{array_vec_len}
use Rattle.base.specs.declared.limits.TheConstants.{TASKS}
use Rattle.clock.specs.Sleepers.{due, waiting}
use Rattle.clock.proofs.list_delays.ListDelaysDelays.expire.Given as goal

abbrev pub invariant-loop-sleeper : goal.invariant-loop-sleeper
invariant-loop-sleeper l =
    (l.due.items ++ due l.now (drop l.sleeper-index l.sleeper-items) ≡ due l.now l.sleeper-items)
    × (l.waiting.items ++ waiting l.now (drop l.sleeper-index l.sleeper-items) ≡ waiting l.now l.sleeper-items)
    × (array_vec_len l.due + array_vec_len l.waiting ≡ l.sleeper-index)
    × (length l.sleeper-items ≤ TASKS)
