use Rattle.std.proofs.Common.{◌≡◌, ◌≤◌, ◌++◌, drop, length, map}
use Rattle.arrayvec.specs.ArrayVec.{array_vec_len}
use Rattle.base.specs.declared.limits.TheConstants.{TASKS}
use Rattle.clock.specs.Heaps.{sleeper_of}
use Rattle.clock.proofs.heap_delays.sleepers.Given as goal

abbrev pub invariant-loop-entry : goal.invariant-loop-entry
invariant-loop-entry l =
    (l.list.items ++ map sleeper_of (drop l.entry-index l.entries) ≡ map sleeper_of l.entries)
    × (array_vec_len l.list ≡ l.entry-index) × (length l.entries ≤ TASKS)
