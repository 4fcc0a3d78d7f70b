use Rattle.std.proofs.Common.{◌≡◌, length, map, take}
use Rattle.clock.specs.Heaps.{AreNumbered, sleeper_of, sleepers_of}
use Rattle.clock.proofs.heap_delays.number_anew.Given as goal

abbrev pub invariant-loop-entry : goal.invariant-loop-entry
invariant-loop-entry l =
    (sleepers_of l.heap ≡ map sleeper_of (take l.entry-index l.entry-items)) × (length l.heap ≡ l.entry-index) × (l.number ≡ l.entry-index) × AreNumbered l.number l.heap
