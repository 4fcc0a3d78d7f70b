use Rattle.std.proofs.Common.{take}
use Rattle.searching.specs.Meeting.{AreEachBefore}
use Rattle.searching.proofs.parting.are_each_before.Given as goal

abbrev pub invariant-loop-slot : goal.invariant-loop-slot
invariant-loop-slot l = AreEachBefore l.time (take l.slot-index l.slots)
