use Rattle.std.proofs.Common.{take}
use Rattle.searching.specs.Meeting.{AreEachFrom}
use Rattle.searching.proofs.parting.are_each_from.Given as goal

abbrev pub invariant-loop-slot : goal.invariant-loop-slot
invariant-loop-slot l = AreEachFrom l.time (take l.slot-index l.slots)
