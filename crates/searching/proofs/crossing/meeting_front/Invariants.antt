use Rattle.std.proofs.Common.{◌-◌, length}
use Rattle.searching.proofs.crossing.meeting_front.Given as goal

abbrev pub invariant-loop-at : goal.invariant-loop-at
invariant-loop-at l = Unit {0}

abbrev pub decreases-loop-at : goal.decreases-loop-at
decreases-loop-at l = length l.slots - l.at
