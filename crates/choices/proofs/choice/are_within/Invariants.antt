use Rattle.std.proofs.Common.{◌≤◌, drop, length}
use Rattle.choices.specs.Places.{AreWithin}
use Rattle.choices.proofs.choice.are_within.Given as goal

abbrev pub invariant-loop-at : goal.invariant-loop-at
invariant-loop-at l = AreWithin (drop l.at l.slots) (drop l.at l.places) × (l.at ≤ length l.slots)

abbrev pub decreases-loop-at : goal.decreases-loop-at
decreases-loop-at l = l.at
