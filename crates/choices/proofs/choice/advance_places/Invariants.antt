use Rattle.std.proofs.Common.{◌≡◌, ◌≤◌, ◌++◌, None, drop, length, take}
use Rattle.choices.specs.Places.{firsts, next}
use Rattle.choices.proofs.choice.advance_places.Given as goal

abbrev pub invariant-loop-at : goal.invariant-loop-at
invariant-loop-at l =
    (l.places ≡ take l.at l.fn.places ++ firsts (drop l.at l.slots))
    × ((next (drop l.at l.slots) (drop l.at l.fn.places) ≡ None) × (l.at ≤ length l.slots))

abbrev pub decreases-loop-at : goal.decreases-loop-at
decreases-loop-at l = l.at
