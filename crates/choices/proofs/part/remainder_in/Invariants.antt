use Rattle.std.proofs.Common.{◌-◌, ◌≡◌, ◌<◌, ◌≤◌, ◌%◌, drop}
use Rattle.choices.specs.Parts.{number_from}
use Rattle.choices.proofs.part.remainder_in.Given as goal

abbrev pub invariant-loop-at : goal.invariant-loop-at
invariant-loop-at l =
    (l.at ≤ l.front) × (l.rest < l.parts)
    × (number_from 0 l.front l.slots l.places % l.parts ≡ number_from l.rest (l.front - l.at) (drop l.at l.slots) (drop l.at l.places) % l.parts)

abbrev pub decreases-loop-at : goal.decreases-loop-at
decreases-loop-at l = l.front - l.at
