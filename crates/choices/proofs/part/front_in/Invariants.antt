use Rattle.std.proofs.Common.{length, ◌-◌, ◌≡◌, ◌≤◌, take, drop, ◌+◌, ◌<◌, ◌^◌}
use Rattle.choices.specs.Parts.{front_from}
use Rattle.choices.specs.Slots.{number_of}
use Rattle.choices.proofs.part.front_in.Given as goal

abbrev pub invariant-loop-at : goal.invariant-loop-at
invariant-loop-at l =
    (l.at ≤ length l.slots) × (l.combinations ≡ number_of (take l.at l.slots))
    × (l.combinations + 2 ^ 32 < 2 ^ 128)
    × (front_from l.parts 1 l.slots ≡ l.at + front_from l.parts l.combinations (drop l.at l.slots))

abbrev pub decreases-loop-at : goal.decreases-loop-at
decreases-loop-at l = length l.slots - l.at
