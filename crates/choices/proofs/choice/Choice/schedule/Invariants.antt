use Rattle.std.proofs.Common.{◌≡◌, ◌-◌, ◌≤◌, ◌++◌, drop, length}
use Rattle.choices.specs.Places.{taken}
use Rattle.choices.specs.Slots.{lines_of}
use Rattle.choices.proofs.choice.Choice.schedule.Given as goal

abbrev pub invariant-loop-at : goal.invariant-loop-at
invariant-loop-at l =
    (l.lines.items ++ lines_of (drop l.at l.slots) (taken (drop l.at l.slots) (drop l.at l.places)) ≡ lines_of l.slots (taken l.slots l.places))
    × (l.at ≤ length l.slots)

abbrev pub decreases-loop-at : goal.decreases-loop-at
decreases-loop-at l = length l.slots - l.at
