use Rattle.std.proofs.Common.{◌≡◌, ◌-◌, ◌≤◌, ◌++◌, drop, length}
use Rattle.choices.specs.Places.{firsts}
use Rattle.choices.proofs.choice.Choice.first.Given as goal

abbrev pub invariant-loop-slots : goal.invariant-loop-slots
invariant-loop-slots l = (l.places.items ++ firsts (drop (length l.places.items) l.slots) ≡ firsts l.slots) × (length l.places.items ≤ length l.slots)

abbrev pub decreases-loop-slots : goal.decreases-loop-slots
decreases-loop-slots l = length l.slots - length l.places.items
