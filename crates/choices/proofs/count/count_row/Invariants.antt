use Rattle.std.proofs.Common.{◌≡◌, ℕ, ◌*◌, drop}
use Rattle.choices.specs.Counting.{row_of}
use Rattle.choices.specs.Slots.{number_of}
use Rattle.choices.proofs.count.count_row.Given as goal

abbrev pub invariant-loop-slot : goal.invariant-loop-slot
invariant-loop-slot l = (n : ℕ) × (l.row.items ≡ row_of n) × (n * number_of (drop l.slot-index l.slots) ≡ l.first * number_of l.slots)
