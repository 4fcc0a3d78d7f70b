use Rattle.std.proofs.Common.{◌≡◌, ℕ, ◌<◌, ◌^◌, drop}
use Rattle.choices.specs.Counting.{row_of}
use Rattle.choices.proofs.Counting.{Making}
use Rattle.choices.proofs.count.product.Given as goal

abbrev pub invariant-loop-digit : goal.invariant-loop-digit
invariant-loop-digit l =
    (l.carry < 2 ^ 80) × ((n : ℕ) → l.row ≡ row_of n → Making l.made.items (drop l.digit-index l.row) l.times l.carry n)
