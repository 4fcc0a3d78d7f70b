use Rattle.std.proofs.Common.{◌≡◌, ℕ, ◌<◌, false}
use Rattle.handlers.specs.Nesting.{crosses_at}
use Rattle.handlers.proofs.nesting.first_crossing_of_pairs.Given as goal

abbrev pub invariant-loop-index : goal.invariant-loop-index
invariant-loop-index l = (k : ℕ) → k < l.index → crosses_at l.fn.rows k ≡ false
