use Rattle.std.proofs.Common.{◌≡◌, ◌+◌, ◌-◌, List, length, map}
use Rattle.std.specs.Prelude.{All}
use Rattle.set_measures.specs.Extremes.{capped}
use Rattle.set_measures.specs.Runs.{Run}
use Rattle.set_measures.specs.Sets.{HasExtreme}
use Rattle.set_measures.specs.Stepping.{IsMeasuredRun}
use Rattle.set_measures.proofs.Filled.{AreFilled}
use Rattle.set_measures.proofs.set.add_values.Given as goal

abbrev pub invariant-loop-at : goal.invariant-loop-at
invariant-loop-at l =
    (map (λ row. row.measure) l.rows ≡ map (λ row. row.measure) l.fn.rows)
    × ((runs : List Run) (r : Run) → IsMeasuredRun l.fn.image r l.fn.measures → l.fn.number ≡ capped (length runs + 1)
    → All (HasExtreme l.fn.image runs) l.fn.rows → AreFilled l.fn.image runs r l.at l.rows)

abbrev pub decreases-loop-at : goal.decreases-loop-at
decreases-loop-at l = length l.rows - l.at
