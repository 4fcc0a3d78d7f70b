use Rattle.std.proofs.Common.{◌≡◌, ℕ, ◌-◌, length, take}
use Rattle.execution.specs.Held.{RowsAreWide}
use Rattle.execution.proofs.rooms.restore_rows.Given as goal

abbrev pub invariant-loop-at : goal.invariant-loop-at
invariant-loop-at l =
    (take l.at l.rows.items ≡ take l.at l.saved) × (length l.rows.items ≡ length l.saved)
    × ((width : ℕ) → RowsAreWide width l.fn.rows.items → RowsAreWide width l.saved → RowsAreWide width l.rows.items)

abbrev pub decreases-loop-at : goal.decreases-loop-at
decreases-loop-at l = length l.saved - l.at
