use Rattle.std.proofs.Common.{◌≡◌, ◌+◌, ◌-◌, ◌≤◌, ◌++◌}
use Rattle.arrayvec.specs.ArrayVec.{array_vec_len}
use Rattle.measuring.specs.Text.{spaces}
use Rattle.measuring.proofs.row_text.put_spaces.Given as goal

abbrev pub invariant-loop-added : goal.invariant-loop-added
invariant-loop-added l =
    (l.row.items ≡ l.fn.row.items ++ spaces l.added)
    × (array_vec_len l.row ≡ array_vec_len l.fn.row + l.added)
    × (l.added ≤ l.fn.count)

abbrev pub decreases-loop-added : goal.decreases-loop-added
decreases-loop-added l = l.fn.count - l.added
