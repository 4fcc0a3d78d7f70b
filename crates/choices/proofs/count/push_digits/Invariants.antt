use Rattle.std.proofs.Common.{◌≡◌, ◌++◌}
use Rattle.choices.specs.Counting.{row_of}
use Rattle.choices.proofs.count.push_digits.Given as goal

abbrev pub invariant-loop-left : goal.invariant-loop-left
invariant-loop-left l = l.row.items ++ row_of l.left ≡ l.fn.row.items ++ row_of l.fn.number

abbrev pub decreases-loop-left : goal.decreases-loop-left
decreases-loop-left l = l.left
