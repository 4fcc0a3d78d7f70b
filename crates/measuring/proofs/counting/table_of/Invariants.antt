use Rattle.std.proofs.Common.{◌≡◌, ◌≤◌, ◌-◌}
use Rattle.std.specs.Prelude.{replicate}
use Rattle.measuring.proofs.counting.table_of.Given as goal

abbrev pub invariant-loop-count : goal.invariant-loop-count
invariant-loop-count g l = (l.table.items ≡ replicate l.count l.fn.value) × (l.count ≤ l.fn.rows)

abbrev pub decreases-loop-count : goal.decreases-loop-count
decreases-loop-count g l = l.fn.rows - l.count
