use Rattle.std.proofs.Common.{◌≡◌, ◌≤◌, ◌-◌}
use Rattle.std.specs.Prelude.{replicate}
use Rattle.charts.specs.declared.table.TheConstants.{CELLS}
use Rattle.charts.proofs.table.cells_of.Given as goal

abbrev pub invariant-loop-count : goal.invariant-loop-count
invariant-loop-count l = (l.cells.items ≡ replicate l.count l.fn.cell) × (l.count ≤ CELLS)

abbrev pub decreases-loop-count : goal.decreases-loop-count
decreases-loop-count l = CELLS - l.count
