use Rattle.std.proofs.Common.{◌≡◌, ◌++◌}
use Rattle.measuring.specs.Text.{below}
use Rattle.charts.specs.Signs.{Cells}
use Rattle.charts.specs.Tables.{HoldsCells}
use Rattle.charts.specs.Text.{cell_text, rest_before}
use Rattle.charts.proofs.text.add_row.Given as goal

abbrev pub invariant-loop-column : goal.invariant-loop-column
invariant-loop-column l =
    (shown : Cells) → HoldsCells l.fn.cells shown →
    (l.text.items ≡ l.fn.text.items ++ below l.column (cell_text l.fn.act (shown l.fn.row)))
    × (l.rest ≡ rest_before (shown l.fn.row) l.column)
