use Rattle.std.proofs.Common.{◌≡◌}
use Rattle.charts.specs.Signs.{Cells}
use Rattle.charts.specs.Tables.{HoldsCells}
use Rattle.charts.specs.Text.{acts}
use Rattle.charts.proofs.text.acts.Given as goal

abbrev pub invariant-loop-column : goal.invariant-loop-column
invariant-loop-column l = (shown : Cells) → HoldsCells l.fn.cells shown → l.acts ≡ acts (shown l.fn.row) l.column
