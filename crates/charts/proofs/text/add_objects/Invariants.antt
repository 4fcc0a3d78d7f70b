use Rattle.std.proofs.Common.{◌≡◌, ◌++◌}
use Rattle.measuring.specs.Text.{below}
use Rattle.charts.specs.Signs.{Cells}
use Rattle.charts.specs.Tables.{HoldsCells}
use Rattle.charts.specs.Text.{shown_object}
use Rattle.charts.proofs.text.add_objects.Given as goal

abbrev pub invariant-loop-object : goal.invariant-loop-object
invariant-loop-object l =
    (shown : Cells) → HoldsCells l.fn.cells shown → l.text.items ≡ l.fn.text.items ++ below l.object (shown_object l.fn.names shown l.fn.columns)
