use Rattle.std.proofs.Common.{◌≡◌, ◌++◌}
use Rattle.measuring.specs.Text.{below}
use Rattle.charts.specs.Signs.{Cells}
use Rattle.charts.specs.Tables.{HoldsCells}
use Rattle.charts.specs.Text.{shown_actor}
use Rattle.charts.proofs.text.add_actors.Given as goal

abbrev pub invariant-loop-actor : goal.invariant-loop-actor
invariant-loop-actor l =
    (shown : Cells) → HoldsCells l.fn.cells shown → l.text.items ≡ l.fn.text.items ++ below l.actor (shown_actor l.fn.image shown l.fn.columns)
