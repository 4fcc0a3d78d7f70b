use Rattle.std.proofs.Common.{◌≡◌, ◌++◌}
use Rattle.measuring.specs.Text.{below}
use Rattle.charts.specs.Text.{comes, input_mark}
use Rattle.charts.proofs.text.add_inputs.Given as goal

abbrev pub invariant-loop-column : goal.invariant-loop-column
invariant-loop-column l = l.text.items ≡ l.fn.text.items ++ below l.column (λ c. input_mark (comes l.fn.lines l.fn.scale l.fn.last c))
