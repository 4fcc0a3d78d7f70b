use Rattle.std.proofs.Common.{◌≡◌}
use Rattle.charts.specs.Text.{axis}
use Rattle.charts.proofs.text.axis.Given as goal

abbrev pub invariant-loop-tick : goal.invariant-loop-tick
invariant-loop-tick l = l.axis.items ≡ axis l.fn.scale l.tick
