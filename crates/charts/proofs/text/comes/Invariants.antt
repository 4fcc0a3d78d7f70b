use Rattle.std.proofs.Common.{◌≡◌, drop}
use Rattle.charts.specs.Text.{comes}
use Rattle.charts.proofs.text.comes.Given as goal

abbrev pub invariant-loop-line : goal.invariant-loop-line
invariant-loop-line l = comes (drop l.line-index l.fn.lines) l.fn.scale l.fn.last l.fn.at ≡ comes l.fn.lines l.fn.scale l.fn.last l.fn.at
