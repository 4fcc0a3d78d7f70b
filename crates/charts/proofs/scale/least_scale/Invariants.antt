use Rattle.std.proofs.Common.{◌≡◌, drop}
use Rattle.charts.specs.Scales.{least_scale}
use Rattle.charts.proofs.scale.least_scale.Given as goal

abbrev pub invariant-loop-scale : goal.invariant-loop-scale
invariant-loop-scale l = least_scale (drop l.scale-index l.fn.scales) l.fn.last ≡ least_scale l.fn.scales l.fn.last
