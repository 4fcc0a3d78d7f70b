use Rattle.std.proofs.Common.{◌≡◌, drop}
use Rattle.types.specs.Walking.{bounds_after}
use Rattle.types.proofs.extent.bounds_after.Given as goal

abbrev pub invariant-loop-operand : goal.invariant-loop-operand
invariant-loop-operand l = bounds_after l.scope l.bounds (drop l.operand-index l.operands) ≡ bounds_after l.scope l.fn.first l.operands
