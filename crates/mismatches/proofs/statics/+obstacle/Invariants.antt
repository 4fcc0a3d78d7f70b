use Rattle.std.proofs.Common.{◌≡◌, drop}
use Rattle.mismatches.specs.Chaining.{operands_obstacle}
use Rattle.mismatches.proofs.statics.+obstacle.Given as goal

abbrev pub invariant-operands_obstacle-loop-operand : goal.invariant-operands_obstacle-loop-operand
invariant-operands_obstacle-loop-operand l =
    operands_obstacle l.scope l.obstacle (drop l.operand-index l.operands) ≡ operands_obstacle l.scope l.fn.first l.operands
