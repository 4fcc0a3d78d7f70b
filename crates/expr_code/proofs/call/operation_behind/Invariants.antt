use Rattle.std.proofs.Common.{◌≡◌, drop}
use Rattle.ada_tree.specs.ExpressionTree.{selector_trees}
use Rattle.expr_code.specs.ExpressionCode.{operation_behind}
use Rattle.expr_code.proofs.call.operation_behind.Given as goal

abbrev pub invariant-loop-selector : goal.invariant-loop-selector
invariant-loop-selector l = operation_behind (selector_trees (drop l.selector-index l.selectors)) ≡ operation_behind (selector_trees l.selectors)
