use Rattle.std.proofs.Common.{◌≡◌, drop}
use Rattle.ada_tree.specs.ExpressionTree.{elsif_value_trees, selector_trees, argument_trees}
use Rattle.expr_rules.specs.Findings.{noted}
use Rattle.expr_rules.specs.ExpressionRules.{arguments_faults, elsif_faults, selectors_faults}
use Rattle.expr_rules.specs.Judging.{judged_after, operands_faults}
use Rattle.expr_rules.proofs.walk.+expression.Given as goal

abbrev pub invariant-judge_operands-loop-operand : goal.invariant-judge_operands-loop-operand
invariant-judge_operands-loop-operand l =
    (judged_after l.scope l.left (drop l.operand-index l.operands) ≡ judged_after l.scope l.fn.first l.operands)
    × (noted l.found (operands_faults l.scope l.left (drop l.operand-index l.operands)) ≡ noted l.fn.found (operands_faults l.scope l.fn.first l.operands))

abbrev pub invariant-arguments_faults-loop-index : goal.invariant-arguments_faults-loop-index
invariant-arguments_faults-loop-index l =
    noted l.found (arguments_faults l.scope l.standing l.index (argument_trees (drop l.index l.arguments))) ≡ noted l.fn.found (arguments_faults l.scope l.standing 0 (argument_trees l.arguments))

abbrev pub invariant-elsif_faults-loop-part : goal.invariant-elsif_faults-loop-part
invariant-elsif_faults-loop-part l =
    noted l.found (elsif_faults l.scope l.wanted (elsif_value_trees (drop l.part-index l.parts))) ≡ noted l.fn.found (elsif_faults l.scope l.wanted (elsif_value_trees l.parts))

abbrev pub invariant-selectors_faults-loop-selector : goal.invariant-selectors_faults-loop-selector
invariant-selectors_faults-loop-selector l =
    noted l.found (selectors_faults l.scope l.place l.standing (selector_trees (drop l.selector-index l.selectors))) ≡ noted l.fn.found (selectors_faults l.scope l.place l.fn.first (selector_trees l.selectors))
