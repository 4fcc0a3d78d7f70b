use Rattle.std.proofs.Common.{◌≡◌, drop}
use Rattle.ada_tree.specs.ExpressionTree.{argument_trees, elsif_value_trees, selector_trees}
use Rattle.mismatches.specs.Conflicts.{noted}
use Rattle.mismatches.specs.ExpressionMismatches.{arguments_mismatches, elsifs_mismatches, selectors_mismatches}
use Rattle.mismatches.specs.Operating.{operands_mismatches}
use Rattle.mismatches.proofs.expressions.+expression.Given as goal

abbrev pub invariant-operands_mismatches-loop-operand : goal.invariant-operands_mismatches-loop-operand
invariant-operands_mismatches-loop-operand l =
    noted l.search (operands_mismatches l.scope l.left (drop l.operand-index l.operands)) ≡ noted l.fn.search (operands_mismatches l.scope l.fn.first l.operands)

abbrev pub invariant-arguments_mismatches-loop-index : goal.invariant-arguments_mismatches-loop-index
invariant-arguments_mismatches-loop-index l =
    noted l.search (arguments_mismatches l.scope l.standing l.index (argument_trees (drop l.index l.arguments)))
    ≡ noted l.fn.search (arguments_mismatches l.scope l.standing 0 (argument_trees l.arguments))

abbrev pub invariant-elsifs_mismatches-loop-part : goal.invariant-elsifs_mismatches-loop-part
invariant-elsifs_mismatches-loop-part l =
    noted l.search (elsifs_mismatches l.scope l.wanted (elsif_value_trees (drop l.part-index l.parts)))
    ≡ noted l.fn.search (elsifs_mismatches l.scope l.wanted (elsif_value_trees l.parts))

abbrev pub invariant-selectors_mismatches-loop-selector : goal.invariant-selectors_mismatches-loop-selector
invariant-selectors_mismatches-loop-selector l =
    noted l.search (selectors_mismatches l.scope l.standing (selector_trees (drop l.selector-index l.selectors)))
    ≡ noted l.fn.search (selectors_mismatches l.scope l.fn.first (selector_trees l.selectors))
