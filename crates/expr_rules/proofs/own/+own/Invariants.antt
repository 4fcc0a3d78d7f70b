use Rattle.std.proofs.Common.{◌≡◌, drop}
use Rattle.ada_tree.specs.ExpressionTree.{elsif_value_trees}
use Rattle.expr_rules.specs.Typing.{elsif_own_of}
use Rattle.expr_rules.specs.Judging.{own_after}
use Rattle.expr_rules.proofs.own.+own.Given as goal

abbrev pub invariant-elsif_own_of-loop-part : goal.invariant-elsif_own_of-loop-part
invariant-elsif_own_of-loop-part l = elsif_own_of l.scope l.own (elsif_value_trees (drop l.part-index l.parts)) ≡ elsif_own_of l.scope l.fn.first (elsif_value_trees l.parts)

abbrev pub invariant-own_after-loop-operand : goal.invariant-own_after-loop-operand
invariant-own_after-loop-operand l = own_after l.scope l.own (drop l.operand-index l.operands) ≡ own_after l.scope l.fn.first l.operands
