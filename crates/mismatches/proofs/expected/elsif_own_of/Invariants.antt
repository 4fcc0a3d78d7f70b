use Rattle.std.proofs.Common.{◌≡◌, drop}
use Rattle.ada_tree.specs.ExpressionTree.{elsif_value_trees}
use Rattle.expr_rules.specs.Typing.{elsif_own_of}
use Rattle.mismatches.proofs.expected.elsif_own_of.Given as goal

abbrev pub invariant-loop-part : goal.invariant-loop-part
invariant-loop-part l = elsif_own_of l.scope l.own (elsif_value_trees (drop l.part-index l.parts)) ≡ elsif_own_of l.scope l.fn.first (elsif_value_trees l.parts)
