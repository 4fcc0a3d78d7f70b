use Rattle.std.proofs.Common.{◌≡◌, drop}
use Rattle.ada_tree.specs.ExpressionTree.{elsif_value_trees}
use Rattle.expr_rules.specs.ExpressionRules.{first_typed}
use Rattle.mismatches.proofs.expected.first_typed.Given as goal

abbrev pub invariant-loop-part : goal.invariant-loop-part
invariant-loop-part l = first_typed l.scope (elsif_value_trees (drop l.part-index l.parts)) l.fn.last ≡ first_typed l.scope (elsif_value_trees l.parts) l.fn.last
