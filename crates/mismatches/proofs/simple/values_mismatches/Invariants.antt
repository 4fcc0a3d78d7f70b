use Rattle.std.proofs.Common.{◌≡◌, drop, map}
use Rattle.ada_tree.specs.ExpressionTree.{expr_tree}
use Rattle.mismatches.specs.Conflicts.{noted}
use Rattle.mismatches.specs.StatementMismatches.{values_mismatches}
use Rattle.mismatches.proofs.simple.values_mismatches.Given as goal

abbrev pub invariant-loop-value : goal.invariant-loop-value
invariant-loop-value l =
    noted l.search (values_mismatches l.scope l.wanted (map expr_tree (drop l.value-index l.values))) ≡ noted l.fn.search (values_mismatches l.scope l.wanted (map expr_tree l.values))
