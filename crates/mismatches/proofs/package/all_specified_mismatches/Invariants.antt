use Rattle.std.proofs.Common.{◌≡◌, drop, map}
use Rattle.ada_tree.specs.StatementTree.{operation_tree}
use Rattle.mismatches.specs.Conflicts.{noted}
use Rattle.mismatches.specs.BodyMismatches.{all_specified_mismatches}
use Rattle.mismatches.proofs.package.all_specified_mismatches.Given as goal

abbrev pub invariant-loop-operation : goal.invariant-loop-operation
invariant-loop-operation l =
    noted l.search (all_specified_mismatches l.scope (map operation_tree (drop l.operation-index l.operations)))
    ≡ noted l.fn.search (all_specified_mismatches l.scope (map operation_tree l.operations))
