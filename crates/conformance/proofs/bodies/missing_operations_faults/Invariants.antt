use Rattle.std.proofs.Common.{◌≡◌, drop, map}
use Rattle.ada_tree.specs.StatementTree.{operation_tree}
use Rattle.ada_tree.specs.ProgramTree.{body_item_tree}
use Rattle.expr_rules.specs.Findings.{noted}
use Rattle.conformance.specs.MatchingRules.{missing_operations_faults}
use Rattle.conformance.proofs.bodies.missing_operations_faults.Given as goal

abbrev pub invariant-loop-operation : goal.invariant-loop-operation
invariant-loop-operation l =
    noted l.found (missing_operations_faults (map body_item_tree (drop l.start l.bodies)) l.object (map operation_tree (drop l.operation-index l.operations)))
    ≡ noted l.fn.found (missing_operations_faults (map body_item_tree (drop l.start l.bodies)) l.object (map operation_tree l.operations))
