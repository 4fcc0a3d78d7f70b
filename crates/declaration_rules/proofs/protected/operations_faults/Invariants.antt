use Rattle.std.proofs.Common.{◌≡◌, [], drop, map, take}
use Rattle.ada_tree.specs.StatementTree.{operation_tree}
use Rattle.types.specs.Seen.{AreNames}
use Rattle.expr_rules.specs.Findings.{noted}
use Rattle.declaration_rules.specs.ProtectedRules.{operation_bytes, operations_faults}
use Rattle.declaration_rules.proofs.protected.operations_faults.Given as goal

abbrev pub invariant-loop-operation : goal.invariant-loop-operation
invariant-loop-operation l =
    (noted l.found (operations_faults l.scope l.own (map operation_tree (take l.operation-index l.operations)) (map operation_tree (drop l.operation-index l.operations)))
    ≡ noted l.fn.found (operations_faults l.scope l.own [] (map operation_tree l.operations)))
    × AreNames operation_bytes (map operation_tree (take l.operation-index l.operations)) l.names
