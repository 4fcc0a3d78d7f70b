use Rattle.std.proofs.Common.{◌≡◌, drop, map}
use Rattle.ada_tree.specs.StatementTree.{operation_tree}
use Rattle.types.specs.Entities.{operation_value}
use Rattle.declaration_rules.specs.ProtectedRules.{object_operations}
use Rattle.expr_rules.specs.Walks.{behind}
use Rattle.declaration_rules.proofs.protected.object_operations.Given as goal

abbrev pub invariant-loop-operation : goal.invariant-loop-operation
invariant-loop-operation l =
    behind (map operation_value l.all.items) (object_operations l.scope (map operation_tree (drop l.operation-index l.operations))) ≡ object_operations l.scope (map operation_tree l.operations)
