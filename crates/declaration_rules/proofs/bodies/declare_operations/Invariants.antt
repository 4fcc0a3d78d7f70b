use Rattle.std.proofs.Common.{◌≡◌, drop, map}
use Rattle.types.specs.Entities.{operation_value}
use Rattle.declaration_rules.specs.BodyNames.{operations_scope}
use Rattle.declaration_rules.proofs.bodies.declare_operations.Given as goal

abbrev pub invariant-loop-operation : goal.invariant-loop-operation
invariant-loop-operation l =
    operations_scope l.scope (map operation_value (drop l.operation-index l.operations)) ≡ operations_scope l.fn.scope (map operation_value l.operations)
