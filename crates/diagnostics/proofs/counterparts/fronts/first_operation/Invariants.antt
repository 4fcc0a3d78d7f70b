use Rattle.std.proofs.Common.{◌≡◌, drop, map}
use Rattle.ada_tree.specs.StatementTree.{operation_tree}
use Rattle.diagnostics.specs.counterparts.Fronts.{first_operation}
use Rattle.diagnostics.proofs.counterparts.fronts.first_operation.Given as goal

-- what is left decides
abbrev pub invariant-loop-operation : goal.invariant-loop-operation
invariant-loop-operation l =
    first_operation l.fn.name l.fn.place (map operation_tree (drop l.operation-index l.fn.operations))
    ≡ first_operation l.fn.name l.fn.place (map operation_tree l.fn.operations)
