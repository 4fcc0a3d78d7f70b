use Rattle.std.proofs.Common.{◌≡◌, drop, map}
use Rattle.std.specs.List.{list_any}
use Rattle.ada_tree.specs.StatementTree.{operation_tree}
use Rattle.diagnostics.specs.hints.BodyFaults.{is_declared_as}
use Rattle.diagnostics.proofs.hints.body_faults.is_among_operations.Given as goal

-- what is left decides
abbrev pub invariant-loop-operation : goal.invariant-loop-operation
invariant-loop-operation l =
    let found = list_any (is_declared_as l.fn.entry l.fn.name) in
    found (map operation_tree (drop l.operation-index l.fn.operations)) ≡ found (map operation_tree l.fn.operations)
