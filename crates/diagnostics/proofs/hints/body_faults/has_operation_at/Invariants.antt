use Rattle.std.proofs.Common.{◌≡◌, drop, map}
use Rattle.std.specs.List.{list_any}
use Rattle.ada_tree.specs.StatementTree.{operation_tree}
use Rattle.diagnostics.specs.hints.BodyFaults.{is_operation_at}
use Rattle.diagnostics.proofs.hints.body_faults.has_operation_at.Given as goal

-- what is left decides
abbrev pub invariant-loop-operation : goal.invariant-loop-operation
invariant-loop-operation l =
    let found = list_any (is_operation_at l.fn.place) in
    found (map operation_tree (drop l.operation-index l.fn.operations)) ≡ found (map operation_tree l.fn.operations)
