use Rattle.std.proofs.Common.{◌≡◌, drop, map}
use Rattle.std.specs.List.{list_any}
use Rattle.ada_tree.specs.StatementTree.{operation_tree}
use Rattle.diagnostics.specs.counterparts.Fronts.{is_at, part_name}
use Rattle.diagnostics.proofs.counterparts.twice.has_operation.Given as goal

-- what is left decides
abbrev pub invariant-loop-operation : goal.invariant-loop-operation
invariant-loop-operation l =
    list_any (λ o. is_at l.fn.place (part_name o)) (map operation_tree (drop l.operation-index l.fn.operations))
    ≡ list_any (λ o. is_at l.fn.place (part_name o)) (map operation_tree l.fn.operations)
