use Rattle.std.proofs.Common.{◌≡◌, drop, map}
use Rattle.std.specs.List.{list_any}
use Rattle.ada_tree.specs.ProgramTree.{item_tree}
use Rattle.diagnostics.specs.hints.BodyFaults.{has_operation_as}
use Rattle.diagnostics.proofs.hints.body_faults.is_specified_as.Given as goal

-- what is left decides
abbrev pub invariant-loop-item : goal.invariant-loop-item
invariant-loop-item l =
    let found = list_any (has_operation_as l.fn.entry l.fn.object l.fn.name) in
    found (map item_tree (drop l.item-index l.fn.items)) ≡ found (map item_tree l.fn.items)
