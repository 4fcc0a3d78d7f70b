use Rattle.std.proofs.Common.{◌≡◌, drop, map}
use Rattle.std.specs.List.{list_any}
use Rattle.ada_tree.specs.ProgramTree.{body_item_tree}
use Rattle.diagnostics.specs.hints.BodyFaults.{item_has_operation_as}
use Rattle.diagnostics.proofs.hints.body_faults.is_in_body_as.Given as goal

-- what is left decides
abbrev pub invariant-loop-item : goal.invariant-loop-item
invariant-loop-item l =
    let found = list_any (item_has_operation_as l.fn.entry l.fn.object l.fn.name) in
    found (map body_item_tree (drop l.item-index l.fn.items)) ≡ found (map body_item_tree l.fn.items)
