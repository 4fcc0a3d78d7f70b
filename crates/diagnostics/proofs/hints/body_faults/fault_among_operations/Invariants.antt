use Rattle.std.proofs.Common.{◌≡◌, drop, map}
use Rattle.ada_tree.specs.ProgramTree.{body_item_tree, item_tree, protected_item_tree}
use Rattle.diagnostics.specs.hints.BodyFaults.{operation_fault}
use Rattle.diagnostics.specs.hints.Found.{first_found}
use Rattle.diagnostics.proofs.hints.body_faults.fault_among_operations.Given as goal

-- what is left decides
abbrev pub invariant-loop-item : goal.invariant-loop-item
invariant-loop-item l =
    let found = first_found (operation_fault l.fn.place (map item_tree l.fn.items) (map body_item_tree l.fn.all) l.fn.object (map protected_item_tree l.fn.operations)) in
    found (map protected_item_tree (drop l.item-index l.fn.among)) ≡ found (map protected_item_tree l.fn.among)
