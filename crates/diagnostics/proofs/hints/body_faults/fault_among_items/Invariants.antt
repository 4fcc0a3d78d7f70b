use Rattle.std.proofs.Common.{◌≡◌, drop, map}
use Rattle.ada_tree.specs.ProgramTree.{item_tree}
use Rattle.diagnostics.specs.hints.BodyFaults.{fault_of_item}
use Rattle.diagnostics.specs.hints.Found.{first_found}
use Rattle.diagnostics.proofs.hints.body_faults.fault_among_items.Given as goal

-- what is left decides
abbrev pub invariant-loop-item : goal.invariant-loop-item
invariant-loop-item l =
    let found = first_found (fault_of_item l.fn.place) in
    found (map item_tree (drop l.item-index l.fn.items)) ≡ found (map item_tree l.fn.items)
