use Rattle.std.proofs.Common.{◌≡◌, drop, map}
use Rattle.ada_tree.specs.ProgramTree.{body_item_tree, item_tree}
use Rattle.diagnostics.specs.hints.BodyFaults.{fault_of_body_item}
use Rattle.diagnostics.specs.hints.Found.{first_found}
use Rattle.diagnostics.proofs.hints.body_faults.fault_among_bodies.Given as goal

-- what is left decides
abbrev pub invariant-loop-item : goal.invariant-loop-item
invariant-loop-item l =
    let found = first_found (fault_of_body_item l.fn.place (map item_tree l.fn.items) (map body_item_tree l.fn.all)) in
    found (map body_item_tree (drop l.item-index l.fn.all)) ≡ found (map body_item_tree l.fn.all)
