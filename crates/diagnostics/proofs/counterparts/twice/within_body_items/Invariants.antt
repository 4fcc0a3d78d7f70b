use Rattle.std.proofs.Common.{◌≡◌, drop, map}
use Rattle.ada_tree.specs.ProgramTree.{body_item_tree, item_tree}
use Rattle.diagnostics.specs.counterparts.Fronts.{first_of}
use Rattle.diagnostics.specs.counterparts.Twice.{within_body_item}
use Rattle.diagnostics.proofs.counterparts.twice.within_body_items.Given as goal

-- what is left decides
abbrev pub invariant-loop-item : goal.invariant-loop-item
invariant-loop-item l =
    let found = first_of (within_body_item l.fn.name l.fn.place (map item_tree l.fn.specified) (map body_item_tree l.fn.all)) in
    found (map body_item_tree (drop l.item-index l.fn.items)) ≡ found (map body_item_tree l.fn.items)
