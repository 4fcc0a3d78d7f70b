use Rattle.std.proofs.Common.{◌≡◌, drop, map}
use Rattle.ada_tree.specs.ProgramTree.{item_tree}
use Rattle.expr_rules.specs.Findings.{noted}
use Rattle.legality.specs.OpenParts.{open_items_faults, with_items}
use Rattle.legality.proofs.like_names.specification_faults.Given as goal

abbrev pub invariant-loop-item : goal.invariant-loop-item
invariant-loop-item l =
    (noted l.found (open_items_faults l.bodies l.whole l.names (map item_tree (drop l.item-index l.items)))
    ≡ noted l.fn.found (open_items_faults l.bodies l.whole l.fn.names (map item_tree l.items)))
    × (with_items l.bodies l.whole l.names (map item_tree (drop l.item-index l.items)) ≡ with_items l.bodies l.whole l.fn.names (map item_tree l.items))
