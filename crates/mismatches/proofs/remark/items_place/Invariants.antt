use Rattle.std.proofs.Common.{◌≡◌, drop, map}
use Rattle.ada_tree.specs.ProgramTree.{item_tree}
use Rattle.mismatches.specs.Remarks.{items_place}
use Rattle.mismatches.proofs.remark.items_place.Given as goal

abbrev pub invariant-loop-item : goal.invariant-loop-item
invariant-loop-item l = items_place l.scope l.number (map item_tree (drop l.item-index l.items)) ≡ items_place l.scope l.number (map item_tree l.items)
