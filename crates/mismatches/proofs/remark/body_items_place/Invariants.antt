use Rattle.std.proofs.Common.{◌≡◌, drop, map}
use Rattle.ada_tree.specs.ProgramTree.{body_item_tree}
use Rattle.mismatches.specs.Remarks.{body_items_place}
use Rattle.mismatches.proofs.remark.body_items_place.Given as goal

abbrev pub invariant-loop-item : goal.invariant-loop-item
invariant-loop-item l = body_items_place l.scope l.number (map body_item_tree (drop l.item-index l.items)) ≡ body_items_place l.scope l.number (map body_item_tree l.items)
