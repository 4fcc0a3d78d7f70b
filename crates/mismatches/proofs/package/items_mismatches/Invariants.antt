use Rattle.std.proofs.Common.{◌≡◌, drop, map}
use Rattle.ada_tree.specs.ProgramTree.{item_tree}
use Rattle.declaration_rules.specs.ItemRules.{items_scope}
use Rattle.mismatches.specs.Conflicts.{noted}
use Rattle.mismatches.specs.BodyMismatches.{items_mismatches}
use Rattle.mismatches.proofs.package.items_mismatches.Given as goal

abbrev pub invariant-loop-item : goal.invariant-loop-item
invariant-loop-item l =
    (noted l.search (items_mismatches l.scope (map item_tree (drop l.item-index l.items))) ≡ noted l.fn.search (items_mismatches l.fn.scope (map item_tree l.items)))
    × (items_scope l.scope (map item_tree (drop l.item-index l.items)) ≡ items_scope l.fn.scope (map item_tree l.items))
