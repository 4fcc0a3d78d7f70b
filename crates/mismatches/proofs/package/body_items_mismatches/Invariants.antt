use Rattle.std.proofs.Common.{◌≡◌, drop, map}
use Rattle.ada_tree.specs.ProgramTree.{body_item_tree}
use Rattle.declaration_rules.specs.PackageNames.{body_items_scope}
use Rattle.mismatches.specs.Conflicts.{noted}
use Rattle.mismatches.specs.BodyMismatches.{body_items_mismatches}
use Rattle.mismatches.proofs.package.body_items_mismatches.Given as goal

abbrev pub invariant-loop-item : goal.invariant-loop-item
invariant-loop-item l =
    (noted l.search (body_items_mismatches l.scope (map body_item_tree (drop l.item-index l.items))) ≡ noted l.fn.search (body_items_mismatches l.fn.scope (map body_item_tree l.items)))
    × (body_items_scope l.scope (map body_item_tree (drop l.item-index l.items)) ≡ body_items_scope l.fn.scope (map body_item_tree l.items))
