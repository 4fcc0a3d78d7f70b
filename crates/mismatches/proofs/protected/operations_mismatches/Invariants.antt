use Rattle.std.proofs.Common.{◌≡◌, drop, map}
use Rattle.ada_tree.specs.ProgramTree.{protected_item_tree}
use Rattle.unit_rules.specs.ProtectedBodyRules.{protected_items_scope}
use Rattle.mismatches.specs.Conflicts.{noted}
use Rattle.mismatches.specs.BodyMismatches.{operations_mismatches}
use Rattle.mismatches.proofs.protected.operations_mismatches.Given as goal

abbrev pub invariant-loop-item : goal.invariant-loop-item
invariant-loop-item l =
    (noted l.search (operations_mismatches l.scope l.components (map protected_item_tree (drop l.item-index l.items)))
    ≡ noted l.fn.search (operations_mismatches l.fn.scope l.components (map protected_item_tree l.items)))
    × (protected_items_scope l.scope (map protected_item_tree (drop l.item-index l.items)) ≡ protected_items_scope l.fn.scope (map protected_item_tree l.items))
