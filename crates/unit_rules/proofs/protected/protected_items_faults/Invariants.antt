use Rattle.std.proofs.Common.{◌≡◌, drop, map}
use Rattle.ada_tree.specs.ProgramTree.{protected_item_tree}
use Rattle.expr_rules.specs.Findings.{noted}
use Rattle.unit_rules.specs.ProtectedBodyRules.{protected_items_faults, protected_items_scope}
use Rattle.unit_rules.proofs.protected.protected_items_faults.Given as goal

abbrev pub invariant-loop-item : goal.invariant-loop-item
invariant-loop-item l =
    (noted l.found (protected_items_faults l.scope l.components (map protected_item_tree (drop l.item-index l.items)))
    ≡ noted l.fn.found (protected_items_faults l.fn.scope l.components (map protected_item_tree l.items)))
    × (protected_items_scope l.scope (map protected_item_tree (drop l.item-index l.items)) ≡ protected_items_scope l.fn.scope (map protected_item_tree l.items))
