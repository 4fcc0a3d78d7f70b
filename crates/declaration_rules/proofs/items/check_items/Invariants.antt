use Rattle.std.proofs.Common.{◌≡◌, drop, map}
use Rattle.ada_tree.specs.ProgramTree.{item_tree}
use Rattle.expr_rules.specs.Findings.{noted}
use Rattle.declaration_rules.specs.ItemRules.{items_faults, items_scope}
use Rattle.declaration_rules.proofs.items.check_items.Given as goal

abbrev pub invariant-loop-item : goal.invariant-loop-item
invariant-loop-item l =
    (noted l.found (items_faults l.scope (map item_tree (drop l.item-index l.items))) ≡ noted l.fn.found (items_faults l.fn.scope (map item_tree l.items)))
    × (items_scope l.scope (map item_tree (drop l.item-index l.items)) ≡ items_scope l.fn.scope (map item_tree l.items))
