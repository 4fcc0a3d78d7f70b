use Rattle.std.proofs.Common.{◌≡◌, drop, map}
use Rattle.ada_tree.specs.ProgramTree.{body_item_tree}
use Rattle.expr_rules.specs.Findings.{noted}
use Rattle.declaration_rules.specs.PackageNames.{body_items_scope}
use Rattle.unit_rules.specs.PackageBodyRules.{body_items_faults}
use Rattle.unit_rules.proofs.package_body.body_items_faults.Given as goal

abbrev pub invariant-loop-item : goal.invariant-loop-item
invariant-loop-item l =
    (noted l.found (body_items_faults l.scope (map body_item_tree (drop l.item-index l.items))) ≡ noted l.fn.found (body_items_faults l.fn.scope (map body_item_tree l.items)))
    × (body_items_scope l.scope (map body_item_tree (drop l.item-index l.items)) ≡ body_items_scope l.fn.scope (map body_item_tree l.items))
