use Rattle.std.proofs.Common.{◌≡◌, drop, map}
use Rattle.ada_tree.specs.ProgramTree.{protected_item_tree}
use Rattle.expr_rules.specs.Findings.{noted}
use Rattle.unit_rules.specs.ProtectedBodyRules.{outer_names_faults}
use Rattle.unit_rules.proofs.protected.outer_names_faults.Given as goal

abbrev pub invariant-loop-item : goal.invariant-loop-item
invariant-loop-item l =
    noted l.found (outer_names_faults l.scope (map protected_item_tree (drop l.item-index l.items))) ≡ noted l.fn.found (outer_names_faults l.scope (map protected_item_tree l.items))
