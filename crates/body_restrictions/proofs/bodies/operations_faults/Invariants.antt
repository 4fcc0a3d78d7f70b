use Rattle.std.proofs.Common.{◌≡◌, drop, map}
use Rattle.ada_tree.specs.ProgramTree.{protected_item_tree}
use Rattle.expr_rules.specs.Findings.{noted}
use Rattle.body_restrictions.specs.BodyRules.{operations_faults}
use Rattle.body_restrictions.proofs.bodies.operations_faults.Given as goal

abbrev pub invariant-loop-item : goal.invariant-loop-item
invariant-loop-item l =
    noted l.found (operations_faults l.components (map protected_item_tree (drop l.item-index l.items)))
    ≡ noted l.fn.found (operations_faults l.components (map protected_item_tree l.items))
