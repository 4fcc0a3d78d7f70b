use Rattle.std.proofs.Common.{◌≡◌, drop, map}
use Rattle.ada_tree.specs.ProgramTree.{body_item_tree}
use Rattle.expr_rules.specs.Findings.{noted}
use Rattle.ravenscar.specs.ProgramRules.{body_items_faults}
use Rattle.ravenscar.proofs.package.body_items_faults.Given as goal

abbrev pub invariant-loop-item : goal.invariant-loop-item
invariant-loop-item l =
    noted l.found (body_items_faults l.scope l.taken (map body_item_tree (drop l.item-index l.items)))
    ≡ noted l.fn.found (body_items_faults l.fn.scope l.fn.taken (map body_item_tree l.items))
