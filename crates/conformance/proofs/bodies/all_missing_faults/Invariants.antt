use Rattle.std.proofs.Common.{◌≡◌, drop, map}
use Rattle.ada_tree.specs.ProgramTree.{body_item_tree, item_tree}
use Rattle.expr_rules.specs.Findings.{noted}
use Rattle.conformance.specs.MatchingRules.{all_missing_faults}
use Rattle.conformance.proofs.bodies.all_missing_faults.Given as goal

abbrev pub invariant-loop-item : goal.invariant-loop-item
invariant-loop-item l =
    noted l.found (all_missing_faults (map body_item_tree l.bodies) (map item_tree (drop l.item-index l.items)))
    ≡ noted l.fn.found (all_missing_faults (map body_item_tree l.bodies) (map item_tree l.items))
