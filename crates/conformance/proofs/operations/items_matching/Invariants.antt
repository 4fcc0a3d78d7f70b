use Rattle.std.proofs.Common.{◌≡◌, [], drop, map, take}
use Rattle.ada_tree.specs.ProgramTree.{body_item_tree, item_tree}
use Rattle.expr_rules.specs.Findings.{noted}
use Rattle.conformance.specs.MatchingRules.{items_matching}
use Rattle.conformance.proofs.operations.items_matching.Given as goal

abbrev pub invariant-loop-index : goal.invariant-loop-index
invariant-loop-index l =
    (noted l.found (items_matching (map item_tree l.specified) (map body_item_tree (take l.index l.items)) (map body_item_tree (drop l.index l.items)))
    ≡ noted l.fn.found (items_matching (map item_tree l.specified) [] (map body_item_tree l.bodies)))
    × (l.front ≡ (l.specified, (l.items, l.index)))
