use Rattle.std.proofs.Common.{◌≡◌, ◌+◌, drop, map}
use Rattle.ada_tree.specs.ProgramTree.{body_item_tree}
use Rattle.expr_rules.specs.Findings.{noted}
use Rattle.legality.specs.OpenParts.{object_ends, open_body_faults}
use Rattle.legality.proofs.like_names.body_faults.Given as goal

abbrev pub invariant-loop-index : goal.invariant-loop-index
invariant-loop-index l =
    (noted l.found (open_body_faults l.whole l.names (l.index + 1) (map body_item_tree (drop l.index l.items)))
    ≡ noted l.fn.found (open_body_faults l.whole l.fn.names 1 (map body_item_tree l.items)))
    × (l.ends.items ≡ object_ends l.whole (l.index + 1) (map body_item_tree (drop l.index l.items)))
