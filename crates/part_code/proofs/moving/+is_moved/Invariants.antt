use Rattle.std.proofs.Common.{◌≡◌, drop}
use Rattle.ada_tree.specs.ExpressionTree.{elsif_value_trees}
use Rattle.part_code.specs.Moving.{are_moved}
use Rattle.part_code.proofs.moving.+is_moved.Given as goal

abbrev pub invariant-are_moved-loop-elsif : goal.invariant-are_moved-loop-elsif
invariant-are_moved-loop-elsif l =
    are_moved l.visible (elsif_value_trees (drop l.elsif-index l.elsifs)) ≡ are_moved l.visible (elsif_value_trees l.elsifs)
