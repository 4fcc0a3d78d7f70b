use Rattle.std.proofs.Common.{ℕ, List, drop}
use Rattle.ada_tree.specs.ExpressionTree.{elsif_value_trees}
use Rattle.expr_code.specs.Pieces.{Made, Opens}
use Rattle.part_code.specs.PartCode.{moves_code}
use Rattle.part_code.proofs.moving.+move_value.Given as goal

abbrev pub invariant-move_elsifs-loop-elsif : goal.invariant-move_elsifs-loop-elsif
invariant-move_elsifs-loop-elsif l =
    (final : Made) (places : List ℕ)
    → Opens l.fragment l.waiting.items (moves_code l.visible l.to (elsif_value_trees (drop l.elsif-index l.elsifs))) final places
    → Opens l.fn.fragment l.fn.waiting.items (moves_code l.visible l.to (elsif_value_trees l.elsifs)) final places
