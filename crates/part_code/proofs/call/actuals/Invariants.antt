use Rattle.std.proofs.Common.{◌≡◌, ◌++◌, drop}
use Rattle.ada_tree.specs.ExpressionTree.{argument_trees}
use Rattle.expr_code.specs.Pieces.{adds}
use Rattle.part_code.specs.PartCode.{actuals_code, actuals_height, actuals_targets}
use Rattle.part_code.proofs.call.actuals.Given as goal

abbrev pub invariant-loop-index : goal.invariant-loop-index
invariant-loop-index l =
    (actuals_height l.visible l.height (drop l.index l.formals) (argument_trees (drop l.index l.arguments))
    ≡ actuals_height l.visible 0 l.formals (argument_trees l.arguments))
    × (adds l.fragment (actuals_code l.visible l.height (drop l.index l.formals) (argument_trees (drop l.index l.arguments)))
    ≡ adds l.fn.fragment (actuals_code l.visible 0 l.formals (argument_trees l.arguments)))
    × (l.destinations.items ++ actuals_targets l.visible (drop l.index l.formals) (argument_trees (drop l.index l.arguments))
    ≡ l.fn.destinations.items ++ actuals_targets l.visible l.formals (argument_trees l.arguments))
