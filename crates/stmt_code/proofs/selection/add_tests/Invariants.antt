use Rattle.std.proofs.Common.{◌≡◌, drop, map}
use Rattle.ada_tree.specs.ExpressionTree.{expr_tree}
use Rattle.expr_code.specs.Pieces.{adds}
use Rattle.stmt_code.specs.SimpleCode.{tests_code}
use Rattle.stmt_code.proofs.selection.add_tests.Given as goal

abbrev pub invariant-loop-choice : goal.invariant-loop-choice
invariant-loop-choice l =
    adds l.fragment (tests_code l.scope l.label (map expr_tree (drop l.choice-index l.choices)))
    ≡ adds l.fn.fragment (tests_code l.scope l.label (map expr_tree l.choices))
