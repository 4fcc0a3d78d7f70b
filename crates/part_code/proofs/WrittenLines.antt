-- Names and arguments that are no line.
use Rattle.std.proofs.Common.{◌≡◌, ◌<◌, ◌≤◌, List, [], ◌∷◌, length, None, refl, arith}
use Rattle.ada_tree.specs.declared.expression.Argument.{Argument}
use Rattle.ada_tree.specs.declared.expression.Argument as arguments
use Rattle.ada_tree.specs.declared.expression.Selector.{Selector}
use Rattle.ada_tree.specs.declared.expression.Selector as selectors
use Rattle.ada_tree.specs.ExpressionTree.{argument_trees, selector_trees}
use Rattle.part_code.specs.Lines.{line_behind, line_in}

-- ---- forms that are none

pub one_argument : (all : List Argument) → 1 ≤ length all → length all < 2 → None ≡ line_in (argument_trees all)
one_argument [] le lt = absurd (omega (arith, le))
one_argument (arguments.Expr e ∷ []) le lt = refl
one_argument (arguments.Label l p ∷ []) le lt = refl
one_argument (a ∷ b ∷ rest) le lt = absurd (omega (arith, lt))

pub many_arguments : (all : List Argument) → 3 ≤ length all → None ≡ line_in (argument_trees all)
many_arguments [] le = refl
many_arguments (a ∷ []) le = absurd (omega (arith, le))
many_arguments (a ∷ b ∷ []) le = absurd (omega (arith, le))
many_arguments (arguments.Expr e ∷ b ∷ c ∷ rest) le = refl
many_arguments (arguments.Label l p ∷ arguments.Expr e ∷ c ∷ rest) le = refl
many_arguments (arguments.Label l p ∷ arguments.Label m q ∷ c ∷ rest) le = refl

pub many_selectors : (all : List Selector) → 2 ≤ length all → None ≡ line_behind (selector_trees all)
many_selectors [] le = refl
many_selectors (a ∷ []) le = absurd (omega (arith, le))
many_selectors (selectors.Component i ∷ b ∷ rest) le = refl
many_selectors (selectors.Attribute i ∷ b ∷ rest) le = refl
many_selectors (selectors.Arguments' shape row ∷ b ∷ rest) le = refl
