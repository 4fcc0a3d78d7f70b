-- The first obstacle in a chain of operators operand by operand, as one walk reads it. Serves the proof of the walk.
use Rattle.std.specs.Prelude.{List, [], ◌∷◌, Option}
use Rattle.ada_tree.specs.declared.expression.Operand.{Operand}
use Rattle.ada_tree.specs.ExpressionTree.{expr_tree}
use Rattle.types.specs.Scopes.{Scope}
use Rattle.mismatches.specs.declared.conflict.Obstacle.{Obstacle}
use Rattle.mismatches.specs.StaticMismatches.{obstacle_in, or_obstacle}

abbrev pub operands_obstacle : Scope → Option Obstacle → List Operand → Option Obstacle
operands_obstacle s first [] = first
operands_obstacle s first (o ∷ rest) = operands_obstacle s (or_obstacle first (obstacle_in s (expr_tree o.value))) rest
