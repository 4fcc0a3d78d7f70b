-- What is read of a name and of a chain of operators for bounds. Serves the proof of `bounds`.
use Rattle.std.specs.Prelude.{ℤ, List, [], ◌∷◌, Some}
use Rattle.ada_tree.specs.declared.expression.Operand.{Operand}
use Rattle.ada_tree.specs.ExpressionTree.{expr_tree}
use Rattle.types.specs.declared.entity.Value.TheVariants as scalar
use Rattle.types.specs.declared.standing.Standing.{Standing}
use Rattle.types.specs.declared.standing.Standing.TheVariants as standing
use Rattle.types.specs.Scopes.{Scope}
use Rattle.types.specs.Bounds.{name_bounds, operation_bounds, static_number}

-- the number that is known of a name, twice, or else the bounds of its subtype
abbrev pub standing_bounds : Standing → ℤ × ℤ
standing_bounds (standing.Fixed t (Some (scalar.Number z))) = (z, z)
standing_bounds (standing.Given t (Some (scalar.Number z))) = (z, z)
standing_bounds (standing.Plain z) = (z, z)
standing_bounds w = name_bounds w

-- the last operator alone decides
abbrev pub bounds_after : Scope → (before : ℤ × ℤ) → List Operand → ℤ × ℤ
bounds_after s before [] = before
bounds_after s before (o ∷ rest) = bounds_after s (operation_bounds o.operator (static_number s (expr_tree o.value))) rest
