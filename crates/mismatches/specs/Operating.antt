-- A chain of operators operand by operand, as one walk reads it. Serves the proof of the walk.
use Rattle.std.specs.Prelude.{List, [], ◌∷◌, ◌++◌}
use Rattle.ada_tree.specs.declared.expression.BinaryOperator.{BinaryOperator}
use Rattle.ada_tree.specs.declared.expression.Operand.{Operand}
use Rattle.ada_tree.specs.ExpressionTree.{ExprTree, expr_tree}
use Rattle.types.specs.Scopes.{Scope}
use Rattle.types.specs.Statics.{start_of}
use Rattle.expr_rules.specs.ExpressionRules.{beside}
use Rattle.expr_rules.specs.Typing.{binary_own, own_of}
use Rattle.mismatches.specs.declared.expressions.LeftOperand.{LeftOperand}
use Rattle.mismatches.specs.Conflicts.{Mismatches}
use Rattle.mismatches.specs.ExpressionMismatches.{binary_mismatch, mismatches_in}

abbrev pub left_operand : Scope → ExprTree → LeftOperand
left_operand s e = record { own = own_of s e; place = start_of e }

-- the operation on a left operand and one more
abbrev pub joined : Scope → LeftOperand → BinaryOperator → ExprTree → LeftOperand
joined s left operator e = record { own = binary_own s operator left.own (own_of s e); place = left.place }

abbrev pub joined_mismatches : Scope → LeftOperand → BinaryOperator → ExprTree → Mismatches
joined_mismatches s left operator e = mismatches_in s (beside s operator left.own) e ++ binary_mismatch s operator left.place left.own (own_of s e)

abbrev pub operands_mismatches : Scope → LeftOperand → List Operand → Mismatches
operands_mismatches s left [] = []
operands_mismatches s left (o ∷ rest) =
    joined_mismatches s left o.operator (expr_tree o.value) ++ operands_mismatches s (joined s left o.operator (expr_tree o.value)) rest
