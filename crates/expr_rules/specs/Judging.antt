-- What one walk finds of an expression: its own type, its place, and what is broken in it; for chains of operators operand by operand. Serves the proofs of
-- the walks.
use Rattle.std.specs.Prelude.{List, [], ◌∷◌, ◌++◌}
use Rattle.ada_tree.specs.declared.expression.BinaryOperator.{BinaryOperator}
use Rattle.ada_tree.specs.declared.expression.Operand.{Operand}
use Rattle.ada_tree.specs.ExpressionTree.{ExprTree, expr_tree}
use Rattle.types.specs.Scopes.{Scope}
use Rattle.types.specs.Statics.{start_of}
use Rattle.expr_rules.specs.declared.own.Own.{Own}
use Rattle.expr_rules.specs.declared.walk.Judged.{Judged}
use Rattle.expr_rules.specs.Faults.{Faults}
use Rattle.expr_rules.specs.Typing.{own_of, binary_own}
use Rattle.expr_rules.specs.ExpressionRules.{faults_in, beside, binary_rule}

-- the type after operators and the operands behind them, where all before them has this type
abbrev pub own_after : Scope → Own → List Operand → Own
own_after s own [] = own
own_after s own (o ∷ rest) = own_after s (binary_own s o.operator own (own_of s (expr_tree o.value))) rest

abbrev pub judged : Scope → ExprTree → Judged
judged s e = record { own = own_of s e; place = start_of e }

-- the operation on what was judged and one more operand
abbrev pub joined : Scope → Judged → BinaryOperator → ExprTree → Judged
joined s left operator e = record { own = binary_own s operator left.own (own_of s e); place = left.place }

abbrev pub judged_after : Scope → Judged → List Operand → Judged
judged_after s left [] = left
judged_after s left (o ∷ rest) = judged_after s (joined s left o.operator (expr_tree o.value)) rest

-- what is broken in one more operand, and in the operation on it
abbrev pub joined_faults : Scope → Judged → BinaryOperator → ExprTree → Faults
joined_faults s left operator e = faults_in s (beside s operator left.own) e ++ binary_rule s operator left.place left.own (own_of s e)

abbrev pub operands_faults : Scope → Judged → List Operand → Faults
operands_faults s left [] = []
operands_faults s left (o ∷ rest) = joined_faults s left o.operator (expr_tree o.value) ++ operands_faults s (joined s left o.operator (expr_tree o.value)) rest
