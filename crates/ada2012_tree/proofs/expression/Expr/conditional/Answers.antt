use Rattle.std.proofs.Common.{rules}
use Rattle.ada2012_tree.proofs.Rows.{row_conditions}
use Rattle.ada2012_tree.specs.declared.expression.ExprKind as kinds
use Rattle.ada2012_tree.proofs.expression.Expr.conditional.Goals as goal

pub returns : goal.returns
returns c = search (rules, row_conditions, kinds.the_lemmas)
