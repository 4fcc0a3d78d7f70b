use Rattle.std.proofs.Common.{rules}
use Rattle.ada2012_tree.proofs.Rows.{row_operands}
use Rattle.ada2012_tree.specs.declared.expression.ExprKind as kinds
use Rattle.ada2012_tree.proofs.expression.Expr.chain.Goals as goal

pub returns : goal.returns
returns c = search (rules, row_operands, kinds.the_lemmas)
