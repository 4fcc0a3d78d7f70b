use Rattle.std.proofs.Common.{rules}
use Rattle.ada2012_tree.proofs.Rows.{row_selectors}
use Rattle.ada2012_tree.specs.declared.expression.ExprKind as kinds
use Rattle.ada2012_tree.proofs.expression.Expr.of_name.Goals as goal

pub returns : goal.returns
returns c = search (rules, row_selectors, kinds.the_lemmas)
