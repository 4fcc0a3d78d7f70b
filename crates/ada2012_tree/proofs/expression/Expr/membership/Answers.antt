use Rattle.std.proofs.Common.{rules}
use Rattle.ada2012_tree.proofs.Rows.{row_choices}
use Rattle.ada2012_tree.specs.declared.expression.ExprKind as kinds
use Rattle.ada2012_tree.proofs.expression.Expr.membership.Goals as goal

pub returns : goal.returns
returns c = search (rules, row_choices, kinds.the_lemmas)
