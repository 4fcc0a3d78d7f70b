use Rattle.std.proofs.Common.{rules}
use Rattle.ada2012_tree.proofs.Rows.{row_associations}
use Rattle.ada2012_tree.specs.declared.expression.ExprKind as kinds
use Rattle.ada2012_tree.proofs.expression.Expr.aggregate.Goals as goal

pub returns : goal.returns
returns c = search (rules, row_associations, kinds.the_lemmas)
