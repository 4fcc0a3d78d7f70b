use Rattle.ada_tree.proofs.Rows.{named_tree}
use Rattle.ada_tree.proofs.expression.Expr.of_name.Goals as goal

pub returns : goal.returns
returns c = named_tree c.args.name
