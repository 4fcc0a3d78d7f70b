use Rattle.ada_tree.proofs.Rows.{loop_tree}
use Rattle.ada_tree.proofs.statement.Stmt.iterated.Goals as goal

pub returns : goal.returns
returns c = loop_tree c.args.place c.args.iteration c.args.statements
