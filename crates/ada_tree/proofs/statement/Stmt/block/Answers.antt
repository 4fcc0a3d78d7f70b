use Rattle.ada_tree.proofs.Rows.{block_tree}
use Rattle.ada_tree.proofs.statement.Stmt.block.Goals as goal

pub returns : goal.returns
returns c = block_tree c.args.place c.args.declarations c.args.statements c.args.handlers
