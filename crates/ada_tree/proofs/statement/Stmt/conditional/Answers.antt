use Rattle.ada_tree.proofs.Rows.{if_tree}
use Rattle.ada_tree.proofs.statement.Stmt.conditional.Goals as goal

pub returns : goal.returns
returns c = if_tree c.args.place c.args.condition c.args.then_part c.args.elsif_parts c.args.else_part
