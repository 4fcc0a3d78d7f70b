use Rattle.ada_tree.proofs.Rows.{case_tree}
use Rattle.ada_tree.proofs.statement.Stmt.case.Goals as goal

pub returns : goal.returns
returns c = case_tree c.args.place c.args.value c.args.alternatives
