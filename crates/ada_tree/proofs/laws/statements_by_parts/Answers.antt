use Rattle.ada_tree.proofs.Rows.{statements_by_parts}
use Rattle.ada_tree.proofs.laws.statements_by_parts.Goals as goal

pub returns : goal.returns
returns c = statements_by_parts
