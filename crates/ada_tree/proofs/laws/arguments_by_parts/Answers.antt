use Rattle.ada_tree.proofs.Rows.{arguments_tree}
use Rattle.ada_tree.proofs.laws.arguments_by_parts.Goals as goal

pub returns : goal.returns
returns c = arguments_tree
