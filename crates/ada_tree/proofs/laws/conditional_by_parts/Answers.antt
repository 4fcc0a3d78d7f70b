use Rattle.ada_tree.proofs.Rows.{conditional_tree}
use Rattle.ada_tree.proofs.laws.conditional_by_parts.Goals as goal

pub returns : goal.returns
returns c = conditional_tree
