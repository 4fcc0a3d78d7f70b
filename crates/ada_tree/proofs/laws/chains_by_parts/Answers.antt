use Rattle.ada_tree.proofs.Rows.{chained_tree}
use Rattle.ada_tree.proofs.laws.chains_by_parts.Goals as goal

pub returns : goal.returns
returns c = chained_tree
