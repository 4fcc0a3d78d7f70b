use Rattle.ada_tree.proofs.Rows.{named_tree}
use Rattle.ada_tree.proofs.laws.names_by_parts.Goals as goal

pub returns : goal.returns
returns c = named_tree
