use Rattle.parser.proofs.programs.Whole.{one_tree}
use Rattle.parser.proofs.parsing.one_tree.Goals as goal

pub returns : goal.returns
returns c = one_tree c.limit_is_depth.ensures
