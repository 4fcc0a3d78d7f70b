use Rattle.ada_tree.proofs.ProgramLevels.{limit_is_depth}
use Rattle.ada_tree.proofs.laws.limit_is_depth.Goals as goal

pub returns : goal.returns
returns c = limit_is_depth
