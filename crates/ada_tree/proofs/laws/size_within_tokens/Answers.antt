use Rattle.ada_tree.proofs.ProgramCounts.{size_within_tokens}
use Rattle.ada_tree.proofs.laws.size_within_tokens.Goals as goal

pub returns : goal.returns
returns c = size_within_tokens
