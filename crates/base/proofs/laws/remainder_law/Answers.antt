use Rattle.base.proofs.Division.{remainder_law}
use Rattle.base.proofs.laws.remainder_law.Goals as goal

pub returns : goal.returns
returns c = remainder_law
