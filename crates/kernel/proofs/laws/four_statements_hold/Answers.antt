use Rattle.kernel.proofs.Four.{four_hold}
use Rattle.kernel.proofs.laws.four_statements_hold.Goals as goal

pub returns : goal.returns
returns c = four_hold
