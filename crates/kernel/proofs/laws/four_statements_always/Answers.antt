use Rattle.kernel.proofs.Always.{four_always}
use Rattle.kernel.proofs.laws.four_statements_always.Goals as goal

pub returns : goal.returns
returns c = four_always
