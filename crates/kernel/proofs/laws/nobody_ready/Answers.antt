use Rattle.kernel.proofs.Four.{nobody_ready}
use Rattle.kernel.proofs.laws.nobody_ready.Goals as goal

pub returns : goal.returns
returns c = nobody_ready
