use Rattle.kernel.proofs.Calm.{opens_on}
use Rattle.kernel.proofs.laws.opens_on.Goals as goal

pub returns : goal.returns
returns c = opens_on
