use Rattle.kernel.proofs.Calm.{stands_still}
use Rattle.kernel.proofs.laws.stands_still.Goals as goal

pub returns : goal.returns
returns c = stands_still
