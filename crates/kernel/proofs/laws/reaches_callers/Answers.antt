use Rattle.kernel.proofs.Four.{reaches_callers}
use Rattle.kernel.proofs.laws.reaches_callers.Goals as goal

pub returns : goal.returns
returns c = reaches_callers
