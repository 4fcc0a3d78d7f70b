use Rattle.kernel.proofs.Calm.{quiet_stays}
use Rattle.kernel.proofs.laws.quiet_stays.Goals as goal

pub returns : goal.returns
returns c = quiet_stays
