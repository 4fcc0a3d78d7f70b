use Rattle.kernel.proofs.Calm.{clocked_once}
use Rattle.kernel.proofs.laws.clocked_once.Goals as goal

pub returns : goal.returns
returns c = clocked_once
