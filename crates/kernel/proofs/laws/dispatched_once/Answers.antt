use Rattle.kernel.proofs.Calm.{dispatched_once}
use Rattle.kernel.proofs.laws.dispatched_once.Goals as goal

pub returns : goal.returns
returns c = dispatched_once
