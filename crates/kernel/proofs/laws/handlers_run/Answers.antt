use Rattle.kernel.proofs.Delivery.{handlers_run}
use Rattle.kernel.proofs.laws.handlers_run.Goals as goal

pub returns : goal.returns
returns c = handlers_run
