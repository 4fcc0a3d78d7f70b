use Rattle.kernel.proofs.Delivery.{handlers_go_on}
use Rattle.kernel.proofs.laws.handlers_go_on.Goals as goal

pub returns : goal.returns
returns c = handlers_go_on
