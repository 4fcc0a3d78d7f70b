use Rattle.kernel.proofs.Delivery.{delivers_once}
use Rattle.kernel.proofs.laws.delivers_once.Goals as goal

pub returns : goal.returns
returns c = delivers_once
