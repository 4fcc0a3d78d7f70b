use Rattle.kernel.proofs.Calm.{one_service}
use Rattle.kernel.proofs.laws.one_service.Goals as goal

pub returns : goal.returns
returns c = one_service
