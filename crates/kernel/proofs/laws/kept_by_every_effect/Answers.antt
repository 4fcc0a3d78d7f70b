use Rattle.kernel.proofs.Steps.{kept_by_every}
use Rattle.kernel.proofs.laws.kept_by_every_effect.Goals as goal

pub returns : goal.returns
returns c = kept_by_every
