use Rattle.kernel.proofs.Calm.{views_back}
use Rattle.kernel.proofs.laws.views_back.Goals as goal

pub returns : goal.returns
returns c = views_back
