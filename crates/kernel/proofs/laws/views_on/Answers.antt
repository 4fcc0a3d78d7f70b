use Rattle.kernel.proofs.Calm.{views_on}
use Rattle.kernel.proofs.laws.views_on.Goals as goal

pub returns : goal.returns
returns c = views_on
