use Rattle.kernel.proofs.Left.{start_settles}
use Rattle.kernel.proofs.laws.start_settles.Goals as goal

pub returns : goal.returns
returns c = start_settles
