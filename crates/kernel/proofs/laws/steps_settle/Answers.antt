use Rattle.kernel.proofs.Left.{steps_settle}
use Rattle.kernel.proofs.laws.steps_settle.Goals as goal

pub returns : goal.returns
returns c = steps_settle
