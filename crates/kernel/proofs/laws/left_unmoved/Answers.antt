use Rattle.kernel.proofs.Unmoved.{left_unmoved}
use Rattle.kernel.proofs.laws.left_unmoved.Goals as goal

pub returns : goal.returns
returns c = left_unmoved
