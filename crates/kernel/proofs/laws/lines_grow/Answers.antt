use Rattle.kernel.proofs.Unmoved.{lines_grow}
use Rattle.kernel.proofs.laws.lines_grow.Goals as goal

pub returns : goal.returns
returns c = lines_grow
