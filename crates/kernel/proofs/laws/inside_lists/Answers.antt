use Rattle.kernel.proofs.Four.{inside_lists}
use Rattle.kernel.proofs.laws.inside_lists.Goals as goal

pub returns : goal.returns
returns c = inside_lists
