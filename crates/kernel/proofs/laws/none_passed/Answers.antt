use Rattle.kernel.proofs.Order.{none_passed}
use Rattle.kernel.proofs.laws.none_passed.Goals as goal

pub returns : goal.returns
returns c = none_passed
