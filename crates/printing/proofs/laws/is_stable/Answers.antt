use Rattle.printing.proofs.Kept.{stable}
use Rattle.printing.proofs.laws.is_stable.Goals as goal

pub returns : goal.returns
returns c = stable
