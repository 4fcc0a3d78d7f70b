use Rattle.kernel.proofs.Calm.{says_on}
use Rattle.kernel.proofs.laws.says_on.Goals as goal

pub returns : goal.returns
returns c = says_on
