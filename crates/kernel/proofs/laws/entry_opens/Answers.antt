use Rattle.kernel.proofs.Calm.{entry_opens}
use Rattle.kernel.proofs.laws.entry_opens.Goals as goal

pub returns : goal.returns
returns c = entry_opens
