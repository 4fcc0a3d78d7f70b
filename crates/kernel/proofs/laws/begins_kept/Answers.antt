use Rattle.kernel.proofs.Always.{begins_kept}
use Rattle.kernel.proofs.laws.begins_kept.Goals as goal

pub returns : goal.returns
returns c = begins_kept
