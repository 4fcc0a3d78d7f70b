use Rattle.meaning.proofs.Faults.{source_never_faults}
use Rattle.meaning.proofs.laws.source_never_faults.Goals as goal

pub returns : goal.returns
returns c = source_never_faults
