use Rattle.meaning.proofs.Faults.{meaning_never_faults}
use Rattle.meaning.proofs.laws.meaning_never_faults.Goals as goal

pub returns : goal.returns
returns c = meaning_never_faults
