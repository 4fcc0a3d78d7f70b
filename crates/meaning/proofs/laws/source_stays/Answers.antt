use Rattle.meaning.proofs.Runs.{source_stays}
use Rattle.meaning.proofs.laws.source_stays.Goals as goal

pub returns : goal.returns
returns c = source_stays
