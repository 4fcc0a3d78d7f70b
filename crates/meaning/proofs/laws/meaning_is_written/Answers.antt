use Rattle.meaning.proofs.Runs.{meaning_is_written}
use Rattle.meaning.proofs.laws.meaning_is_written.Goals as goal

pub returns : goal.returns
returns c = meaning_is_written
