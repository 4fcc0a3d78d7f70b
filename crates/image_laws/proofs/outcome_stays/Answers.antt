use Rattle.image_laws.proofs.Runs.{outcome_stays}
use Rattle.image_laws.proofs.outcome_stays.Goals as goal

pub returns : goal.returns
returns c = outcome_stays
