use Rattle.source_laws.proofs.MeantWorlds.{actuals_fit}
use Rattle.source_laws.proofs.meaning_laws.actuals_fit.Goals as goal

pub returns : goal.returns
returns c = actuals_fit
