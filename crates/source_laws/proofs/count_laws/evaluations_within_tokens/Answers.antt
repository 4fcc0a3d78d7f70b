use Rattle.source_laws.proofs.EvaluationsCounted.{evaluations_within_tokens}
use Rattle.source_laws.proofs.count_laws.evaluations_within_tokens.Goals as goal

pub returns : goal.returns
returns c = evaluations_within_tokens c.quiet_stays.ensures
