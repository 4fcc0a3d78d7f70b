use Rattle.meaning.proofs.Nulls.{return_means_nulls}
use Rattle.meaning.proofs.laws.return_means_nulls.Goals as goal

pub returns : goal.returns
returns c =
    return_means_nulls c.begins_kept.ensures c.kept_by_every_effect.ensures c.steps_settle.ensures c.start_settles.ensures c.lines_grow.ensures c.quiet_stays.ensures c.reaches_callers.ensures c.runner_is_calm.ensures
