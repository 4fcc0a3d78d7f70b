use Rattle.image_laws.proofs.Exclusion.{kernel_kept}
use Rattle.image_laws.proofs.kernel_kept.Goals as goal

pub returns : goal.returns
returns c = kernel_kept c.begins_kept.ensures c.kept_by_every_effect.ensures c.steps_settle.ensures c.start_settles.ensures c.entry_opens.ensures c.reaches_callers.ensures c.four_statements_hold.ensures
