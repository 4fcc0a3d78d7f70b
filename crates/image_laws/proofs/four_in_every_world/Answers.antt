use Rattle.image_laws.proofs.Exclusion.{four_in_every_world}
use Rattle.image_laws.proofs.four_in_every_world.Goals as goal

pub returns : goal.returns
returns c = four_in_every_world c.begins_kept.ensures c.kept_by_every_effect.ensures c.steps_settle.ensures c.start_settles.ensures c.entry_opens.ensures c.reaches_callers.ensures c.four_statements_hold.ensures
