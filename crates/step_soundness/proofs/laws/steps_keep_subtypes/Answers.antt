use Rattle.step_soundness.proofs.LyingSteps.{steps_keep_subtypes}
use Rattle.step_soundness.proofs.laws.steps_keep_subtypes.Goals as goal

pub returns : goal.returns
returns c = steps_keep_subtypes c.composites_lie.ensures c.stored_values_lie.ensures
