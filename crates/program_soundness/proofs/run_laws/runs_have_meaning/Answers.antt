use Rattle.program_soundness.proofs.Runs.{runs_have_meaning}
use Rattle.program_soundness.proofs.run_laws.runs_have_meaning.Goals as goal

pub returns : goal.returns
returns c = runs_have_meaning c.runs_are_sound.ensures
