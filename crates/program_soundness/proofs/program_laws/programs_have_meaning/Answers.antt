use Rattle.program_soundness.proofs.Starts.{programs_have_meaning}
use Rattle.program_soundness.proofs.program_laws.programs_have_meaning.Goals as goal

pub returns : goal.returns
returns c = programs_have_meaning c.runs_have_meaning.ensures c.starts_are_sound.ensures
