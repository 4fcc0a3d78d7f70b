use Rattle.program_soundness.proofs.LyingStarts.{programs_keep_subtypes}
use Rattle.program_soundness.proofs.subtype_laws.programs_keep_subtypes.Goals as goal

pub returns : goal.returns
returns c = programs_keep_subtypes c.runs_keep_subtypes.ensures c.starts_are_sound.ensures c.starts_lie.ensures
