use Rattle.program_soundness.proofs.Barriers.{barriers_are_own}
use Rattle.program_soundness.proofs.scope_laws.barriers_are_their_own.Goals as goal

pub returns : goal.returns
returns c = barriers_are_own
