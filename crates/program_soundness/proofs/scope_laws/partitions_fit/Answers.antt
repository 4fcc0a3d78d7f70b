use Rattle.program_soundness.proofs.Priorities.{partition_fits}
use Rattle.program_soundness.proofs.scope_laws.partitions_fit.Goals as goal

pub returns : goal.returns
returns c = partition_fits
