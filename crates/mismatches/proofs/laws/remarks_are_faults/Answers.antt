use Rattle.mismatches.proofs.BrokenBodies.{remarks_broken}
use Rattle.mismatches.proofs.laws.remarks_are_faults.Goals as goal

pub returns : goal.returns
returns c = remarks_broken
