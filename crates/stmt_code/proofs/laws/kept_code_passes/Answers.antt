use Rattle.stmt_code.proofs.Whole.{kept_code_passes}
use Rattle.stmt_code.proofs.laws.kept_code_passes.Goals as goal

pub returns : goal.returns
returns c = kept_code_passes
