use Rattle.expr_soundness.proofs.Agreement.{agreement_is_kept}
use Rattle.expr_soundness.proofs.laws.agreement_is_kept.Goals as goal

pub returns : goal.returns
returns c = agreement_is_kept
