use Rattle.expr_soundness.proofs.Worth.{checks_are_spared}
use Rattle.expr_soundness.proofs.laws.checks_are_spared.Goals as goal

pub returns : goal.returns
returns c = checks_are_spared c.static_is_value.ensures
