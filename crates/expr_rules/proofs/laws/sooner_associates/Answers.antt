use Rattle.expr_rules.proofs.Least.{sooner_assoc}
use Rattle.expr_rules.proofs.laws.sooner_associates.Goals as goal

pub returns : goal.returns
returns c = sooner_assoc
