use Rattle.expr_rules.proofs.Least.{least_is_least}
use Rattle.expr_rules.proofs.laws.least_is_least.Goals as goal

pub returns : goal.returns
returns c = least_is_least
