use Rattle.expr_rules.proofs.Least.{least_append}
use Rattle.expr_rules.proofs.laws.least_by_parts.Goals as goal

pub returns : goal.returns
returns c = least_append
