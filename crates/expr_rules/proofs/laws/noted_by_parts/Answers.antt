use Rattle.expr_rules.specs.Walks.{noted_append}
use Rattle.expr_rules.proofs.laws.noted_by_parts.Goals as goal

pub returns : goal.returns
returns c = noted_append
