use Rattle.expr_rules.proofs.Chains.{count_is}
use Rattle.expr_rules.proofs.names.count.Goals as goal

pub returns : goal.returns
returns c = count_is c.args.arguments.now
