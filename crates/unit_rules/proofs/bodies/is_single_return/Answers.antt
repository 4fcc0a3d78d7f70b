use Rattle.unit_rules.proofs.Parts.{several_statements}
use Rattle.unit_rules.proofs.bodies.is_single_return.Goals as goal

pub returns-in-len2-up : goal.returns-in-len2-up
returns-in-len2-up c = several_statements c.args.statements.now c.in-len2-up.len_at_least
