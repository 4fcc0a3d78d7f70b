use Rattle.unit_rules.proofs.Parts.{some_handlers}
use Rattle.unit_rules.proofs.bodies.has_no_handlers.Goals as goal

pub returns-in-len1-up : goal.returns-in-len1-up
returns-in-len1-up c = some_handlers c.args.handlers.now c.in-len1-up.len_at_least
