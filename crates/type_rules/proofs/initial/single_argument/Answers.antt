use Rattle.type_rules.proofs.Calls.{several_selectors}
use Rattle.type_rules.proofs.initial.single_argument.Goals as goal

pub returns-in-len2-up : goal.returns-in-len2-up
returns-in-len2-up c = several_selectors c.args.selectors.now c.in-len2-up.len_at_least
