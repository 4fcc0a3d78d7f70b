use Rattle.mismatches.proofs.Calls.{several_selectors}
use Rattle.mismatches.proofs.statics.single_argument.Goals as goal

pub returns-in-len2-up : goal.returns-in-len2-up
returns-in-len2-up c = several_selectors c.args.selectors.now c.in-len2-up.len_at_least
