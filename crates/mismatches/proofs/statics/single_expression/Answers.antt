use Rattle.mismatches.proofs.Calls.{several_arguments}
use Rattle.mismatches.proofs.statics.single_expression.Goals as goal

pub returns-in-len2-up : goal.returns-in-len2-up
returns-in-len2-up c = several_arguments c.args.arguments.now c.in-len2-up.len_at_least
