use Rattle.part_code.proofs.WrittenLines.{many_arguments, one_argument}
use Rattle.part_code.proofs.line.line_in.Goals as goal

pub returns-in-len1 : goal.returns-in-len1
returns-in-len1 c = one_argument c.args.arguments.now c.in-len1.len_at_least c.in-len1.len_below

pub returns-in-len3-up : goal.returns-in-len3-up
returns-in-len3-up c = many_arguments c.args.arguments.now c.in-len3-up.len_at_least
