use Rattle.parser.proofs.programs.Whole.{is_longest}
use Rattle.parser.proofs.parsing.longest_beginning.Goals as goal

pub returns-in-Some : goal.returns-in-Some
returns-in-Some c = is_longest c.limit_is_depth.ensures c.args.tokens.now c.whole-read.result c.in-Some.count c.whole-read.ensures c.in-Some.ensures
