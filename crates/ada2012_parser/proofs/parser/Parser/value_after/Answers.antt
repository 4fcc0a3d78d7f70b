use Rattle.ada2012_parser.proofs.Readings.{any, pass_some}
use Rattle.ada2012_parser.proofs.parser.Parser.value_after.Goals as goal

pub returns : goal.returns
returns c = any (pass_some c.in_ok-word.ensures (any c.in_ok-value.ensures))
