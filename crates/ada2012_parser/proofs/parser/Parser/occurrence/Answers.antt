use Rattle.ada2012_parser.proofs.Readings.{any, some_ended}
use Rattle.ada2012_parser.proofs.parser.Parser.occurrence.Goals as goal

pub returns : goal.returns
returns c = any (some_ended c.in_ok-name.ensures (any c.in_ok-mark.ensures))
