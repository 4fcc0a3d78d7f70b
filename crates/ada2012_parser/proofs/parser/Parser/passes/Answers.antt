use Rattle.ada2012_parser.proofs.Readings.{any}
use Rattle.ada2012_parser.proofs.parser.Parser.passes.Goals as goal

pub returns : goal.returns
returns c = any c.in_ok-word.ensures
