use Rattle.ada2012_parser.proofs.Readings.{both}
use Rattle.ada2012_parser.proofs.parser.Parser.mode.Goals as goal

pub returns : goal.returns
returns c = both c.in_ok-reads.ensures c.in_ok-writes.ensures
