use Rattle.std.proofs.Common.{refl}
use Rattle.ada2012_parser.proofs.Readings.{node, one}
use Rattle.ada2012_parser.proofs.parser.Parser.aspect.Goals as goal

pub returns : goal.returns
returns c = node c.here-start.ensures c.since.ensures.start c.since.ensures.end_ refl (one c.in_ok-name.ensures c.in_ok-value.ensures)
