use Rattle.std.proofs.Common.{refl}
use Rattle.ada2012_parser.proofs.Readings.{any_some, node}
use Rattle.ada2012_parser.proofs.parser.Parser.unit.Goals as goal

pub returns : goal.returns
returns c = node c.here-start.ensures c.since.ensures.start c.since.ensures.end_ refl (any_some c.in_ok-clauses.ensures c.in_ok-item.ensures)
