use Rattle.std.proofs.Common.{refl}
use Rattle.ada2012_parser.proofs.Readings.{any, ended_some, node, one}
use Rattle.ada2012_parser.proofs.parser.Parser.operation.Goals as goal

pub returns : goal.returns
returns c =
    node c.here-start.ensures c.since.ensures.start c.since.ensures.end_ refl (one c.in_ok-specification.ensures (any (ended_some c.in_ok-aspects.ensures
    c.in_ok-mark.ensures)))
