use Rattle.std.proofs.Common.{refl}
use Rattle.ada2012_parser.proofs.Readings.{any, node, one, pass_some}
use Rattle.ada2012_parser.proofs.parser.Parser.bounds.Goals as goal

pub returns : goal.returns
returns c =
    node c.here-start.ensures c.since.ensures.start c.since.ensures.end_ refl (one c.in_ok-first.ensures (any (pass_some c.in_ok-mark.ensures (any
    c.in_ok-last.ensures))))
