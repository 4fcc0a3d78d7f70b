use Rattle.std.proofs.Common.{refl}
use Rattle.ada2012_parser.proofs.Readings.{any, both, node, one, pass_some}
use Rattle.ada2012_parser.proofs.parser.Parser.specification.Goals as goal

pub returns : goal.returns
returns c =
    node c.here-start.ensures c.since.ensures.start c.since.ensures.end_ refl (pass_some c.in_ok-function.ensures (any (one c.in_ok-name.ensures (both
    c.in_ok-formals.ensures c.in_ok-result.ensures))))
