use Rattle.std.proofs.Common.{refl}
use Rattle.ada2012_parser.proofs.Readings.{add_one, any, ended_some, node, one}
use Rattle.ada2012_parser.proofs.parser.Parser.expression_function.Goals as goal

pub returns : goal.returns
returns c =
    node refl c.since.ensures.start c.since.ensures.end_ refl (add_one c.requires (one c.in_ok-value.ensures (any (ended_some c.in_ok-aspects.ensures
    c.in_ok-mark.ensures))))
