use Rattle.std.proofs.Common.{refl}
use Rattle.ada2012_parser.proofs.Readings.{add_some, any, any_some, ended_some, node, one}
use Rattle.ada2012_parser.proofs.parser.Parser.object.Goals as goal

pub returns : goal.returns
returns c =
    node refl c.since.ensures.start c.since.ensures.end_ refl (add_some c.requires (one c.in_ok-subtype.ensures (any (any_some c.in_ok-value.ensures
    (ended_some c.in_ok-aspects.ensures c.in_ok-mark.ensures)))))
