use Rattle.std.proofs.Common.{refl}
use Rattle.ada2012_parser.proofs.Readings.{add_some, any, node, pass_some, some_ended}
use Rattle.ada2012_parser.proofs.parser.Parser.number.Goals as goal

pub returns : goal.returns
returns c =
    node refl c.since.ensures.start c.since.ensures.end_ refl (add_some c.requires (pass_some c.in_ok-mark.ensures (any (some_ended c.in_ok-value.ensures
    (any c.in_ok-mark-2.ensures)))))
