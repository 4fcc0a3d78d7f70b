use Rattle.std.proofs.Common.{refl}
use Rattle.ada2012_parser.proofs.Readings.{any, any_some, ended_some, node, pass_some}
use Rattle.ada2012_parser.proofs.parser.Parser.exit.Goals as goal

pub returns : goal.returns
returns c =
    node c.here-start.ensures c.since.ensures.start c.since.ensures.end_ refl (pass_some c.in_ok-word.ensures (any (any_some c.in_ok-name.ensures
    (ended_some c.in_ok-condition.ensures c.in_ok-mark.ensures))))
