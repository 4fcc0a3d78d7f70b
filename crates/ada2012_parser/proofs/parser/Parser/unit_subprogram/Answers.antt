use Rattle.std.proofs.Common.{refl}
use Rattle.ada2012_parser.proofs.Readings.{any, any_some, node, one, pass_any_some, pass_some, some_ended}
use Rattle.ada2012_parser.proofs.parser.Parser.unit_subprogram.Goals as goal

pub returns : goal.returns
returns c =
    node c.here-start.ensures c.since.ensures.start c.since.ensures.end_ refl (one c.in_ok-specification.ensures (any (any_some c.in_ok-aspects.ensures
    (pass_some c.in_ok-word.ensures (any (some_ended c.in_ok-body.ensures (any (pass_any_some c.in_ok-end_name.ensures c.in_ok-mark.ensures))))))))
