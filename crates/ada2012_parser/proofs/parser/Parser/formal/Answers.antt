use Rattle.std.proofs.Common.{refl}
use Rattle.ada2012_parser.proofs.Readings.{any, node, one, pass_any_some, pass_some, some_any}
use Rattle.ada2012_parser.proofs.parser.Parser.formal.Goals as goal

pub returns : goal.returns
returns c =
    node c.here-start.ensures c.since.ensures.start c.since.ensures.end_ refl (some_any c.in_ok-names.ensures (any (pass_some c.in_ok-mark.ensures (any
    (pass_any_some c.in_ok-mode.ensures (one c.in_ok-subtype.ensures c.in_ok-default.ensures))))))
