use Rattle.std.proofs.Common.{refl}
use Rattle.ada2012_parser.proofs.Readings.{any, any_some, ended_some, node, one, pass_some, some_any}
use Rattle.ada2012_parser.proofs.parser.Parser.component_declaration.Goals as goal

pub returns : goal.returns
returns c =
    node c.here-start.ensures c.since.ensures.start c.since.ensures.end_ refl (some_any c.in_ok-names.ensures (any (pass_some c.in_ok-mark.ensures (any (one
    c.in_ok-subtype.ensures (any (any_some c.in_ok-value.ensures (ended_some c.in_ok-aspects.ensures c.in_ok-mark-2.ensures))))))))
