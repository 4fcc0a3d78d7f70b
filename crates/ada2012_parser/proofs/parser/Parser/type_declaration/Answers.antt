use Rattle.std.proofs.Common.{refl}
use Rattle.ada2012_parser.proofs.Readings.{any, any_some, ended_some, node, one, pass_some, some_any}
use Rattle.ada2012_parser.proofs.parser.Parser.type_declaration.Goals as goal

pub returns : goal.returns
returns c =
    node c.here-start.ensures c.since.ensures.start c.since.ensures.end_ refl (pass_some c.in_ok-word.ensures (any (one c.in_ok-name.ensures (any (any_some
    c.in_ok-discriminants.ensures (pass_some c.in_ok-word-2.ensures (any (some_any c.in_ok-definition.ensures (any (ended_some c.in_ok-aspects.ensures
    c.in_ok-mark.ensures))))))))))
