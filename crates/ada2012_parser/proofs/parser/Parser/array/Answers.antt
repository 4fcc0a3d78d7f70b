use Rattle.std.proofs.Common.{refl}
use Rattle.ada2012_parser.proofs.Readings.{any, node, pass_some, some_any}
use Rattle.ada2012_parser.proofs.parser.Parser.array.Goals as goal

pub returns : goal.returns
returns c =
    node c.here-start.ensures c.since.ensures.start c.since.ensures.end_ refl (pass_some c.in_ok-word.ensures (any (pass_some c.in_ok-mark.ensures (any
    (some_any c.in_ok-indexes.ensures (any (pass_some c.in_ok-mark-2.ensures (any (pass_some c.in_ok-word-2.ensures (any c.in_ok-component.ensures))))))))))
