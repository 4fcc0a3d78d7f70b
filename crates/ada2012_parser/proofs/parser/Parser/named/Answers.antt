use Rattle.std.proofs.Common.{refl}
use Rattle.ada2012_parser.proofs.Readings.{any, node, one, pass_some, some_ended}
use Rattle.ada2012_parser.proofs.parser.Parser.named.Goals as goal

pub returns-then-not-at_mark : goal.returns-then-not-at_mark
returns-then-not-at_mark c =
    node c.here-start.ensures c.since.ensures.start c.since.ensures.end_ refl (some_ended c.in_ok-name.ensures (any c.in_ok-mark.ensures))

pub returns : goal.returns
returns c =
    node c.here-start.ensures c.since-2.ensures.start c.since-2.ensures.end_ refl (one c.in_ok-name.ensures (any (pass_some c.in_ok-mark-2.ensures (any
    (some_ended c.in_ok-value.ensures (any c.in_ok-mark-3.ensures))))))
