use Rattle.std.proofs.Common.{refl}
use Rattle.ada2012_parser.proofs.Readings.{any, any_some, node, pass_some, some_ended}
use Rattle.ada2012_parser.proofs.parser.Parser.delay.Goals as goal

pub returns-then-until : goal.returns-then-until
returns-then-until c =
    node c.here-start.ensures c.since.ensures.start c.since.ensures.end_ refl (pass_some c.in_ok-word.ensures (any (any_some c.in_ok-until.ensures
    (some_ended c.in_ok-time.ensures (any c.in_ok-mark.ensures)))))

pub returns : goal.returns
returns c =
    node c.here-start.ensures c.since-2.ensures.start c.since-2.ensures.end_ refl (pass_some c.in_ok-word.ensures (any (any_some c.in_ok-until.ensures
    (some_ended c.in_ok-time.ensures (any c.in_ok-mark.ensures)))))
