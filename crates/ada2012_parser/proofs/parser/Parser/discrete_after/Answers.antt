use Rattle.std.proofs.Common.{refl}
use Rattle.ada2012_parser.proofs.Readings.{add_one, any, node, pass_some}
use Rattle.ada2012_parser.proofs.parser.Parser.discrete_after.Goals as goal

pub returns-then-at_word : goal.returns-then-at_word
returns-then-at_word c =
    any (node refl c.since.ensures.start c.since.ensures.end_ refl (add_one c.requires (pass_some c.in_ok-word.ensures (any c.in_ok-range.ensures))))

pub returns : goal.returns
returns c =
    any (node refl c.since-2.ensures.start c.since-2.ensures.end_ refl (add_one c.requires (pass_some c.in_ok-mark.ensures (any c.in_ok-last.ensures))))
