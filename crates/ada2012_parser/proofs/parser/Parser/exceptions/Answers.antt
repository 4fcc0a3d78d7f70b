use Rattle.std.proofs.Common.{refl}
use Rattle.ada2012_parser.proofs.Readings.{add_some_ended, any, node, pass_some}
use Rattle.ada2012_parser.proofs.parser.Parser.exceptions.Goals as goal

pub returns : goal.returns
returns c = node refl c.since.ensures.start c.since.ensures.end_ refl (add_some_ended c.requires (pass_some c.in_ok-word.ensures (any c.in_ok-mark.ensures)))
