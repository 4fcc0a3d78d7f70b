use Rattle.ada2012_parser.proofs.Readings.{any, pass_some, some_ended}
use Rattle.ada2012_parser.proofs.parser.Parser.enumeration.Goals as goal

pub returns : goal.returns
returns c = pass_some c.in_ok-mark.ensures (any (some_ended c.in_ok-literals.ensures (any c.in_ok-mark-2.ensures)))
