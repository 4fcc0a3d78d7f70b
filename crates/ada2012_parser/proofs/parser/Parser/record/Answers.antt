use Rattle.ada2012_parser.proofs.Readings.{any, ended_some, pass_some}
use Rattle.ada2012_parser.proofs.parser.Parser.record.Goals as goal

pub returns : goal.returns
returns c = pass_some c.in_ok-word.ensures (any (ended_some c.in_ok-components.ensures (pass_some c.in_ok-word-2.ensures (any c.in_ok-word-3.ensures))))
