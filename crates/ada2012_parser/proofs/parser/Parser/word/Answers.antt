use Rattle.ada2012_parser.proofs.Readings.{tokens}
use Rattle.ada2012_parser.proofs.parser.Parser.word.Goals as goal

pub returns : goal.returns
returns c = tokens c.in_ok-word_span.ensures
