use Rattle.ada2012_tree.specs.Spans.{NoTrees}
use Rattle.ada2012_parser.proofs.Readings.{follow_some}
use Rattle.ada2012_parser.proofs.parser.Parser.membership_words.Goals as goal

pub returns : goal.returns
returns c = follow_some c.word-3.result (λ _. NoTrees) _ c.in_ok-word.ensures c.word-3.ensures
