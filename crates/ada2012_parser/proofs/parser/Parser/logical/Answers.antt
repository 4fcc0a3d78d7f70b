use Rattle.ada2012_tree.specs.Spans.{NoTrees}
use Rattle.ada2012_parser.proofs.Readings.{follow}
use Rattle.ada2012_parser.proofs.parser.Parser.logical.Goals as goal

pub returns-then-at_word : goal.returns-then-at_word
returns-then-at_word c = follow c.with_more.result (λ _. NoTrees) _ c.in_ok-word.ensures c.with_more.ensures

pub returns-then-at_word-2 : goal.returns-then-at_word-2
returns-then-at_word-2 c = follow c.with_more-then-at_word-2.result (λ _. NoTrees) _ c.in_ok-word-2.ensures c.with_more-then-at_word-2.ensures
