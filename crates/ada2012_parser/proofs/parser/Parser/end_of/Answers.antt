use Rattle.ada2012_tree.specs.Spans.{NoTrees}
use Rattle.ada2012_parser.proofs.Readings.{any, follow_some, pass_some}
use Rattle.ada2012_parser.proofs.parser.Parser.end_of.Goals as goal

pub returns : goal.returns
returns c = follow_some c.mark.result (λ _. NoTrees) _ (pass_some c.in_ok-word.ensures (any c.in_ok-word-2.ensures)) c.mark.ensures
