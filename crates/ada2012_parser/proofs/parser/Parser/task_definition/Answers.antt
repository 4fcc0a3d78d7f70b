use Rattle.ada2012_tree.specs.SubtypeSpans.{pragma_spans}
use Rattle.ada2012_parser.proofs.Readings.{any, ended_some, none, pass_some}
use Rattle.ada2012_parser.proofs.parser.Parser.task_definition.Goals as goal

pub returns : goal.returns
returns c = any (pass_some c.in_ok-word.ensures (any (ended_some c.in_ok-all.ensures (pass_some c.in_ok-word-2.ensures c.in_ok-end_name.ensures))))

pub returns-then-not-at_word : goal.returns-then-not-at_word
returns-then-not-at_word c = none pragma_spans c.new.ensures.items
