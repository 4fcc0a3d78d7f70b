use Rattle.ada2012_tree.specs.SubtypeSpans.{component_spans}
use Rattle.ada2012_parser.proofs.Readings.{any, pass_some, with_none}
use Rattle.ada2012_parser.proofs.parser.Parser.null_record.Goals as goal

pub returns : goal.returns
returns c = with_none component_spans c.new.ensures.items (pass_some c.in_ok-word.ensures (any c.in_ok-word-2.ensures))
