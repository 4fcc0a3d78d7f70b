use Rattle.std.proofs.Common.{map}
use Rattle.ada2012_tree.specs.Spans.{trees_of}
use Rattle.ada2012_tree.specs.SubtypeSpans.{aspect_spans}
use Rattle.ada2012_parser.proofs.Readings.{follow_some_any, none}
use Rattle.ada2012_parser.proofs.parser.Parser.aspects.Goals as goal

pub returns : goal.returns
returns c = follow_some_any c.aspect_list.result (λ all. trees_of (map aspect_spans all.items)) _ c.in_ok-word.ensures c.aspect_list.ensures

pub returns-then-not-at_word : goal.returns-then-not-at_word
returns-then-not-at_word c = none aspect_spans c.new.ensures.items
