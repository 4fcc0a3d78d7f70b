use Rattle.std.proofs.Common.{map}
use Rattle.ada2012_tree.specs.Spans.{trees_of}
use Rattle.ada2012_tree.specs.StatementSpans.{declaration_spans}
use Rattle.ada2012_parser.proofs.Readings.{follow_any, none}
use Rattle.ada2012_parser.proofs.parser.Parser.private_part.Goals as goal

pub returns : goal.returns
returns c = follow_any c.declarations.result (λ all. trees_of (map declaration_spans all.items)) _ c.in_ok-word.ensures c.declarations.ensures

pub returns-then-not-at_word : goal.returns-then-not-at_word
returns-then-not-at_word c = none declaration_spans c.new.ensures.items
