use Rattle.std.proofs.Common.{map}
use Rattle.ada2012_tree.specs.Spans.{trees_of}
use Rattle.ada2012_tree.specs.DeclarationSpans.{item_spans}
use Rattle.ada2012_parser.proofs.Readings.{follow_any, none}
use Rattle.ada2012_parser.proofs.parser.Parser.protected_private.Goals as goal

pub returns : goal.returns
returns c = follow_any c.protected_items.result (λ all. trees_of (map item_spans all.items)) _ c.in_ok-word.ensures c.protected_items.ensures

pub returns-then-not-at_word : goal.returns-then-not-at_word
returns-then-not-at_word c = none item_spans c.new.ensures.items
