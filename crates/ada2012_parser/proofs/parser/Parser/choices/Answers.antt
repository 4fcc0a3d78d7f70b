use Rattle.std.proofs.Common.{map}
use Rattle.ada2012_tree.specs.Spans.{trees_of}
use Rattle.ada2012_tree.specs.ExpressionSpans.{choice_spans}
use Rattle.ada2012_parser.proofs.Readings.{goes_on, since}
use Rattle.ada2012_parser.proofs.parser.Parser.choices.Goals as goal

pub more_choices-requires : goal.more_choices-requires
more_choices-requires c = since c.here-start.ensures c.in_ok-first.ensures

pub returns : goal.returns
returns c = goes_on c.more_choices.result (λ all. trees_of (map choice_spans all.items)) _ c.here-start.ensures c.in_ok-first.ensures c.more_choices.ensures
