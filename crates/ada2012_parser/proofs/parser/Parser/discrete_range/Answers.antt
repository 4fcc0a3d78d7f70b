use Rattle.ada2012_tree.specs.Spans.{only}
use Rattle.ada2012_tree.specs.SubtypeSpans.{discrete_spans}
use Rattle.ada2012_parser.proofs.Readings.{goes_on, since}
use Rattle.ada2012_parser.proofs.parser.Parser.discrete_range.Goals as goal

pub discrete_after-requires : goal.discrete_after-requires
discrete_after-requires c = since c.here-start.ensures c.in_ok-first.ensures

pub returns : goal.returns
returns c = goes_on c.discrete_after.result (λ range. only (discrete_spans range)) _ c.here-start.ensures c.in_ok-first.ensures c.discrete_after.ensures
