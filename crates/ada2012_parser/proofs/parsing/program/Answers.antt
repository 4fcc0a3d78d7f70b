use Rattle.std.proofs.Common.{arith, map}
use Rattle.ada2012_tree.specs.Spans.{trees_of}
use Rattle.ada2012_tree.specs.ProgramSpans.{unit_spans}
use Rattle.ada2012_parser.proofs.Wholes.{whole_nested}
use Rattle.ada2012_parser.proofs.parsing.program.Goals as goal

pub returns-clause-nested : goal.returns-clause-nested
returns-clause-nested c =
    whole_nested (trees_of (map unit_spans c.in_ok-units.units.items)) _ _ _ c.in_ok-units.ensures.reads c.in_ok-units.ensures.all c.here-start.ensures
    (omega arith)
