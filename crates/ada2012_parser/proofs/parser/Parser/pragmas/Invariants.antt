use Rattle.std.proofs.Common.{length, map}
use Rattle.ada2012_tree.specs.Spans.{trees_of}
use Rattle.ada2012_tree.specs.SubtypeSpans.{pragma_spans}
use Rattle.ada2012_parser.specs.Reading.{Reads, here}
use Rattle.ada2012_parser.proofs.parser.Parser.pragmas.Given as goal

abbrev pub invariant-loop-self : goal.invariant-loop-self
invariant-loop-self l = Reads (here l.fn.self) l.fn.self l.self (trees_of (map pragma_spans l.all.items))

abbrev pub decreases-loop-self : goal.decreases-loop-self
decreases-loop-self l = length l.self.rest.now
