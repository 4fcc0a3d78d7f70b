use Rattle.std.proofs.Common.{length}
use Rattle.ada2012_tree.specs.Spans.{NoTrees}
use Rattle.ada2012_parser.specs.Reading.{Reads, here}
use Rattle.ada2012_parser.proofs.parser.Parser.end_name.Given as goal

abbrev pub invariant-loop-self : goal.invariant-loop-self
invariant-loop-self l = Reads (here l.fn.self) l.fn.self l.self NoTrees

abbrev pub decreases-loop-self : goal.decreases-loop-self
decreases-loop-self l = length l.self.rest.now
