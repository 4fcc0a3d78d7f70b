use Rattle.std.proofs.Common.{arith}
use Rattle.ada2012_tree.specs.ProgramSpans.{clause_spans}
use Rattle.ada2012_parser.proofs.Readings.{next, none}
use Rattle.ada2012_parser.proofs.parser.Parser.clauses.Goals as goal

pub loop-self-init : goal.loop-self-init
loop-self-init c = none clause_spans c.new-all.ensures.items

pub loop-self-smaller : goal.loop-self-smaller
loop-self-smaller c = omega (arith, c.in_ok-next.ensures.shrinks)

pub loop-self-preserved : goal.loop-self-preserved
loop-self-preserved c = next clause_spans _ c.in_ok-push.ensures.items c.loop-self.invariant c.in_ok-next.ensures
