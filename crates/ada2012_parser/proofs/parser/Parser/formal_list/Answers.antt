use Rattle.std.proofs.Common.{arith}
use Rattle.ada2012_tree.specs.SubtypeSpans.{formal_spans}
use Rattle.ada2012_parser.proofs.Readings.{any, first, next_some, pass_some}
use Rattle.ada2012_parser.proofs.parser.Parser.formal_list.Goals as goal

pub loop-self-init : goal.loop-self-init
loop-self-init c = first formal_spans c.new-all.ensures.items c.in_ok-push.ensures.items c.in_ok-first.ensures

pub loop-self-smaller : goal.loop-self-smaller
loop-self-smaller c = omega (arith, c.in_ok-mark.ensures.shrinks, c.in_ok-next.ensures.shrinks)

pub loop-self-preserved : goal.loop-self-preserved
loop-self-preserved c =
    next_some formal_spans _ c.in_ok-push-2.ensures.items c.loop-self.invariant (pass_some c.in_ok-mark.ensures (any c.in_ok-next.ensures))
