use Rattle.std.proofs.Common.{arith}
use Rattle.ada2012_parser.proofs.Readings.{any, both, pass_some, tokens}
use Rattle.ada2012_parser.proofs.parser.Parser.end_name.Goals as goal

pub loop-self-init : goal.loop-self-init
loop-self-init c = any (tokens c.in_ok-identifier.ensures)

pub loop-self-smaller : goal.loop-self-smaller
loop-self-smaller c = omega (arith, c.in_ok-mark.ensures.shrinks, c.in_ok-identifier-2.ensures.shrinks)

pub loop-self-preserved : goal.loop-self-preserved
loop-self-preserved c = both c.loop-self.invariant (any (pass_some c.in_ok-mark.ensures (any (tokens c.in_ok-identifier-2.ensures))))
