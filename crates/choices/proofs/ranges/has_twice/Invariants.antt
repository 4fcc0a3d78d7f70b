use Rattle.std.proofs.Common.{◌≡◌, length}
use Rattle.choices.specs.Texts.{has_twice}
use Rattle.choices.proofs.ranges.has_twice.Given as goal

abbrev pub invariant-loop-rest : goal.invariant-loop-rest
invariant-loop-rest l = has_twice l.rest ≡ has_twice l.fn.ranges

abbrev pub decreases-loop-rest : goal.decreases-loop-rest
decreases-loop-rest l = length l.rest
