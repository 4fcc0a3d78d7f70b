use Rattle.std.proofs.Common.{length, ◌-◌}
use Rattle.printing.proofs.Going.{Moves}
use Rattle.printing.proofs.formatting.format.Given as goal

abbrev pub invariant-loop-at : goal.invariant-loop-at
invariant-loop-at l = Moves l.text l.tokens l.start l.at l.left l.progress l.out.items

abbrev pub decreases-loop-at : goal.decreases-loop-at
decreases-loop-at l = length l.text - l.at
