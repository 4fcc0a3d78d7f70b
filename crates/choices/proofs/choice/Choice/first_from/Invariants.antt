use Rattle.std.proofs.Common.{◌≤◌, length}
use Rattle.choices.proofs.choice.Choice.first_from.Given as goal

abbrev pub invariant-loop-at : goal.invariant-loop-at
invariant-loop-at l = l.at ≤ length l.self

abbrev pub decreases-loop-at : goal.decreases-loop-at
decreases-loop-at l = l.at
