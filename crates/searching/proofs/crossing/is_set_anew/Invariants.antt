use Rattle.std.proofs.Common.{◌-◌, ◌≤◌, length}
use Rattle.searching.proofs.crossing.is_set_anew.Given as goal

abbrev pub invariant-loop-at : goal.invariant-loop-at
invariant-loop-at l = l.front ≤ l.at

abbrev pub decreases-loop-at : goal.decreases-loop-at
decreases-loop-at l = length l.slots - l.at
