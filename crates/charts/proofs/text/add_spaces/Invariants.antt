use Rattle.std.proofs.Common.{◌≡◌, ◌++◌, ◌-◌, ◌≤◌}
use Rattle.measuring.specs.Text.{spaces}
use Rattle.charts.proofs.text.add_spaces.Given as goal

abbrev pub invariant-loop-added : goal.invariant-loop-added
invariant-loop-added l = (l.text.items ≡ l.fn.text.items ++ spaces l.added) × (l.added ≤ l.fn.count)

abbrev pub decreases-loop-added : goal.decreases-loop-added
decreases-loop-added l = l.fn.count - l.added
