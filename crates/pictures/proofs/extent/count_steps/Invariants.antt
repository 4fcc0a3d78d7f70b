use Rattle.std.proofs.Common.{◌≤◌, ◌+◌, ◌-◌}
use Rattle.pictures.proofs.Extents.{Counted}
use Rattle.pictures.proofs.extent.count_steps.Given as goal

abbrev pub invariant-loop-taken : goal.invariant-loop-taken
invariant-loop-taken g l =
    Counted l.fn.machine.image l.fn.machine.schedule l.taken l.machine
    × (l.taken ≤ l.fn.limit)
    × (l.steps ≤ l.fn.steps + l.taken)

abbrev pub decreases-loop-taken : goal.decreases-loop-taken
decreases-loop-taken g l = l.fn.limit - l.taken
