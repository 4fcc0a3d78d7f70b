use Rattle.std.proofs.Common.{◌≤◌, ◌+◌, ◌-◌}
use Rattle.machine.proofs.Bounding.{HasCome}
use Rattle.machine.proofs.running.Machine.bound_by_time.Given as goal

abbrev pub invariant-loop-taken : goal.invariant-loop-taken
invariant-loop-taken g l =
    HasCome l.fn.self.image l.fn.self.schedule l.fn.until l.taken l.self × (l.taken ≤ l.fn.limit) × (l.steps ≤ l.fn.steps + l.taken)

abbrev pub decreases-loop-taken : goal.decreases-loop-taken
decreases-loop-taken g l = l.fn.limit - l.taken
