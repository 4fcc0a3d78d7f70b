use Rattle.std.proofs.Common.{◌≡◌, ◌≤◌, ◌+◌, ◌-◌}
use Rattle.machine.proofs.Runs.{Ran}
use Rattle.machine.proofs.running.Machine.run_on.Given as goal

abbrev pub invariant-loop-left : goal.invariant-loop-left
invariant-loop-left g l =
    Ran l.fn.self.image l.fn.self.schedule (l.fn.limit - l.left) l.self (g.S.Sink.bytes l.fn.sink) (g.S.Sink.bytes l.sink) (g.S.Sink.failures l.fn.sink) (g.S.Sink.failures l.sink)
    × (l.left ≤ l.fn.limit)
    × (l.steps ≡ l.fn.steps + (l.fn.limit - l.left))

abbrev pub decreases-loop-left : goal.decreases-loop-left
decreases-loop-left g l = l.left
