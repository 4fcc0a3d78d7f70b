use Rattle.std.proofs.Common.{◌≡◌, ◌≤◌, ◌+◌, ◌-◌}
use Rattle.waveforms.proofs.Dumped.{Dumped}
use Rattle.waveforms.proofs.waves_of.write_steps.Given as goal

abbrev pub invariant-loop-taken : goal.invariant-loop-taken
invariant-loop-taken g l =
    Dumped l.fn.scopes l.fn.machine.image l.fn.machine.schedule l.fn.rows.lines.labels l.taken l.machine l.rows (g.S.Sink.bytes l.fn.sink) (g.S.Sink.bytes l.sink) (g.S.Sink.failures l.fn.sink) (g.S.Sink.failures l.sink)
    × (l.taken ≤ l.fn.limit)
    × (l.steps ≤ l.fn.steps + l.taken)
    × (l.rows.room ≡ l.fn.rows.room)

abbrev pub decreases-loop-taken : goal.decreases-loop-taken
decreases-loop-taken g l = l.fn.limit - l.taken
