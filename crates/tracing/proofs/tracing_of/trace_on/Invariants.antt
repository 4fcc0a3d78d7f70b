use Rattle.std.proofs.Common.{◌≤◌, ◌+◌, ◌-◌, ◌*◌, ◌≡◌, length}
use Rattle.tracing.specs.declared.calls.TheConstants.{ACTORS}
use Rattle.tracing.proofs.Traced.{Traced}
use Rattle.tracing.proofs.tracing_of.trace_on.Given as goal

abbrev pub invariant-loop-step : goal.invariant-loop-step
invariant-loop-step g l =
    Traced l.fn.image l.fn.objects (g.O.Origins.known l.fn.origins) l.fn.schedule l.step l.before l.after l.calls (g.S.Sink.bytes l.fn.sink) (g.S.Sink.bytes l.sink) (g.S.Sink.failures l.fn.sink) (g.S.Sink.failures l.sink)
    × (l.step ≤ l.fn.limit)
    × (l.steps ≤ l.fn.steps + 2 * l.step)
    × (length l.calls ≡ ACTORS)

abbrev pub decreases-loop-step : goal.decreases-loop-step
decreases-loop-step g l = l.fn.limit - l.step
