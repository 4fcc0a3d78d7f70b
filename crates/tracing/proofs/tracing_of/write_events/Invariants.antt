use Rattle.std.proofs.Common.{drop}
use Rattle.tracing.specs.Traces.{row_names, rows_text, shown}
use Rattle.tracing.proofs.Parts.{Parts}
use Rattle.tracing.proofs.tracing_of.write_events.Given as goal

-- what is left are the rows of the events that are left
abbrev pub invariant-loop-event : goal.invariant-loop-event
invariant-loop-event g l =
    Parts (g.S.Sink.bytes l.fn.sink) (g.S.Sink.bytes l.sink) (g.S.Sink.failures l.fn.sink) (g.S.Sink.failures l.sink)
    (rows_text (row_names l.fn.image l.fn.objects (g.O.Origins.known l.fn.origins)) (shown l.fn.time l.fn.step l.fn.events))
    (rows_text (row_names l.fn.image l.fn.objects (g.O.Origins.known l.fn.origins)) (shown l.fn.time l.fn.step (drop l.event-index l.fn.events)))
