use Rattle.std.proofs.Common.{drop}
use Rattle.tracing.specs.Traces.{came, lines_come, row_names, rows_text}
use Rattle.tracing.proofs.Parts.{Parts}
use Rattle.tracing.proofs.tracing_of.write_inputs.Given as goal

-- what is left are the rows of the lines that are left
abbrev pub invariant-loop-line : goal.invariant-loop-line
invariant-loop-line g l =
    Parts (g.S.Sink.bytes l.fn.sink) (g.S.Sink.bytes l.sink) (g.S.Sink.failures l.fn.sink) (g.S.Sink.failures l.sink)
    (rows_text (row_names l.fn.image l.fn.objects (g.O.Origins.known l.fn.origins)) (came l.fn.step (lines_come l.fn.since l.fn.now l.fn.lines)))
    (rows_text (row_names l.fn.image l.fn.objects (g.O.Origins.known l.fn.origins)) (came l.fn.step (lines_come l.fn.since l.fn.now (drop l.line-index l.fn.lines))))
