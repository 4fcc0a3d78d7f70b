use Rattle.std.proofs.Common.{◌∙◌, refl}
use Rattle.machine.proofs.Runs.{whole_beginning}
use Rattle.tracing.specs.Traces.{trace_text}
use Rattle.tracing.proofs.Traced.{part_of_rows, part_of_trace, whole_trace}
use Rattle.tracing.proofs.tracing_of.trace.Goals as goal

pub returns-in_err-outcome-clause-beginning : goal.returns-in_err-outcome-clause-beginning
returns-in_err-outcome-clause-beginning g c =
    part_of_rows c.args.image.now c.args.objects.now (g.O.Origins.known c.args.origins.now) c.args.schedule.now c.args.schedule.now c.args.bound refl (g.S.Sink.bytes c.args.sink.now) (g.S.Sink.bytes c.trace_on.new.sink) (g.S.Sink.bytes c.trace_on.new.sink) c.in_err-outcome.ensures.beginning

pub returns-in-Ok-write_all-clause-text : goal.returns-in-Ok-write_all-clause-text
returns-in-Ok-write_all-clause-text g c =
    whole_trace c.args.image.now c.args.objects.now (g.O.Origins.known c.args.origins.now) c.args.schedule.now c.args.schedule.now c.args.bound refl (g.S.Sink.bytes c.args.sink.now) (g.S.Sink.bytes c.trace_on.new.sink) (g.S.Sink.bytes c.write_all.new.sink) c.in_ok-outcome.outcome c.as_slice.result.now
    c.in_ok-outcome.ensures.ends (c.as_slice.ensures.value ∙ c.cut_line-text.ensures) c.in_ok-outcome.ensures.rows c.in-Ok-write_all.ensures.whole

pub returns-in-Ok-write_all-clause-beginning : goal.returns-in-Ok-write_all-clause-beginning
returns-in-Ok-write_all-clause-beginning g c = whole_beginning (g.S.Sink.bytes c.args.sink.now) (g.S.Sink.bytes c.write_all.new.sink) (trace_text c.args.image.now c.args.objects.now (g.O.Origins.known c.args.origins.now) c.args.schedule.now c.args.bound) (returns-in-Ok-write_all-clause-text g c)

pub returns-clause-beginning : goal.returns-clause-beginning
returns-clause-beginning g c =
    part_of_trace c.args.image.now c.args.objects.now (g.O.Origins.known c.args.origins.now) c.args.schedule.now c.args.schedule.now c.args.bound refl (g.S.Sink.bytes c.args.sink.now) (g.S.Sink.bytes c.trace_on.new.sink) (g.S.Sink.bytes c.write_all.new.sink) c.in_ok-outcome.outcome c.as_slice.result.now
    c.in_ok-outcome.ensures.ends (c.as_slice.ensures.value ∙ c.cut_line-text.ensures) c.in_ok-outcome.ensures.rows c.write_all.ensures.beginning
