use Rattle.std.proofs.Common.{◌∙◌}
use Rattle.machine.proofs.Runs.{part_of_lines, part_of_text, whole_beginning, whole_text}
use Rattle.machine.specs.Bounds.{bounded_text}
use Rattle.machine.proofs.running.run_bounded.Goals as goal

pub returns-in_err-outcome-clause-beginning : goal.returns-in_err-outcome-clause-beginning
returns-in_err-outcome-clause-beginning g c =
    part_of_lines c.in_ok-machine.machine.image c.args.image.now c.in_ok-machine.machine.schedule c.args.schedule.now c.args.bound (g.S.Sink.bytes c.args.sink.now) (g.S.Sink.bytes c.run_on.new.sink) (g.S.Sink.bytes c.run_on.new.sink) c.in_ok-machine.ensures.image c.in_ok-machine.ensures.schedule c.in_err-outcome.ensures.beginning

pub returns-in-Ok-clause-text : goal.returns-in-Ok-clause-text
returns-in-Ok-clause-text g c =
    whole_text c.in_ok-machine.machine.image c.args.image.now c.in_ok-machine.machine.schedule c.args.schedule.now c.args.bound (g.S.Sink.bytes c.args.sink.now) (g.S.Sink.bytes c.run_on.new.sink) (g.S.Sink.bytes c.write_all.new.sink) c.in_ok-machine.ensures.image c.in_ok-machine.ensures.schedule c.in_ok-outcome.outcome c.as_slice.result.now c.in_ok-outcome.ensures.ends (c.as_slice.ensures.value ∙ c.cut_line-text.ensures) c.in_ok-outcome.ensures.lines
    c.in-Ok.ensures.whole

pub returns-in-Ok-clause-beginning : goal.returns-in-Ok-clause-beginning
returns-in-Ok-clause-beginning g c = whole_beginning (g.S.Sink.bytes c.args.sink.now) (g.S.Sink.bytes c.write_all.new.sink) (bounded_text c.args.image.now c.args.schedule.now c.args.bound) (returns-in-Ok-clause-text g c)

pub returns-clause-beginning : goal.returns-clause-beginning
returns-clause-beginning g c =
    part_of_text c.in_ok-machine.machine.image c.args.image.now c.in_ok-machine.machine.schedule c.args.schedule.now c.args.bound (g.S.Sink.bytes c.args.sink.now) (g.S.Sink.bytes c.run_on.new.sink) (g.S.Sink.bytes c.write_all.new.sink) c.in_ok-machine.ensures.image c.in_ok-machine.ensures.schedule c.in_ok-outcome.outcome c.as_slice.result.now c.in_ok-outcome.ensures.ends (c.as_slice.ensures.value ∙ c.cut_line-text.ensures) c.in_ok-outcome.ensures.lines
    c.write_all.ensures.beginning
