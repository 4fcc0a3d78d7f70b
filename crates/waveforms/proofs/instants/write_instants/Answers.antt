use Rattle.std.proofs.Common.{◌∙◌}
use Rattle.machine.proofs.Runs.{whole_beginning}
use Rattle.waveforms.proofs.Timed.{all_instants, ended_begun, last_begun}
use Rattle.waveforms.proofs.instants.write_instants.Goals as goal

pub returns-in-Ok-clause-text : goal.returns-in-Ok-clause-text
returns-in-Ok-clause-text g c =
    let all = c.in_ok-outcome.ensures in
    all_instants c.args.scopes.now c.args.machine.now.image c.args.machine.now.schedule c.args.rows.now.lines.labels c.args.limit c.write_all_ended.new.machine c.write_all_ended.new.rows
    all.stands (all.schedule ∙ c.requires.schedule) all.current all.dumped
    (g.S.Sink.bytes c.args.sink.now) (g.S.Sink.bytes c.write_all_ended.new.sink) (g.S.Sink.bytes c.write_all.new.sink) all.text _ (c.text.ensures ∙ c.instant.ensures.text) c.in-Ok.ensures.whole

pub returns-in-Ok-clause-beginning : goal.returns-in-Ok-clause-beginning
returns-in-Ok-clause-beginning g c = whole_beginning _ _ _ (returns-in-Ok-clause-text g c)

pub returns-in-Err-clause-beginning : goal.returns-in-Err-clause-beginning
returns-in-Err-clause-beginning g c =
    let all = c.in_ok-outcome.ensures in
    last_begun c.args.scopes.now c.args.machine.now.image c.args.machine.now.schedule c.args.rows.now.lines.labels c.args.limit c.write_all_ended.new.machine c.write_all_ended.new.rows
    all.stands (all.schedule ∙ c.requires.schedule) all.current all.dumped
    (g.S.Sink.bytes c.args.sink.now) (g.S.Sink.bytes c.write_all_ended.new.sink) (g.S.Sink.bytes c.write_all.new.sink) all.text _ (c.text.ensures ∙ c.instant.ensures.text) c.in-Err.ensures.beginning

pub returns-in_err-outcome-clause-beginning : goal.returns-in_err-outcome-clause-beginning
returns-in_err-outcome-clause-beginning g c =
    ended_begun c.args.scopes.now c.args.machine.now.image c.args.machine.now.schedule c.args.rows.now.lines.labels c.args.limit (g.S.Sink.bytes c.args.sink.now)
    (g.S.Sink.bytes c.write_all_ended.new.sink) c.in_err-outcome.ensures.beginning
