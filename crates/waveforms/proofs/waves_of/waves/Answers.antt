use Rattle.std.proofs.Common.{◌∙◌, subst}
use Rattle.std.specs.Io.KnownBytes.{Appends}
use Rattle.machine.specs.Written.{AppendsBeginning}
use Rattle.machine.proofs.Runs.{nothing_written, whole_beginning}
use Rattle.waveforms.specs.Waves.{waves_text}
use Rattle.waveforms.proofs.Noted.{current_held, new_noted, noted_written}
use Rattle.waveforms.proofs.Whole.{changes_are, changes_begun, end_begun, end_is, front_begun, front_is, labels_in, whole}
use Rattle.waveforms.proofs.waves_of.waves.Goals as goal

pub returns-in_err-start-clause-beginning : goal.returns-in_err-start-clause-beginning
returns-in_err-start-clause-beginning g c =
    nothing_written (g.S.Sink.bytes c.args.sink.now) (waves_text c.args.image.now c.args.scopes.now c.args.schedule.now c.args.bound)

pub returns-in_err-signals-clause-beginning : goal.returns-in_err-signals-clause-beginning
returns-in_err-signals-clause-beginning g c =
    nothing_written (g.S.Sink.bytes c.args.sink.now) (waves_text c.args.image.now c.args.scopes.now c.args.schedule.now c.args.bound)

pub returns-in_err-rows-clause-beginning : goal.returns-in_err-rows-clause-beginning
returns-in_err-rows-clause-beginning g c =
    nothing_written (g.S.Sink.bytes c.args.sink.now) (waves_text c.args.image.now c.args.scopes.now c.args.schedule.now c.args.bound)

pub returns-in-Err-clause-beginning : goal.returns-in-Err-clause-beginning
returns-in-Err-clause-beginning g c =
    let m = c.in_ok-machine.ensures in
    let noted = new_noted c.args.image.now c.args.schedule.now (labels_in c.args.image.now c.args.schedule.now c.args.bound) c.left_unmoved.ensures c.in_ok-rows.rows c.in_ok-lines.lines _ c.in_ok-rows.ensures c.in_ok-lines.ensures.lines in
    let is = front_is c.args.image.now c.args.scopes.now c.args.schedule.now c.args.bound c.in_ok-machine.machine m.image m.schedule m.stands c.in_ok-rows.rows noted _ (c.as_slice.ensures.value ∙ c.in_ok-start.ensures.text) in
    front_begun c.args.image.now c.args.scopes.now c.args.schedule.now c.args.bound (g.S.Sink.bytes c.args.sink.now) (g.S.Sink.bytes c.write_all.new.sink) (subst (AppendsBeginning (g.S.Sink.bytes c.args.sink.now) (g.S.Sink.bytes c.write_all.new.sink)) is c.in-Err.ensures.beginning)

pub returns-in_err-ending-clause-beginning : goal.returns-in_err-ending-clause-beginning
returns-in_err-ending-clause-beginning g c =
    let m = c.in_ok-machine.ensures in
    let noted = new_noted c.args.image.now c.args.schedule.now (labels_in c.args.image.now c.args.schedule.now c.args.bound) c.left_unmoved.ensures c.in_ok-rows.rows c.in_ok-lines.lines _ c.in_ok-rows.ensures c.in_ok-lines.ensures.lines in
    let is = front_is c.args.image.now c.args.scopes.now c.args.schedule.now c.args.bound c.in_ok-machine.machine m.image m.schedule m.stands c.in_ok-rows.rows noted _ (c.as_slice.ensures.value ∙ c.in_ok-start.ensures.text) in
    let rows = c.beginning.new.rows in
    let still = noted_written c.args.image.now c.args.schedule.now (labels_in c.args.image.now c.args.schedule.now c.args.bound) 0 c.in_ok-rows.rows noted rows c.in_ok-start.ensures.lines c.in_ok-start.ensures.schedule in
    let are = changes_are c.args.image.now c.args.scopes.now c.args.schedule.now c.args.bound c.in_ok-machine.machine m.image m.schedule rows.lines.labels still.labels_are in
    let wrote = subst (Appends (g.S.Sink.bytes c.args.sink.now) (g.S.Sink.bytes c.write_all.new.sink)) is c.in-Ok.ensures.whole in
    changes_begun c.args.image.now c.args.scopes.now c.args.schedule.now c.args.bound (g.S.Sink.bytes c.args.sink.now) (g.S.Sink.bytes c.write_all.new.sink) wrote (g.S.Sink.bytes c.write_steps.new.sink)
    (subst (AppendsBeginning (g.S.Sink.bytes c.write_all.new.sink) (g.S.Sink.bytes c.write_steps.new.sink)) are c.in_err-ending.ensures.beginning)

pub returns-in-Ok-write_all-clause-text : goal.returns-in-Ok-write_all-clause-text
returns-in-Ok-write_all-clause-text g c =
    let m = c.in_ok-machine.ensures in
    let noted = new_noted c.args.image.now c.args.schedule.now (labels_in c.args.image.now c.args.schedule.now c.args.bound) c.left_unmoved.ensures c.in_ok-rows.rows c.in_ok-lines.lines _ c.in_ok-rows.ensures c.in_ok-lines.ensures.lines in
    let is = front_is c.args.image.now c.args.scopes.now c.args.schedule.now c.args.bound c.in_ok-machine.machine m.image m.schedule m.stands c.in_ok-rows.rows noted _ (c.as_slice.ensures.value ∙ c.in_ok-start.ensures.text) in
    let rows = c.beginning.new.rows in
    let still = noted_written c.args.image.now c.args.schedule.now (labels_in c.args.image.now c.args.schedule.now c.args.bound) 0 c.in_ok-rows.rows noted rows c.in_ok-start.ensures.lines c.in_ok-start.ensures.schedule in
    let are = changes_are c.args.image.now c.args.scopes.now c.args.schedule.now c.args.bound c.in_ok-machine.machine m.image m.schedule rows.lines.labels still.labels_are in
    let wrote = subst (Appends (g.S.Sink.bytes c.args.sink.now) (g.S.Sink.bytes c.write_all.new.sink)) is c.in-Ok.ensures.whole in
    let changes = subst (Appends (g.S.Sink.bytes c.write_all.new.sink) (g.S.Sink.bytes c.write_steps.new.sink)) are c.in_ok-ending.ensures.changes in
    let last = end_is c.args.image.now c.args.scopes.now c.args.schedule.now c.args.bound c.in_ok-machine.machine m.image m.schedule c.in_ok-ending.ending.outcome c.in_ok-ending.ending.taken
    c.cut_line-last.result.items c.as_slice-2.result.now c.in_ok-ending.ensures.taken c.in_ok-ending.ensures.ends c.cut_line-last.ensures (c.as_slice-2.ensures.value ∙ c.ending_text.ensures) in
    whole c.args.image.now c.args.scopes.now c.args.schedule.now c.args.bound (g.S.Sink.bytes c.args.sink.now) (g.S.Sink.bytes c.write_all.new.sink) wrote (g.S.Sink.bytes c.write_steps.new.sink) changes (g.S.Sink.bytes c.write_all-2.new.sink)
    (subst (Appends (g.S.Sink.bytes c.write_steps.new.sink) (g.S.Sink.bytes c.write_all-2.new.sink)) last c.in-Ok-write_all.ensures.whole)

pub returns-in-Ok-write_all-clause-beginning : goal.returns-in-Ok-write_all-clause-beginning
returns-in-Ok-write_all-clause-beginning g c =
    whole_beginning (g.S.Sink.bytes c.args.sink.now) (g.S.Sink.bytes c.write_all-2.new.sink) (waves_text c.args.image.now c.args.scopes.now c.args.schedule.now c.args.bound) (returns-in-Ok-write_all-clause-text g c)

pub returns-clause-beginning : goal.returns-clause-beginning
returns-clause-beginning g c =
    let m = c.in_ok-machine.ensures in
    let noted = new_noted c.args.image.now c.args.schedule.now (labels_in c.args.image.now c.args.schedule.now c.args.bound) c.left_unmoved.ensures c.in_ok-rows.rows c.in_ok-lines.lines _ c.in_ok-rows.ensures c.in_ok-lines.ensures.lines in
    let is = front_is c.args.image.now c.args.scopes.now c.args.schedule.now c.args.bound c.in_ok-machine.machine m.image m.schedule m.stands c.in_ok-rows.rows noted _ (c.as_slice.ensures.value ∙ c.in_ok-start.ensures.text) in
    let rows = c.beginning.new.rows in
    let still = noted_written c.args.image.now c.args.schedule.now (labels_in c.args.image.now c.args.schedule.now c.args.bound) 0 c.in_ok-rows.rows noted rows c.in_ok-start.ensures.lines c.in_ok-start.ensures.schedule in
    let are = changes_are c.args.image.now c.args.scopes.now c.args.schedule.now c.args.bound c.in_ok-machine.machine m.image m.schedule rows.lines.labels still.labels_are in
    let wrote = subst (Appends (g.S.Sink.bytes c.args.sink.now) (g.S.Sink.bytes c.write_all.new.sink)) is c.in-Ok.ensures.whole in
    let changes = subst (Appends (g.S.Sink.bytes c.write_all.new.sink) (g.S.Sink.bytes c.write_steps.new.sink)) are c.in_ok-ending.ensures.changes in
    let last = end_is c.args.image.now c.args.scopes.now c.args.schedule.now c.args.bound c.in_ok-machine.machine m.image m.schedule c.in_ok-ending.ending.outcome c.in_ok-ending.ending.taken
    c.cut_line-last.result.items c.as_slice-2.result.now c.in_ok-ending.ensures.taken c.in_ok-ending.ensures.ends c.cut_line-last.ensures (c.as_slice-2.ensures.value ∙ c.ending_text.ensures) in
    end_begun c.args.image.now c.args.scopes.now c.args.schedule.now c.args.bound (g.S.Sink.bytes c.args.sink.now) (g.S.Sink.bytes c.write_all.new.sink) wrote (g.S.Sink.bytes c.write_steps.new.sink) changes (g.S.Sink.bytes c.write_all-2.new.sink)
    (subst (AppendsBeginning (g.S.Sink.bytes c.write_steps.new.sink) (g.S.Sink.bytes c.write_all-2.new.sink)) last c.write_all-2.ensures.beginning)

pub write_steps-requires-clause-lines : goal.write_steps-requires-clause-lines
write_steps-requires-clause-lines g c =
    let m = c.in_ok-machine.ensures in
    let i = c.args.image.now in
    let schedule = c.args.schedule.now in
    let labels = labels_in i schedule c.args.bound in
    let noted = new_noted i schedule labels c.left_unmoved.ensures c.in_ok-rows.rows c.in_ok-lines.lines _ c.in_ok-rows.ensures c.in_ok-lines.ensures.lines in
    let still = noted_written i schedule labels 0 c.in_ok-rows.rows noted c.beginning.new.rows c.in_ok-start.ensures.lines c.in_ok-start.ensures.schedule in
    current_held i schedule labels c.beginning.new.rows still c.in_ok-machine.machine m.image m.schedule
