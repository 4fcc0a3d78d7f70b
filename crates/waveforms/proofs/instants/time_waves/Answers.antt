use Rattle.std.proofs.Common.{◌∙◌, subst}
use Rattle.std.specs.Io.KnownBytes.{Appends}
use Rattle.machine.specs.Written.{AppendsBeginning}
use Rattle.machine.proofs.Runs.{nothing_written, whole_beginning}
use Rattle.waveforms.proofs.Noted.{current_held, new_noted}
use Rattle.waveforms.proofs.Whole.{labels_in}
use Rattle.waveforms.proofs.TimeWhole.{changes, changes_are, end_, end_is, front, front_is}
use Rattle.waveforms.proofs.Parts.{changes_begun, end_begun, front_begun, whole}
use Rattle.waveforms.specs.TimeWaves.{time_waves_text}
use Rattle.waveforms.proofs.instants.time_waves.Goals as goal

pub returns-in-Err-clause-beginning : goal.returns-in-Err-clause-beginning
returns-in-Err-clause-beginning g c =
    let noted = new_noted c.args.image.now c.args.schedule.now (labels_in c.args.image.now c.args.schedule.now c.args.bound) c.left_unmoved.ensures c.in_ok-rows.rows c.in_ok-lines.lines _ c.in_ok-rows.ensures c.in_ok-lines.ensures.lines in
    let is = front_is c.args.scopes.now c.args.image.now c.args.schedule.now c.args.bound c.in_ok-rows.rows noted _ (c.as_slice.ensures.value ∙ c.in_ok-start.ensures) in
    front_begun (front c.args.scopes.now c.args.image.now c.args.schedule.now c.args.bound) (changes c.args.scopes.now c.args.image.now c.args.schedule.now c.args.bound) (end_ c.args.scopes.now c.args.image.now c.args.schedule.now c.args.bound) (g.S.Sink.bytes c.args.sink.now) (g.S.Sink.bytes c.write_all.new.sink)
    (subst (AppendsBeginning (g.S.Sink.bytes c.args.sink.now) (g.S.Sink.bytes c.write_all.new.sink)) is c.in-Err.ensures.beginning)

pub returns-in_err-outcome-clause-beginning : goal.returns-in_err-outcome-clause-beginning
returns-in_err-outcome-clause-beginning g c =
    let m = c.in_ok-machine.ensures in
    let noted = new_noted c.args.image.now c.args.schedule.now (labels_in c.args.image.now c.args.schedule.now c.args.bound) c.left_unmoved.ensures c.in_ok-rows.rows c.in_ok-lines.lines _ c.in_ok-rows.ensures c.in_ok-lines.ensures.lines in
    let is = front_is c.args.scopes.now c.args.image.now c.args.schedule.now c.args.bound c.in_ok-rows.rows noted _ (c.as_slice.ensures.value ∙ c.in_ok-start.ensures) in
    let are = changes_are c.args.scopes.now c.args.image.now c.args.schedule.now c.args.bound c.in_ok-machine.machine m.image m.schedule c.in_ok-rows.rows.lines.labels noted.labels_are in
    let wrote = subst (Appends (g.S.Sink.bytes c.args.sink.now) (g.S.Sink.bytes c.write_all.new.sink)) is c.in-Ok.ensures.whole in
    changes_begun (front c.args.scopes.now c.args.image.now c.args.schedule.now c.args.bound) (changes c.args.scopes.now c.args.image.now c.args.schedule.now c.args.bound) (end_ c.args.scopes.now c.args.image.now c.args.schedule.now c.args.bound) (g.S.Sink.bytes c.args.sink.now) (g.S.Sink.bytes c.write_all.new.sink) wrote (g.S.Sink.bytes c.write_instants.new.sink)
    (subst (AppendsBeginning (g.S.Sink.bytes c.write_all.new.sink) (g.S.Sink.bytes c.write_instants.new.sink)) are c.in_err-outcome.ensures.beginning)

pub returns-in-Ok-write_all-clause-text : goal.returns-in-Ok-write_all-clause-text
returns-in-Ok-write_all-clause-text g c =
    let m = c.in_ok-machine.ensures in
    let noted = new_noted c.args.image.now c.args.schedule.now (labels_in c.args.image.now c.args.schedule.now c.args.bound) c.left_unmoved.ensures c.in_ok-rows.rows c.in_ok-lines.lines _ c.in_ok-rows.ensures c.in_ok-lines.ensures.lines in
    let is = front_is c.args.scopes.now c.args.image.now c.args.schedule.now c.args.bound c.in_ok-rows.rows noted _ (c.as_slice.ensures.value ∙ c.in_ok-start.ensures) in
    let are = changes_are c.args.scopes.now c.args.image.now c.args.schedule.now c.args.bound c.in_ok-machine.machine m.image m.schedule c.in_ok-rows.rows.lines.labels noted.labels_are in
    let wrote = subst (Appends (g.S.Sink.bytes c.args.sink.now) (g.S.Sink.bytes c.write_all.new.sink)) is c.in-Ok.ensures.whole in
    let all = subst (Appends (g.S.Sink.bytes c.write_all.new.sink) (g.S.Sink.bytes c.write_instants.new.sink)) are c.in_ok-outcome.ensures.text in
    let last = end_is c.args.scopes.now c.args.image.now c.args.schedule.now c.args.bound c.in_ok-machine.machine m.image m.schedule c.in_ok-outcome.outcome c.cut_line-last.result.items c.as_slice-2.result.now
    c.in_ok-outcome.ensures.ends c.cut_line-last.ensures (c.as_slice-2.ensures.value ∙ c.comment_text.ensures) in
    whole (front c.args.scopes.now c.args.image.now c.args.schedule.now c.args.bound) (changes c.args.scopes.now c.args.image.now c.args.schedule.now c.args.bound) (end_ c.args.scopes.now c.args.image.now c.args.schedule.now c.args.bound) (g.S.Sink.bytes c.args.sink.now) (g.S.Sink.bytes c.write_all.new.sink) wrote (g.S.Sink.bytes c.write_instants.new.sink) all
    (g.S.Sink.bytes c.write_all-2.new.sink)
    (subst (Appends (g.S.Sink.bytes c.write_instants.new.sink) (g.S.Sink.bytes c.write_all-2.new.sink)) last c.in-Ok-write_all.ensures.whole)

pub returns-in-Ok-write_all-clause-beginning : goal.returns-in-Ok-write_all-clause-beginning
returns-in-Ok-write_all-clause-beginning g c =
    whole_beginning (g.S.Sink.bytes c.args.sink.now) (g.S.Sink.bytes c.write_all-2.new.sink) _ (returns-in-Ok-write_all-clause-text g c)

pub returns-clause-beginning : goal.returns-clause-beginning
returns-clause-beginning g c =
    let m = c.in_ok-machine.ensures in
    let noted = new_noted c.args.image.now c.args.schedule.now (labels_in c.args.image.now c.args.schedule.now c.args.bound) c.left_unmoved.ensures c.in_ok-rows.rows c.in_ok-lines.lines _ c.in_ok-rows.ensures c.in_ok-lines.ensures.lines in
    let is = front_is c.args.scopes.now c.args.image.now c.args.schedule.now c.args.bound c.in_ok-rows.rows noted _ (c.as_slice.ensures.value ∙ c.in_ok-start.ensures) in
    let are = changes_are c.args.scopes.now c.args.image.now c.args.schedule.now c.args.bound c.in_ok-machine.machine m.image m.schedule c.in_ok-rows.rows.lines.labels noted.labels_are in
    let wrote = subst (Appends (g.S.Sink.bytes c.args.sink.now) (g.S.Sink.bytes c.write_all.new.sink)) is c.in-Ok.ensures.whole in
    let all = subst (Appends (g.S.Sink.bytes c.write_all.new.sink) (g.S.Sink.bytes c.write_instants.new.sink)) are c.in_ok-outcome.ensures.text in
    let last = end_is c.args.scopes.now c.args.image.now c.args.schedule.now c.args.bound c.in_ok-machine.machine m.image m.schedule c.in_ok-outcome.outcome c.cut_line-last.result.items c.as_slice-2.result.now
    c.in_ok-outcome.ensures.ends c.cut_line-last.ensures (c.as_slice-2.ensures.value ∙ c.comment_text.ensures) in
    end_begun (front c.args.scopes.now c.args.image.now c.args.schedule.now c.args.bound) (changes c.args.scopes.now c.args.image.now c.args.schedule.now c.args.bound) (end_ c.args.scopes.now c.args.image.now c.args.schedule.now c.args.bound) (g.S.Sink.bytes c.args.sink.now) (g.S.Sink.bytes c.write_all.new.sink) wrote (g.S.Sink.bytes c.write_instants.new.sink) all
    (g.S.Sink.bytes c.write_all-2.new.sink)
    (subst (AppendsBeginning (g.S.Sink.bytes c.write_instants.new.sink) (g.S.Sink.bytes c.write_all-2.new.sink)) last c.write_all-2.ensures.beginning)

pub returns-in_err-signals-clause-beginning : goal.returns-in_err-signals-clause-beginning
returns-in_err-signals-clause-beginning g c =
    nothing_written (g.S.Sink.bytes c.args.sink.now) (time_waves_text c.args.image.now c.args.scopes.now c.args.schedule.now c.args.bound)

pub returns-in_err-rows-clause-beginning : goal.returns-in_err-rows-clause-beginning
returns-in_err-rows-clause-beginning g c =
    nothing_written (g.S.Sink.bytes c.args.sink.now) (time_waves_text c.args.image.now c.args.scopes.now c.args.schedule.now c.args.bound)

pub returns-in_err-start-clause-beginning : goal.returns-in_err-start-clause-beginning
returns-in_err-start-clause-beginning g c =
    nothing_written (g.S.Sink.bytes c.args.sink.now) (time_waves_text c.args.image.now c.args.scopes.now c.args.schedule.now c.args.bound)

pub write_instants-requires-clause-lines : goal.write_instants-requires-clause-lines
write_instants-requires-clause-lines g c =
    let m = c.in_ok-machine.ensures in
    let i = c.args.image.now in
    let schedule = c.args.schedule.now in
    let labels = labels_in i schedule c.args.bound in
    let noted = new_noted i schedule labels c.left_unmoved.ensures c.in_ok-rows.rows c.in_ok-lines.lines _ c.in_ok-rows.ensures c.in_ok-lines.ensures.lines in
    current_held i schedule labels c.in_ok-rows.rows noted c.in_ok-machine.machine m.image m.schedule
