use Rattle.std.proofs.Common.{◌∙◌, ap, length, subst}
use Rattle.std.specs.Io.KnownBytes.{Appends}
use Rattle.machine.specs.Written.{AppendsBeginning}
use Rattle.machine.proofs.Runs.{nothing_written, whole_beginning}
use Rattle.pictures.specs.Pictures.{picture_text}
use Rattle.pictures.proofs.Whole.{frame_is, whole_is}
use Rattle.pictures.proofs.drawing.picture.Goals as goal

pub returns-in-Ok-clause-text : goal.returns-in-Ok-clause-text
returns-in-Ok-clause-text g c =
    let m = c.in_ok-after.ensures in
    let tasks = c.tasks.ensures.image ∙ ap (λ i. length i.tasks) m.image in
    let objects = c.objects.ensures.image ∙ ap (λ i. length i.objects) m.image in
    let frame = frame_is c.args.image.now c.args.names.now c.args.schedule.now c.args.bound _ _ _ _ _ c.new-frame.ensures.is tasks objects c.in_ok-extent.ensures.time c.in_ok-extent.ensures.steps in
    let whole = whole_is c.args.image.now c.args.names.now c.args.schedule.now c.args.bound _ frame c.in_ok-outcome.outcome c.in_ok-outcome.ensures.ends _ (c.as_slice.ensures.value ∙ c.cut_line-last.ensures)
    _ _ _ _ c.new-text.ensures.items c.in_ok-add_front.ensures c.in_ok-outcome.ensures.rows c.in_ok-add_end.ensures in
    subst (Appends (g.S.Sink.bytes c.args.sink.now) (g.S.Sink.bytes c.write_all.new.sink)) (c.as_slice-2.ensures.value ∙ whole) c.in-Ok.ensures.whole

pub returns-in-Ok-clause-beginning : goal.returns-in-Ok-clause-beginning
returns-in-Ok-clause-beginning g c = whole_beginning (g.S.Sink.bytes c.args.sink.now) (g.S.Sink.bytes c.write_all.new.sink) (picture_text c.args.image.now c.args.names.now c.args.schedule.now c.args.bound) (returns-in-Ok-clause-text g c)

pub returns-clause-beginning : goal.returns-clause-beginning
returns-clause-beginning g c =
    let m = c.in_ok-after.ensures in
    let tasks = c.tasks.ensures.image ∙ ap (λ i. length i.tasks) m.image in
    let objects = c.objects.ensures.image ∙ ap (λ i. length i.objects) m.image in
    let frame = frame_is c.args.image.now c.args.names.now c.args.schedule.now c.args.bound _ _ _ _ _ c.new-frame.ensures.is tasks objects c.in_ok-extent.ensures.time c.in_ok-extent.ensures.steps in
    let whole = whole_is c.args.image.now c.args.names.now c.args.schedule.now c.args.bound _ frame c.in_ok-outcome.outcome c.in_ok-outcome.ensures.ends _ (c.as_slice.ensures.value ∙ c.cut_line-last.ensures)
    _ _ _ _ c.new-text.ensures.items c.in_ok-add_front.ensures c.in_ok-outcome.ensures.rows c.in_ok-add_end.ensures in
    subst (AppendsBeginning (g.S.Sink.bytes c.args.sink.now) (g.S.Sink.bytes c.write_all.new.sink)) (c.as_slice-2.ensures.value ∙ whole) c.write_all.ensures.beginning

pub returns-in_err-extent-clause-beginning : goal.returns-in_err-extent-clause-beginning
returns-in_err-extent-clause-beginning g c = nothing_written (g.S.Sink.bytes c.args.sink.now) (picture_text c.args.image.now c.args.names.now c.args.schedule.now c.args.bound)

pub returns-in_err-before-clause-beginning : goal.returns-in_err-before-clause-beginning
returns-in_err-before-clause-beginning g c = nothing_written (g.S.Sink.bytes c.args.sink.now) (picture_text c.args.image.now c.args.names.now c.args.schedule.now c.args.bound)

pub returns-in_err-after-clause-beginning : goal.returns-in_err-after-clause-beginning
returns-in_err-after-clause-beginning g c = nothing_written (g.S.Sink.bytes c.args.sink.now) (picture_text c.args.image.now c.args.names.now c.args.schedule.now c.args.bound)

pub returns-in_err-calls-clause-beginning : goal.returns-in_err-calls-clause-beginning
returns-in_err-calls-clause-beginning g c = nothing_written (g.S.Sink.bytes c.args.sink.now) (picture_text c.args.image.now c.args.names.now c.args.schedule.now c.args.bound)

pub returns-in_err-add_front-clause-beginning : goal.returns-in_err-add_front-clause-beginning
returns-in_err-add_front-clause-beginning g c = nothing_written (g.S.Sink.bytes c.args.sink.now) (picture_text c.args.image.now c.args.names.now c.args.schedule.now c.args.bound)

pub returns-in_err-outcome-clause-beginning : goal.returns-in_err-outcome-clause-beginning
returns-in_err-outcome-clause-beginning g c = nothing_written (g.S.Sink.bytes c.args.sink.now) (picture_text c.args.image.now c.args.names.now c.args.schedule.now c.args.bound)

pub returns-in_err-add_end-clause-beginning : goal.returns-in_err-add_end-clause-beginning
returns-in_err-add_end-clause-beginning g c = nothing_written (g.S.Sink.bytes c.args.sink.now) (picture_text c.args.image.now c.args.names.now c.args.schedule.now c.args.bound)
