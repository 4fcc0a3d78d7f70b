use Rattle.std.proofs.lemmas.Result.{err_from_is_err_and}
use Rattle.image_loading.specs.Reading.{read_many, read_attachment}
use Rattle.image_loading.proofs.ReadLoop.{goes_on, ends, is_done}
use Rattle.image_loading.proofs.reading.attachments_of.Goals as goal

pub returns-in_err-attachment : goal.returns-in_err-attachment
returns-in_err-attachment c =
    let p = err_from_is_err_and c.from_residual.result c.from_residual.ensures.1 in
    rw (p.1, p.2)
    (ends read_attachment c.in_err-attachment.field-0.0 c.loop.attachments.items c.args.count c.loop.counter c.loop.rest.now
    (read_many read_attachment c.args.count c.args.bytes.now) c.loop-test.true c.in_err-attachment.ensures c.loop.invariant)

pub loop-preserved : goal.loop-preserved
loop-preserved c =
    rw c.in_ok-push.ensures.items
    (goes_on read_attachment c.loop.attachments.items c.args.count c.loop.counter c.loop.rest.now c.in_ok-attachment.attachment
    c.in_ok-attachment.after.now (read_many read_attachment c.args.count c.args.bytes.now) c.loop-test.true c.in_ok-attachment.ensures
    c.loop.invariant)

pub returns : goal.returns
returns c =
    is_done read_attachment c.loop.attachments.items c.args.count c.loop.counter c.loop.rest.now
    (read_many read_attachment c.args.count c.args.bytes.now) c.loop-test.false c.loop.invariant
