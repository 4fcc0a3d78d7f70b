use Rattle.std.proofs.lemmas.Result.{err_from_is_err_and}
use Rattle.image_loading.specs.Reading.{read_many, read_text}
use Rattle.image_loading.proofs.ReadLoop.{goes_on, ends, is_done}
use Rattle.image_loading.proofs.reading.texts_of.Goals as goal

pub returns-in_err-text : goal.returns-in_err-text
returns-in_err-text c =
    let p = err_from_is_err_and c.from_residual.result c.from_residual.ensures.1 in
    rw (p.1, p.2) (ends read_text c.in_err-text.field-0.0 c.loop.texts.items c.args.count c.loop.counter c.loop.rest.now (read_many read_text c.args.count c.args.bytes.now) c.loop-test.true c.in_err-text.ensures c.loop.invariant)

pub loop-preserved : goal.loop-preserved
loop-preserved c =
    rw c.in_ok-push.ensures.items (goes_on read_text c.loop.texts.items c.args.count c.loop.counter c.loop.rest.now c.in_ok-text.text c.in_ok-text.after.now (read_many read_text c.args.count c.args.bytes.now) c.loop-test.true c.in_ok-text.ensures c.loop.invariant)

pub returns : goal.returns
returns c = is_done read_text c.loop.texts.items c.args.count c.loop.counter c.loop.rest.now (read_many read_text c.args.count c.args.bytes.now) c.loop-test.false c.loop.invariant
