use Rattle.std.proofs.lemmas.Result.{err_from_is_err_and}
use Rattle.image_loading.specs.Reading.{read_many, read_object}
use Rattle.image_loading.proofs.ReadLoop.{goes_on, ends, is_done}
use Rattle.image_loading.proofs.reading.objects_of.Goals as goal

pub returns-in_err-object : goal.returns-in_err-object
returns-in_err-object c =
    let p = err_from_is_err_and c.from_residual.result c.from_residual.ensures.1 in
    rw (p.1, p.2) (ends read_object c.in_err-object.field-0.0 c.loop.objects.items c.args.count c.loop.counter c.loop.rest.now (read_many read_object c.args.count c.args.bytes.now) c.loop-test.true c.in_err-object.ensures c.loop.invariant)

pub loop-preserved : goal.loop-preserved
loop-preserved c =
    rw c.in_ok-push.ensures.items (goes_on read_object c.loop.objects.items c.args.count c.loop.counter c.loop.rest.now c.in_ok-object.object c.in_ok-object.after.now (read_many read_object c.args.count c.args.bytes.now) c.loop-test.true c.in_ok-object.ensures c.loop.invariant)

pub returns : goal.returns
returns c = is_done read_object c.loop.objects.items c.args.count c.loop.counter c.loop.rest.now (read_many read_object c.args.count c.args.bytes.now) c.loop-test.false c.loop.invariant
