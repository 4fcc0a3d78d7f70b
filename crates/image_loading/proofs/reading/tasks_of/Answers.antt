use Rattle.std.proofs.lemmas.Result.{err_from_is_err_and}
use Rattle.image_loading.specs.Reading.{read_many, read_task}
use Rattle.image_loading.proofs.ReadLoop.{goes_on, ends, is_done}
use Rattle.image_loading.proofs.reading.tasks_of.Goals as goal

pub returns-in_err-task : goal.returns-in_err-task
returns-in_err-task c =
    let p = err_from_is_err_and c.from_residual.result c.from_residual.ensures.1 in
    rw (p.1, p.2) (ends read_task c.in_err-task.field-0.0 c.loop.tasks.items c.args.count c.loop.counter c.loop.rest.now (read_many read_task c.args.count c.args.bytes.now) c.loop-test.true c.in_err-task.ensures c.loop.invariant)

pub loop-preserved : goal.loop-preserved
loop-preserved c =
    rw c.in_ok-push.ensures.items (goes_on read_task c.loop.tasks.items c.args.count c.loop.counter c.loop.rest.now c.in_ok-task.task c.in_ok-task.after.now (read_many read_task c.args.count c.args.bytes.now) c.loop-test.true c.in_ok-task.ensures c.loop.invariant)

pub returns : goal.returns
returns c = is_done read_task c.loop.tasks.items c.args.count c.loop.counter c.loop.rest.now (read_many read_task c.args.count c.args.bytes.now) c.loop-test.false c.loop.invariant
