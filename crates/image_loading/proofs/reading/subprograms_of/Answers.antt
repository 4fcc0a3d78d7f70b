use Rattle.std.proofs.lemmas.Result.{err_from_is_err_and}
use Rattle.image_loading.specs.Reading.{read_many, read_subprogram}
use Rattle.image_loading.proofs.ReadLoop.{goes_on, ends, is_done}
use Rattle.image_loading.proofs.reading.subprograms_of.Goals as goal

pub returns-in_err-subprogram : goal.returns-in_err-subprogram
returns-in_err-subprogram c =
    let p = err_from_is_err_and c.from_residual.result c.from_residual.ensures.1 in
    rw (p.1, p.2) (ends read_subprogram c.in_err-subprogram.field-0.0 c.loop.subprograms.items c.args.count c.loop.counter c.loop.rest.now (read_many read_subprogram c.args.count c.args.bytes.now) c.loop-test.true c.in_err-subprogram.ensures c.loop.invariant)

pub loop-preserved : goal.loop-preserved
loop-preserved c =
    rw c.in_ok-push.ensures.items (goes_on read_subprogram c.loop.subprograms.items c.args.count c.loop.counter c.loop.rest.now c.in_ok-subprogram.subprogram c.in_ok-subprogram.after.now (read_many read_subprogram c.args.count c.args.bytes.now) c.loop-test.true c.in_ok-subprogram.ensures c.loop.invariant)

pub returns : goal.returns
returns c = is_done read_subprogram c.loop.subprograms.items c.args.count c.loop.counter c.loop.rest.now (read_many read_subprogram c.args.count c.args.bytes.now) c.loop-test.false c.loop.invariant
