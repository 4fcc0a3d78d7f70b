use Rattle.std.proofs.lemmas.Result.{err_from_is_err_and}
use Rattle.image_loading.specs.Reading.{read_many, read_instruction}
use Rattle.image_loading.proofs.ReadLoop.{goes_on, ends, is_done}
use Rattle.image_loading.proofs.reading.instructions_of.Goals as goal

pub returns-in_err-instruction : goal.returns-in_err-instruction
returns-in_err-instruction c =
    let p = err_from_is_err_and c.from_residual.result c.from_residual.ensures.1 in
    rw (p.1, p.2) (ends read_instruction c.in_err-instruction.field-0.0 c.loop.instructions.items c.args.count c.loop.counter c.loop.rest.now (read_many read_instruction c.args.count c.args.bytes.now) c.loop-test.true c.in_err-instruction.ensures c.loop.invariant)

pub loop-preserved : goal.loop-preserved
loop-preserved c =
    rw c.in_ok-push.ensures.items (goes_on read_instruction c.loop.instructions.items c.args.count c.loop.counter c.loop.rest.now c.in_ok-instruction.instruction c.in_ok-instruction.after.now (read_many read_instruction c.args.count c.args.bytes.now) c.loop-test.true c.in_ok-instruction.ensures c.loop.invariant)

pub returns : goal.returns
returns c = is_done read_instruction c.loop.instructions.items c.args.count c.loop.counter c.loop.rest.now (read_many read_instruction c.args.count c.args.bytes.now) c.loop-test.false c.loop.invariant
