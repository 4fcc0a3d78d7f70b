use Rattle.image_loading.specs.Loading.{behind_row, instruction_faults}
use Rattle.image_loading.proofs.FirstFault.{each_done, each_turn_at}
use Rattle.image_loading.proofs.code_faults.operands_fault.Goals as goal

pub loop-place-preserved : goal.loop-place-preserved
loop-place-preserved c =
    rw (c.sooner-fault.ensures, c.after-byte.ensures) (each_turn_at (behind_row 13) instruction_faults c.args.instructions.now c.loop-place.place c.loop-place.byte _ c.loop-place.fault c.instruction_fault.result _ c.loop-place-test.true c.loop-place.invariant c.instruction_fault.ensures)

pub returns : goal.returns
returns c = each_done (behind_row 13) instruction_faults c.args.instructions.now c.loop-place.place c.loop-place.byte c.loop-place.fault _ c.loop-place-test.false c.loop-place.invariant
