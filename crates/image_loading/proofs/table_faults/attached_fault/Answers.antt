use Rattle.image_loading.proofs.FirstFault.{attached_done, attached_turn}
use Rattle.image_loading.proofs.table_faults.attached_fault.Goals as goal

pub loop-a-preserved : goal.loop-a-preserved
loop-a-preserved c =
    rw (c.sooner-fault.ensures, c.after-byte.ensures)
    (attached_turn c.args.parts.now c.args.attachments.now c.loop-a.last c.loop-a.a-index c.loop-a.byte _ c.loop-a.fault c.attachment_fault.result _
    c.loop-a-test.true c.loop-a.invariant c.attachment_fault.ensures)

pub returns : goal.returns
returns c =
    attached_done c.args.parts.now c.args.attachments.now c.loop-a.last c.loop-a.a-index c.loop-a.byte c.loop-a.fault _ c.loop-a-test.false c.loop-a.invariant
