use Rattle.image_loading.specs.Loading.{behind_text, exception_faults}
use Rattle.image_loading.proofs.FirstFault.{each_done, each_turn}
use Rattle.image_loading.proofs.table_faults.exceptions_fault.Goals as goal

pub loop-number-preserved : goal.loop-number-preserved
loop-number-preserved c =
    rw (c.sooner-fault.ensures, c.behind_text-byte.ensures)
    (each_turn behind_text exception_faults c.args.names.now c.loop-number.number c.loop-number.byte c.index-names-number.result c.loop-number.fault c.exception_fault.result _ c.loop-number-test.true c.index-names-number.is c.loop-number.invariant c.exception_fault.ensures)

pub returns : goal.returns
returns c = each_done behind_text exception_faults c.args.names.now c.loop-number.number c.loop-number.byte c.loop-number.fault _ c.loop-number-test.false c.loop-number.invariant
