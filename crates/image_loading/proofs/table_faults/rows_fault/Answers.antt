use Rattle.image_loading.specs.Loading.{behind_row, row_faults}
use Rattle.image_loading.proofs.FirstFault.{each_done, each_turn_at}
use Rattle.image_loading.proofs.table_faults.rows_fault.Goals as goal

pub loop-number-preserved : goal.loop-number-preserved
loop-number-preserved c =
    rw (c.sooner-fault.ensures, c.after-byte.ensures)
    (each_turn_at (behind_row 8) (row_faults c.args.draft.now c.args.ordered c.args.code) c.args.rows.now c.loop-number.number c.loop-number.byte _ c.loop-number.fault c.row_fault.result _ c.loop-number-test.true c.loop-number.invariant c.row_fault.ensures)

pub returns : goal.returns
returns c = each_done (behind_row 8) (row_faults c.args.draft.now c.args.ordered c.args.code) c.args.rows.now c.loop-number.number c.loop-number.byte c.loop-number.fault _ c.loop-number-test.false c.loop-number.invariant
