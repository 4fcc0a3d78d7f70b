use Rattle.std.proofs.Common.{ap, ◌∙◌}
use Rattle.processor.specs.Layout.{TaskRow}
use Rattle.execution.proofs.RowsOf.{wide_get}
use Rattle.execution.proofs.rooms.restore_row.Goals as goal

-- the rows have one width
pub restore-requires : goal.restore-requires
restore-requires c =
    let rows = c.args.rows.now.items in
    let saved : TaskRow = c.args.saved.now in
    ap {A = TaskRow} (λ r. r.width) (c.in-Some.ensures.item.3.1 saved) ∙ wide_get saved.width rows c.args.at saved c.requires.wide c.in-Some.ensures.item.3.0
