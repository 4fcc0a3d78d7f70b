use Rattle.diagnostics.proofs.Rows.{each_row}
use Rattle.diagnostics.proofs.continuations.continuation.each_is_tried.Goals as goal

pub returns : goal.returns
returns c = each_row
