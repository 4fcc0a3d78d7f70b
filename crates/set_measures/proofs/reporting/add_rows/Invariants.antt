use Rattle.std.proofs.Common.{◌≡◌, ◌++◌, drop}
use Rattle.set_measures.specs.Text.{rows_text}
use Rattle.set_measures.proofs.reporting.add_rows.Given as goal

abbrev pub invariant-loop-row : goal.invariant-loop-row
invariant-loop-row l =
    l.text.items ++ rows_text l.form l.image l.names (drop l.row-index l.rows) ≡ l.fn.text.items ++ rows_text l.fn.form l.fn.image l.fn.names l.fn.rows
