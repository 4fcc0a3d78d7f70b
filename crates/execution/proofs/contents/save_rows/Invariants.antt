use Rattle.std.proofs.Common.{◌≡◌, ◌++◌, drop}
use Rattle.execution.proofs.contents.save_rows.Given as goal

-- what is left, after the copies of what precedes it, is all
abbrev pub invariant-loop-row : goal.invariant-loop-row
invariant-loop-row l = l.saved.items ++ drop l.row-index l.rows ≡ l.rows
