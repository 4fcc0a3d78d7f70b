use Rattle.std.proofs.Common.{◌≡◌, ◌++◌, drop}
use Rattle.stmt_code.proofs.sketch.append.Given as goal

abbrev pub invariant-loop-row : goal.invariant-loop-row
invariant-loop-row l = (l.rows.items ++ drop l.row-index l.more) ≡ (l.fn.rows.items ++ l.more)
