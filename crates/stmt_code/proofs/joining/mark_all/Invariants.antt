use Rattle.std.proofs.Common.{◌≡◌, ◌++◌, drop}
use Rattle.stmt_code.proofs.joining.mark_all.Given as goal

abbrev pub invariant-loop-row : goal.invariant-loop-row
invariant-loop-row l =
    record l.rows { places = l.rows.places ++ drop l.row-index l.more } ≡ record l.fn.rows { places = l.fn.rows.places ++ l.more }
