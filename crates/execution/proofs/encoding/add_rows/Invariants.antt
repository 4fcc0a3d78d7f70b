use Rattle.std.proofs.Common.{◌≡◌, ◌++◌, drop, flat_map}
use Rattle.execution.specs.Encoding.{task_words}
use Rattle.execution.specs.Held.{RowsAreWide}
use Rattle.execution.proofs.encoding.add_rows.Given as goal

-- what is left, added to the words so far, is all
abbrev pub invariant-loop-row : goal.invariant-loop-row
invariant-loop-row l =
    (l.out.items ++ flat_map (λ r. task_words r.task) (drop l.row-index l.rows) ≡ l.fn.out.items ++ flat_map (λ r. task_words r.task) l.rows)
    × RowsAreWide l.width (drop l.row-index l.rows)
