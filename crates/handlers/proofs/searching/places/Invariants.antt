use Rattle.std.proofs.Common.{◌≡◌, ◌++◌, drop}
use Rattle.handlers.specs.Searching.{starts_and_ends}
use Rattle.handlers.proofs.searching.places.Given as goal

abbrev pub invariant-loop-row : goal.invariant-loop-row
invariant-loop-row l = l.places.items ++ starts_and_ends (drop l.row-index l.fn.rows) ≡ starts_and_ends l.fn.rows
