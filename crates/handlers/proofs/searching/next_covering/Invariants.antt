use Rattle.std.proofs.Common.{◌≡◌, drop}
use Rattle.handlers.specs.Searching.{next_covering}
use Rattle.handlers.proofs.searching.next_covering.Given as goal

abbrev pub invariant-loop-number : goal.invariant-loop-number
invariant-loop-number l = next_covering l.fn.place l.number (drop l.number l.fn.rows) ≡ next_covering l.fn.place l.fn.from (drop l.fn.from l.fn.rows)
