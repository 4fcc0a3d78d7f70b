use Rattle.std.proofs.Common.{◌≡◌, ◌++◌, drop}
use Rattle.handlers.specs.Searching.{candidates_of}
use Rattle.handlers.proofs.searching.candidates.Given as goal

abbrev pub invariant-loop-number : goal.invariant-loop-number
invariant-loop-number l = l.candidates.items ++ candidates_of l.number (drop l.number l.fn.rows) ≡ candidates_of 0 l.fn.rows
