use Rattle.std.proofs.Common.{◌≡◌, drop}
use Rattle.diagnostics.specs.counterparts.Twice.{first_clause}
use Rattle.diagnostics.proofs.counterparts.twice.first_clause.Given as goal

-- what is left decides
abbrev pub invariant-loop-clause : goal.invariant-loop-clause
invariant-loop-clause l = first_clause l.fn.name l.fn.place (drop l.clause-index l.fn.clauses) ≡ first_clause l.fn.name l.fn.place l.fn.clauses
