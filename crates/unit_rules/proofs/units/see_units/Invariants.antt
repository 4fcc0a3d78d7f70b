use Rattle.std.proofs.Common.{◌≡◌, drop}
use Rattle.declaration_rules.specs.PackageNames.{clauses_scope}
use Rattle.unit_rules.proofs.units.see_units.Given as goal

abbrev pub invariant-loop-clause : goal.invariant-loop-clause
invariant-loop-clause l = clauses_scope l.scope (drop l.clause-index l.clauses) ≡ clauses_scope l.fn.scope l.clauses
