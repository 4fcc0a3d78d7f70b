use Rattle.std.proofs.Common.{◌≡◌, drop}
use Rattle.expr_rules.specs.Findings.{noted}
use Rattle.unit_rules.specs.UnitRules.{clauses_behind, clauses_faults}
use Rattle.unit_rules.proofs.units.clauses_faults.Given as goal

abbrev pub invariant-loop-clause : goal.invariant-loop-clause
invariant-loop-clause l =
    noted l.found (clauses_behind l.times_named l.io_named (drop l.clause-index l.clauses)) ≡ noted l.fn.found (clauses_faults l.clauses)
