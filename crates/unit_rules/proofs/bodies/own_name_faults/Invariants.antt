use Rattle.std.proofs.Common.{◌≡◌, drop}
use Rattle.expr_rules.specs.Findings.{noted}
use Rattle.unit_rules.specs.BodyRules.{own_name_faults}
use Rattle.unit_rules.proofs.bodies.own_name_faults.Given as goal

abbrev pub invariant-loop-formal : goal.invariant-loop-formal
invariant-loop-formal l = noted l.found (own_name_faults l.name (drop l.formal-index l.formals)) ≡ noted l.fn.found (own_name_faults l.name l.formals)
