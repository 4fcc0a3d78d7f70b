use Rattle.std.proofs.Common.{◌≡◌, drop, map}
use Rattle.expr_rules.specs.Findings.{noted}
use Rattle.size_rules.specs.Limits.{limit_passed}
use Rattle.size_rules.proofs.passing.passed_faults.Given as goal

abbrev pub invariant-loop-place : goal.invariant-loop-place
invariant-loop-place l = noted l.found (map limit_passed (drop l.place-index l.places)) ≡ noted l.fn.found (map limit_passed l.places)
