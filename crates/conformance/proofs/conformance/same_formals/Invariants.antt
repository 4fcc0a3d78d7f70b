use Rattle.std.proofs.Common.{◌≡◌, drop}
use Rattle.conformance.specs.MatchingRules.{same_formals}
use Rattle.conformance.proofs.conformance.same_formals.Given as goal

abbrev pub invariant-loop-formal : goal.invariant-loop-formal
invariant-loop-formal l = same_formals (drop l.formal-index l.left) l.rest ≡ same_formals l.left l.right
