use Rattle.std.proofs.Common.{◌≡◌, ◌++◌, drop}
use Rattle.size_rules.specs.BodySizes.{formals_things}
use Rattle.size_rules.proofs.body.push_formals.Given as goal

abbrev pub invariant-loop-formal : goal.invariant-loop-formal
invariant-loop-formal l = l.things.items ++ formals_things l.scope (drop l.formal-index l.formals) ≡ l.fn.things.items ++ formals_things l.scope l.formals
