use Rattle.std.proofs.Common.{◌≡◌, drop}
use Rattle.declaration_rules.specs.BodyNames.{formals_scope}
use Rattle.declaration_rules.proofs.bodies.declare_formals.Given as goal

abbrev pub invariant-loop-formal : goal.invariant-loop-formal
invariant-loop-formal l = formals_scope l.scope (drop l.formal-index l.formals) ≡ formals_scope l.fn.scope l.formals
