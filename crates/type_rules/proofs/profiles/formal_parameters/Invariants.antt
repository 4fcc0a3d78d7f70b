use Rattle.std.proofs.Common.{◌≡◌, drop}
use Rattle.type_rules.specs.ProfileRules.{formal_parameters}
use Rattle.expr_rules.specs.Walks.{behind}
use Rattle.type_rules.proofs.profiles.formal_parameters.Given as goal

abbrev pub invariant-loop-formal : goal.invariant-loop-formal
invariant-loop-formal l = behind l.all.items (formal_parameters l.scope (drop l.formal-index l.formals)) ≡ formal_parameters l.scope l.formals
