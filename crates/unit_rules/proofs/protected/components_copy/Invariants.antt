use Rattle.std.proofs.Common.{◌≡◌, ◌++◌, drop}
use Rattle.unit_rules.proofs.protected.components_copy.Given as goal

abbrev pub invariant-loop-component : goal.invariant-loop-component
invariant-loop-component l = l.copy.items ++ drop l.component-index l.components ≡ l.components
