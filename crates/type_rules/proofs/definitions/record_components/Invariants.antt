use Rattle.std.proofs.Common.{◌≡◌, drop}
use Rattle.type_rules.specs.TypeRules.{record_components}
use Rattle.expr_rules.specs.Walks.{behind}
use Rattle.type_rules.proofs.definitions.record_components.Given as goal

abbrev pub invariant-loop-component : goal.invariant-loop-component
invariant-loop-component l = behind l.all.items (record_components l.scope (drop l.component-index l.components)) ≡ record_components l.scope l.components
