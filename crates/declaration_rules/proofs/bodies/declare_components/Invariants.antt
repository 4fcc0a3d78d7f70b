use Rattle.std.proofs.Common.{◌≡◌, drop}
use Rattle.declaration_rules.specs.BodyNames.{components_scope}
use Rattle.declaration_rules.proofs.bodies.declare_components.Given as goal

abbrev pub invariant-loop-component : goal.invariant-loop-component
invariant-loop-component l = components_scope l.scope l.is_function (drop l.component-index l.components) ≡ components_scope l.fn.scope l.is_function l.components
