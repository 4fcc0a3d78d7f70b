use Rattle.std.proofs.Common.{◌≡◌, [], drop, take}
use Rattle.types.specs.Seen.{AreNames}
use Rattle.expr_rules.specs.Findings.{noted}
use Rattle.type_rules.specs.TypeRules.{components_faults}
use Rattle.type_rules.proofs.definitions.components_faults.Given as goal

abbrev pub invariant-loop-component : goal.invariant-loop-component
invariant-loop-component l =
    (noted l.found (components_faults l.scope (take l.component-index l.components) (drop l.component-index l.components)) ≡ noted l.fn.found (components_faults l.scope [] l.components))
    × AreNames (λ c. c.name.name) (take l.component-index l.components) l.names
