use Rattle.std.proofs.Common.{◌≡◌, ◌+◌, ◌≤◌, suc, drop, option_map}
use Rattle.base.specs.declared.limits.TheConstants.{WORDS}
use Rattle.types.specs.Layouts.{capped, component_offset}
use Rattle.types.proofs.scope.Scope.component_offset.Given as goal

abbrev pub invariant-loop-component : goal.invariant-loop-component
invariant-loop-component l =
    (option_map (λ n. capped (l.words + n)) (component_offset l.self (drop l.component-index l.components) l.name) ≡ option_map capped (component_offset l.self l.components l.name))
    × (l.words ≤ suc WORDS)
