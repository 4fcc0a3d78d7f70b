use Rattle.std.proofs.Common.{◌≡◌, ◌+◌, ◌-◌, ◌*◌, ◌++◌, drop, pos}
use Rattle.std.specs.Prelude.{◌+ℤ◌}
use Rattle.types.specs.Layouts.{capped}
use Rattle.variable_places.specs.Parts.{components_parts, each_below, element_name, parts_below}
use Rattle.variable_places.proofs.parts.+push_parts.Given as goal

abbrev pub decreases-push_parts : goal.decreases-push_parts
decreases-push_parts l = l.below

abbrev pub invariant-loop-position : goal.invariant-loop-position
invariant-loop-position l =
    l.found.items ≡ l.fn.found.items
    ++ each_below l.position (λ n. parts_below (l.below - 1) l.scope l.element (element_name l.name (l.index.first +ℤ pos n)) (capped (l.word + n * l.width)))

-- the components that are left are still to come
abbrev pub invariant-loop-component : goal.invariant-loop-component
invariant-loop-component l =
    l.found.items ++ components_parts (parts_below (l.below - 1) l.scope) l.scope l.all l.name l.word (drop l.component-index l.all)
    ≡ l.fn.found.items ++ components_parts (parts_below (l.below - 1) l.scope) l.scope l.all l.name l.word l.all
