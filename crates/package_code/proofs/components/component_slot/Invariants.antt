use Rattle.std.proofs.Common.{◌≡◌, drop}
use Rattle.package_code.specs.Directory.{component_told}
use Rattle.package_code.proofs.components.component_slot.Given as goal

abbrev pub invariant-loop-component : goal.invariant-loop-component
invariant-loop-component l = component_told (drop l.component-index l.components) l.object l.name ≡ component_told l.components l.object l.name
