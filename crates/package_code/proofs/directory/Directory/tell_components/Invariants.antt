use Rattle.std.proofs.Common.{◌≡◌, drop}
use Rattle.package_code.specs.Directory.{seen_inside}
use Rattle.package_code.specs.Owners.{component_names}
use Rattle.package_code.proofs.directory.Directory.tell_components.Given as goal

abbrev pub invariant-loop-component : goal.invariant-loop-component
invariant-loop-component l =
    seen_inside l.whole l.self l.object l.visible (component_names (drop l.component-index l.components))
    ≡ seen_inside l.whole l.self l.object l.fn.visible (component_names l.components)
