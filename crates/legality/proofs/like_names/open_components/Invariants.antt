use Rattle.std.proofs.Common.{◌≡◌, drop, map}
use Rattle.ada_tree.specs.StatementTree.{protected_component_tree}
use Rattle.legality.specs.OpenParts.{component_bytes, extended_by}
use Rattle.legality.proofs.like_names.open_components.Given as goal

abbrev pub invariant-loop-component : goal.invariant-loop-component
invariant-loop-component l =
    extended_by component_bytes l.names (map protected_component_tree (drop l.component-index l.components)) l.end
    ≡ extended_by component_bytes l.fn.names (map protected_component_tree l.components) l.end
