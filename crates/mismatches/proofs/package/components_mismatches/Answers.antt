use Rattle.std.proofs.Common.{◌+◌, drop, map, refl}
use Rattle.ada_tree.specs.StatementTree.{protected_component_tree}
use Rattle.mismatches.specs.BodyMismatches.{component_mismatches, components_mismatches}
use Rattle.mismatches.proofs.Noted.{noted_turn}
use Rattle.mismatches.proofs.package.components_mismatches.Goals as goal

pub loop-component-preserved : goal.loop-component-preserved
loop-component-preserved c =
    let s = c.args.scope.now in
    let l = c.loop-component in
    let x = c.component-item.result in
    rw c.component_mismatches.ensures
    (noted_turn (λ xs. components_mismatches s (map protected_component_tree xs)) c.args.components.now l.component-index x l.search
    (component_mismatches s (protected_component_tree x))
    (components_mismatches s (map protected_component_tree (drop (l.component-index + 1) c.args.components.now))) _
    c.loop-component-test.true c.component-item.is refl l.invariant)
