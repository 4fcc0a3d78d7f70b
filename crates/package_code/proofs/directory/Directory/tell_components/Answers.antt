use Rattle.std.proofs.Common.{◌≡◌, ◌+◌, [], ◌∷◌, drop, sym, ap, ◌∙◌}
use Rattle.std.proofs.lemmas.List.{at_drop_more}
use Rattle.package_code.specs.Directory.{seen_inside}
use Rattle.package_code.specs.Owners.{component_names}
use Rattle.package_code.proofs.directory.Directory.tell_components.Goals as goal

pub loop-component-preserved : goal.loop-component-preserved
loop-component-preserved c =
    let l = c.loop-component in
    let all = c.args.components.now in
    let x = c.component-item.result in
    let inside = seen_inside c.args.whole.now c.args.self.now c.args.object in
    let left = component_names (drop (l.component-index + 1) all) in
    let step : inside l.visible (component_names (drop l.component-index all)) ≡ inside (inside l.visible (x.name ∷ [])) left =
    at_drop_more (λ xs. inside l.visible (component_names xs)) all l.component-index x c.loop-component-test.true
    ∙ ap (λ y. inside l.visible (component_names (y ∷ drop (l.component-index + 1) all))) (sym c.component-item.is) in
    ap (λ v. inside v left) c.in_ok-tell_inside.ensures.seen ∙ sym step ∙ l.invariant
