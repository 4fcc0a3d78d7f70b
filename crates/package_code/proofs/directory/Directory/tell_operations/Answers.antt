use Rattle.std.proofs.Common.{◌≡◌, ◌+◌, [], ◌∷◌, drop, map, sym, ap, ◌∙◌}
use Rattle.std.proofs.lemmas.List.{at_drop_more}
use Rattle.types.specs.Entities.{operation_value}
use Rattle.package_code.specs.Directory.{seen_inside}
use Rattle.package_code.specs.Owners.{offered_names}
use Rattle.package_code.proofs.directory.Directory.tell_operations.Goals as goal

pub loop-operation-preserved : goal.loop-operation-preserved
loop-operation-preserved c =
    let l = c.loop-operation in
    let all = c.args.operations.now in
    let x = c.operation-item.result in
    let inside = seen_inside c.args.whole.now c.args.self.now c.args.object in
    let left = offered_names (map operation_value (drop (l.operation-index + 1) all)) in
    let step : inside l.visible (offered_names (map operation_value (drop l.operation-index all)))
    ≡ inside (inside l.visible (x.name ∷ [])) left =
    at_drop_more (λ xs. inside l.visible (offered_names (map operation_value xs))) all l.operation-index x c.loop-operation-test.true
    ∙ ap (λ y. inside l.visible (offered_names (map operation_value (y ∷ drop (l.operation-index + 1) all)))) (sym c.operation-item.is) in
    ap (λ v. inside v left) c.in_ok-tell_inside.ensures.seen ∙ sym step ∙ l.invariant
