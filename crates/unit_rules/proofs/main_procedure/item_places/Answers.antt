use Rattle.std.proofs.Common.{rules, ◌≡◌, ◌∙◌, ◌+◌, ap, subst, sym, take}
use Rattle.types.specs.Seen.{ArePlaces, with_place}
use Rattle.types.proofs.Seeing.{places_next}
use Rattle.unit_rules.specs.MainRules.{item_bytes}
use Rattle.unit_rules.proofs.main_procedure.item_places.Goals as goal

pub loop-place-preserved : goal.loop-place-preserved
loop-place-preserved c =
    let all = c.args.items.now in
    let l = c.loop-place in
    let x = c.index-items-place.result in
    let cloned : c.in_ok-clone.field-0 ≡ c.item_name.result.now.name = search rules in
    let name : c.in_ok-clone.field-0 ≡ item_bytes x = cloned ∙ ap (λ i. i.name) c.item_name.ensures in
    subst (ArePlaces item_bytes (take (l.place + 1) all)) (sym (c.in_ok-add.ensures ∙ ap (λ n. with_place l.places n l.place) name))
    (places_next item_bytes all l.place x l.places c.loop-place-test.true c.index-items-place.is l.invariant)
