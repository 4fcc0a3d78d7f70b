use Rattle.std.proofs.Common.{rules, ◌≡◌, ◌∙◌, ◌+◌, ◌<◌, ap, length, get_or, subst, sym, take}
use Rattle.types.specs.Seen.{ArePlaces, with_place}
use Rattle.types.proofs.Seeing.{places_next}
use Rattle.types.proofs.parts.Operations.new.Goals as goal

pub loop-place-preserved : goal.loop-place-preserved
loop-place-preserved c =
    let all = c.args.list.items in
    let l = c.loop-place in
    let x = c.operation-item.result in
    let same = c.deref-operation-items.ensures.value in
    let name : c.in_ok-clone.field-0 ≡ x.name = search rules in
    let less : l.place < length all = subst (λ is. l.place < length is) same c.loop-place-test.true in
    let at : x ≡ get_or all l.place x = c.operation-item.is ∙ ap (λ is. get_or is l.place x) same in
    subst (ArePlaces (λ y. y.name) (take (l.place + 1) all)) (sym (c.in_ok-add.ensures ∙ ap (λ n. with_place l.places n l.place) name))
    (places_next (λ y. y.name) all l.place x l.places less at l.invariant)
