use Rattle.std.proofs.Common.{◌≡◌, ◌+◌, ◌++◌, ◌∷◌, [], drop, sym, ap, ◌∙◌, arith}
use Rattle.std.proofs.lemmas.List.{at_drop_more}
use Rattle.types.specs.Layouts.{words_of}
use Rattle.legality.specs.ProgramLayouts.{components_words}
use Rattle.legality.proofs.Placing.{room_next}
use Rattle.legality.proofs.layouts.components_layout.Goals as goal

pub place-requires-clause-room : goal.place-requires-clause-room
place-requires-clause-room c =
    let l = c.loop-component in
    let s = c.args.scope.now in
    let all = c.args.components.now in
    let x = c.component-item.result in
    let here = words_of s x.subtype ∷ [] in
    let left = components_words s (drop (l.component-index + 1) all) in
    let step : components_words s (drop l.component-index all) ≡ here ++ left =
    at_drop_more (components_words s) all l.component-index x c.loop-component-test.true
    ∙ ap (λ y. components_words s (y ∷ drop (l.component-index + 1) all)) (sym c.component-item.is) in
    let room = room_next l.layout.words here left (components_words s all) (ap (λ r. l.layout.words ++ r) (sym step) ∙ l.invariant.1) c.requires.room in omega (arith, room)
