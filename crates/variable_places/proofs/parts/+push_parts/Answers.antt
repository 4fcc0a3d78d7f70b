use Rattle.std.proofs.Common.{◌≡◌, ◌+◌, ◌-◌, ◌*◌, ◌++◌, ◌∙◌, Some, ap, arith, of_z, pos, rules, sym, to_z, w64}
use Rattle.std.specs.Prelude.{◌+ℤ◌}
use Rattle.types.specs.Entities.{Records, form_value}
use Rattle.types.specs.Layouts.{capped}
use Rattle.variable_places.specs.Parts.{element_name, parts_below}
use Rattle.variable_places.proofs.PartsListed.{all_components, form_listed, one_more, some_below}
use Rattle.variable_places.proofs.parts.+push_parts.Goals as goal

pub push_parts-requires : goal.push_parts-requires
push_parts-requires t c =
    let some = some_below c.args.below c.if-below-eq0.false in
    omega (arith, some, c.decreases)

pub push_parts-requires-in-loop-component : goal.push_parts-requires-in-loop-component
push_parts-requires-in-loop-component t c =
    let some = some_below c.args.below c.if-below-eq0.false in
    omega (arith, some, c.decreases)

pub loop-position-preserved : goal.loop-position-preserved
loop-position-preserved t c =
    let l = c.loop-position in
    let parts = parts_below (c.args.below - 1) c.args.scope.now c.in-Some-Array.element in
    let first : to_z w64 (of_z w64 c.in-Some-Array.index.first) ≡ c.in-Some-Array.index.first = search rules in
    let own = c.deref.ensures.value ∙ c.in_ok-own-in-Some-Array.ensures ∙ ap (λ z. element_name c.args.name.now (z +ℤ pos l.position)) first in
    one_more
    (λ n. parts (element_name c.args.name.now (c.in-Some-Array.index.first +ℤ pos n)) (capped (c.args.word + n * c.words-width.result)))
    c.args.found.now.items l.found.items c.push_parts.new.found.items l.position l.invariant
    (c.in_ok-push_parts-in-Some-Array.ensures ∙ (λ j. l.found.items ++ parts (own j) (c.element_word-first.ensures j)))

pub returns-after-loop-component : goal.returns-after-loop-component
returns-after-loop-component t c =
    let l = c.loop-component in
    let s = c.args.scope.now in
    let all = c.as_slice-all.result.now in
    let form = sym c.in-Some-Record.ensures ∙ ap (λ f. Some (form_value f)) c.in-Some-Record.field-0-is ∙ ap (λ cs. Some (Records cs)) (sym c.as_slice-all.ensures) in
    form_listed c.args.below s c.args.subtype c.args.name.now c.args.word (Some (Records all)) c.args.found.now.items l.found.items c.if-below-eq0.false form
    (all_components (parts_below (c.args.below - 1) s) s all c.args.name.now c.args.word l.component-index c.args.found.now.items l.found.items
    c.loop-component-test.false l.invariant)
