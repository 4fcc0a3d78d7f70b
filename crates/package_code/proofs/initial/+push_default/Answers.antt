use Rattle.std.proofs.Common.{◌≡◌, ◌++◌, Some, arith, pos, refl, rules, sym, ap, ◌∙◌, subst}
use Rattle.std.proofs.lemmas.Result.{on_ok_weaker}
use Rattle.types.specs.Entities.{Booleans, Integers, Records, Spans, Times, form_value}
use Rattle.types.specs.Shapes.{component_shapes, fields_words, initial, initial_fields, repeated, shapes, values_words}
use Rattle.step_simulation.specs.part_code.proofs.Lists.{take_all}
use Rattle.step_simulation.specs.part_code.proofs.Initials.{earlier_component, earlier_element, known_component, known_element}
use Rattle.package_code.proofs.InitialWords.{array_words, elements_next, fields_next, record_words, scalar_words}
use Rattle.package_code.proofs.initial.+push_default.Goals as goal

pub push_default-requires : goal.push_default-requires
push_default-requires t c =
    let form = sym c.in-Some-Array.ensures ∙ ap (λ f. Some (form_value f)) c.in-Some-Array.field-0-is in
    let less = earlier_element c.args.scope.now c.requires.sound c.args.subtype c.in-Some-Array.field-0-0 c.in-Some-Array.many
    c.in-Some-Array.element form in (
      omega (arith, less, c.decreases),
      (
        c.requires.sound,
        known_element c.args.scope.now c.requires.sound c.args.subtype c.in-Some-Array.field-0-0 c.in-Some-Array.many c.in-Some-Array.element form,
      ),
    )

pub loop-preserved : goal.loop-preserved
loop-preserved t c =
    elements_next c.args.words.now.items c.loop.words.items c.push_default.new.words.items c.loop.counter _ c.loop.invariant
    c.in_ok-push_default-in-Some-Array.ensures.words

pub push_default-requires-in-loop-component : goal.push_default-requires-in-loop-component
push_default-requires-in-loop-component t c =
    let form = sym c.in-Some-Record.ensures ∙ ap (λ f. Some (form_value f)) c.in-Some-Record.field-0-is
    ∙ ap (λ l. Some (Records l)) (sym c.as_slice-component-items.ensures) in
    let less = earlier_component c.args.scope.now c.requires.sound c.args.subtype c.as_slice-component-items.result.now c.loop-component.component-index
    c.component-item.result form c.loop-component-test.true c.component-item.is in (
      omega (arith, less, c.decreases),
      (
        c.requires.sound,
        known_component c.args.scope.now c.requires.sound c.args.subtype c.as_slice-component-items.result.now c.loop-component.component-index
            c.component-item.result form c.loop-component-test.true c.component-item.is,
      ),
    )

pub loop-component-preserved : goal.loop-component-preserved
loop-component-preserved t c =
    fields_next _ c.as_slice-component-items.result.now c.args.words.now.items c.loop-component.words.items c.push_default-in-loop-component.new.words.items
    c.loop-component.component-index c.component-item.result c.loop-component-test.true c.component-item.is c.loop-component.invariant
    c.in_ok-push_default-in-Some-Record.ensures.words

pub returns-in-Some-Integer-clause-words : goal.returns-in-Some-Integer-clause-words
returns-in-Some-Integer-clause-words t c = on_ok_weaker c.push_word.result
    (λ p.
    scalar_words c.args.scope.now c.args.subtype c.args.words.now.items c.push_word.new.words.items _ c.args.subtype.first (search rules)
    (Some Integers) (sym c.in-Some-Integer.ensures ∙ ap (λ f. Some (form_value f)) c.in-Some-Integer.field-0-is) refl p) c.push_word.ensures.words

pub returns-in-Some-Boolean-clause-words : goal.returns-in-Some-Boolean-clause-words
returns-in-Some-Boolean-clause-words t c = on_ok_weaker c.push_word-in-Some-Boolean.result
    (λ p.
    scalar_words c.args.scope.now c.args.subtype c.args.words.now.items c.push_word-in-Some-Boolean.new.words.items _ (pos 0) (search rules)
    (Some Booleans) (sym c.in-Some-Boolean.ensures ∙ ap (λ f. Some (form_value f)) c.in-Some-Boolean.field-0-is) refl p)
    c.push_word-in-Some-Boolean.ensures.words

pub returns-in-Some-Time-clause-words : goal.returns-in-Some-Time-clause-words
returns-in-Some-Time-clause-words t c = on_ok_weaker c.push_word-in-Some-Time.result
    (λ p.
    scalar_words c.args.scope.now c.args.subtype c.args.words.now.items c.push_word-in-Some-Time.new.words.items _ (pos 0) (search rules)
    (Some Times) (sym c.in-Some-Time.ensures ∙ ap (λ f. Some (form_value f)) c.in-Some-Time.field-0-is) refl p)
    c.push_word-in-Some-Time.ensures.words

pub returns-in-Some-TimeSpan-clause-words : goal.returns-in-Some-TimeSpan-clause-words
returns-in-Some-TimeSpan-clause-words t c = on_ok_weaker c.push_word-in-Some-TimeSpan.result
    (λ p.
    scalar_words c.args.scope.now c.args.subtype c.args.words.now.items c.push_word-in-Some-TimeSpan.new.words.items _ (pos 0) (search rules)
    (Some Spans) (sym c.in-Some-TimeSpan.ensures ∙ ap (λ f. Some (form_value f)) c.in-Some-TimeSpan.field-0-is) refl p)
    c.push_word-in-Some-TimeSpan.ensures.words

pub returns-after-loop-clause-words : goal.returns-after-loop-clause-words
returns-after-loop-clause-words t c =
    let form = sym c.in-Some-Array.ensures ∙ ap (λ f. Some (form_value f)) c.in-Some-Array.field-0-is in
    let s = c.args.scope.now in
    array_words s c.args.subtype c.args.words.now.items c.loop.words.items c.requires.sound c.in-Some-Array.field-0-0 c.in-Some-Array.many
    c.in-Some-Array.element form
    (subst (λ n. c.loop.words.items ≡ c.args.words.now.items ++ values_words (repeated n (initial s c.in-Some-Array.element)))
    (omega (arith, c.loop-test.false, c.loop.auto.counter-end)) c.loop.invariant)

pub returns-after-loop-component-clause-words : goal.returns-after-loop-component-clause-words
returns-after-loop-component-clause-words t c =
    let form = sym c.in-Some-Record.ensures ∙ ap (λ f. Some (form_value f)) c.in-Some-Record.field-0-is
    ∙ ap (λ l. Some (Records l)) (sym c.as_slice-component-items.ensures) in
    let s = c.args.scope.now in
    let items = c.as_slice-component-items.result.now in
    record_words s c.args.subtype c.args.words.now.items c.loop-component.words.items c.requires.sound items form
    (subst
    (λ l. c.loop-component.words.items ≡ c.args.words.now.items ++ fields_words (initial_fields (component_shapes (shapes s) l)))
    (take_all items c.loop-component.component-index c.loop-component-test.false) c.loop-component.invariant)
