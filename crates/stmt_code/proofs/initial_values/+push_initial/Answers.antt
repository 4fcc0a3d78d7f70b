use Rattle.std.proofs.Common.{◌-◌, None, Some, arith, pos, rules, sym, ap, ◌∙◌, subst}
use Rattle.std.specs.Prelude.{option_map}
use Rattle.std.proofs.lemmas.Result.{IfOk-weaker}
use Rattle.types.specs.Entities.{Booleans, Integers, Records, Spans, Times, form_value}
use Rattle.part_code.specs.ObjectCode.{HasPutWords, first_words, parts_words, times_words}
use Rattle.part_code.proofs.Lists.{take_all}
use Rattle.stmt_code.proofs.ObjectsMade.{elements_next, form_put, none_below, none_put, parts_next, some_below, told_put}
use Rattle.stmt_code.proofs.initial_values.+push_initial.Goals as goal

pub loop-init : goal.loop-init
loop-init t c = none_put _ _

pub loop-component-init : goal.loop-component-init
loop-component-init t c = none_put _ _

pub loop-preserved : goal.loop-preserved
loop-preserved t c =
    elements_next c.args.fragment.now c.loop.fragment c.push_initial.new.fragment c.args.height c.loop.top c.in_ok-top-in-Some-Array.top c.loop.counter _ c.loop.invariant
    c.in_ok-top-in-Some-Array.ensures.puts

pub loop-component-preserved : goal.loop-component-preserved
loop-component-preserved t c =
    parts_next _ c.as_slice-component-items.result.now c.args.fragment.now c.loop-component.fragment c.push_initial-in-loop-component.new.fragment c.args.height
    c.loop-component.top c.in_ok-top-in-Some-Record.top c.loop-component.component-index c.component-item.result c.loop-component-test.true c.component-item.is
    c.loop-component.invariant c.in_ok-top-in-Some-Record.ensures.puts

pub returns-then-below-eq0 : goal.returns-then-below-eq0
returns-then-below-eq0 t c = record { puts = none_below c.args.below c.args.visible.now.scope c.args.subtype c.args.fragment.now c.args.height c.if-below-eq0.true }

pub returns-in-Some-Integer : goal.returns-in-Some-Integer
returns-in-Some-Integer t c = record {
  puts = IfOk-weaker _ _ _
      (λ top p.
      form_put c.args.below c.args.visible.now.scope c.args.subtype (Some Integers) c.args.fragment.now c.push_word.new.fragment c.args.height top
      c.if-below-eq0.false (sym c.in-Some-Integer.ensures ∙ ap (λ f. Some (form_value f)) c.in-Some-Integer.field-0-is)
      (told_put c.args.fragment.now c.push_word.new.fragment c.args.height top _ c.args.subtype.first (search rules) p)) c.push_word.ensures.puts;
}

pub returns-in-Some-Boolean : goal.returns-in-Some-Boolean
returns-in-Some-Boolean t c = record {
  puts = IfOk-weaker _ _ _
      (λ top p.
      form_put c.args.below c.args.visible.now.scope c.args.subtype (Some Booleans) c.args.fragment.now c.push_word-in-Some-Boolean.new.fragment c.args.height top
      c.if-below-eq0.false (sym c.in-Some-Boolean.ensures ∙ ap (λ f. Some (form_value f)) c.in-Some-Boolean.field-0-is)
      (told_put c.args.fragment.now c.push_word-in-Some-Boolean.new.fragment c.args.height top _ (pos 0) (search rules) p)) c.push_word-in-Some-Boolean.ensures.puts;
}

pub returns-in-Some-Time : goal.returns-in-Some-Time
returns-in-Some-Time t c = record {
  puts = IfOk-weaker _ _ _
      (λ top p.
      form_put c.args.below c.args.visible.now.scope c.args.subtype (Some Times) c.args.fragment.now c.push_word-in-Some-Time.new.fragment c.args.height top
      c.if-below-eq0.false (sym c.in-Some-Time.ensures ∙ ap (λ f. Some (form_value f)) c.in-Some-Time.field-0-is)
      (told_put c.args.fragment.now c.push_word-in-Some-Time.new.fragment c.args.height top _ (pos 0) (search rules) p)) c.push_word-in-Some-Time.ensures.puts;
}

pub returns-in-Some-TimeSpan : goal.returns-in-Some-TimeSpan
returns-in-Some-TimeSpan t c = record {
  puts = IfOk-weaker _ _ _
      (λ top p.
      form_put c.args.below c.args.visible.now.scope c.args.subtype (Some Spans) c.args.fragment.now c.push_word-in-Some-TimeSpan.new.fragment c.args.height top
      c.if-below-eq0.false (sym c.in-Some-TimeSpan.ensures ∙ ap (λ f. Some (form_value f)) c.in-Some-TimeSpan.field-0-is)
      (told_put c.args.fragment.now c.push_word-in-Some-TimeSpan.new.fragment c.args.height top _ (pos 0) (search rules) p)) c.push_word-in-Some-TimeSpan.ensures.puts;
}

pub returns-after-loop : goal.returns-after-loop
returns-after-loop t c =
    let s = c.args.visible.now.scope in
    let ws = first_words (c.args.below - 1) s c.in-Some-Array.element in
    record {
      puts = form_put c.args.below s c.args.subtype _ c.args.fragment.now c.loop.fragment c.args.height c.loop.top c.if-below-eq0.false
          (sym c.in-Some-Array.ensures ∙ ap (λ f. Some (form_value f)) c.in-Some-Array.field-0-is)
          (subst (λ n. HasPutWords c.args.fragment.now c.args.height (times_words n ws) c.loop.fragment c.loop.top)
          (omega (arith, c.loop-test.false, c.loop.auto.counter-end)) c.loop.invariant);
    }

pub returns-after-loop-component : goal.returns-after-loop-component
returns-after-loop-component t c =
    let s = c.args.visible.now.scope in
    let items = c.as_slice-component-items.result.now in
    let part = first_words (c.args.below - 1) s in
    record {
      puts = form_put c.args.below s c.args.subtype (Some (Records items)) c.args.fragment.now c.loop-component.fragment c.args.height c.loop-component.top
          c.if-below-eq0.false
          (sym c.in-Some-Record.ensures ∙ ap (λ f. Some (form_value f)) c.in-Some-Record.field-0-is
          ∙ ap (λ l. Some (Records l)) (sym c.as_slice-component-items.ensures))
          (subst (λ l. HasPutWords c.args.fragment.now c.args.height (parts_words part l) c.loop-component.fragment c.loop-component.top)
          (take_all items c.loop-component.component-index c.loop-component-test.false) c.loop-component.invariant);
    }

pub returns-in-None : goal.returns-in-None
returns-in-None t c = record {
  puts = form_put c.args.below c.args.visible.now.scope c.args.subtype None c.args.fragment.now c.args.fragment.now c.args.height c.args.height
      c.if-below-eq0.false (sym c.form.ensures ∙ ap (option_map (λ f. form_value f.now)) c.in-None.is) (none_put c.args.fragment.now c.args.height);
}

pub push_initial-requires : goal.push_initial-requires
push_initial-requires t c =
    let some = some_below c.args.below c.if-below-eq0.false in
    omega (arith, some, c.decreases)

pub push_initial-requires-in-loop-component : goal.push_initial-requires-in-loop-component
push_initial-requires-in-loop-component t c =
    let some = some_below c.args.below c.if-below-eq0.false in
    omega (arith, some, c.decreases)
