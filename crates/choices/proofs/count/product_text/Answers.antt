use Rattle.std.proofs.Common.{◌≡◌, ◌<◌, ◌+◌, ◌*◌, ◌∙◌, All, ap, map, reverse, rules, subst, sym}
use Rattle.std.proofs.lemmas.Result.{IfOk-weaker}
use Rattle.std.specs.Int.Digits.{digits_of}
use Rattle.choices.specs.Slots.{number_of}
use Rattle.choices.proofs.Counting.{digits_back, digits_small, some_choices, text_of_some}
use Rattle.choices.proofs.count.product_text.Goals as goal

pub text_of-requires-2 : goal.text_of-requires-2
text_of-requires-2 c =
    let n = c.args.first * number_of c.args.slots.now in
    let is : c.deref.result.now ≡ digits_of 10 n =
    c.deref.ensures.value ∙ (c.reverse.ensures.items ∙ (ap reverse c.in_ok-digits.ensures ∙ digits_back n)) in
    subst (All (λ d. d < 10)) (sym is) (digits_small n)

pub returns : goal.returns
returns c =
    let n = c.args.first * number_of c.args.slots.now in
    let is : c.deref.result.now ≡ digits_of 10 n =
    c.deref.ensures.value ∙ (c.reverse.ensures.items ∙ (ap reverse c.in_ok-digits.ensures ∙ digits_back n)) in
    let some = text_of_some n (some_choices c.args.first c.args.slots.now (search rules) c.requires) in
    IfOk-weaker c.text_of-2.result _ _ (λ text e. e ∙ (ap (map (λ d. d + 48)) is ∙ sym some)) c.text_of-2.ensures
