use Rattle.std.proofs.Common.{◌≡◌, ◌∙◌, ap, subst, sym, true}
use Rattle.std.proofs.lemmas.Result.{IfOk-weaker}
use Rattle.choices.specs.Counting.{number_text}
use Rattle.choices.specs.Slots.{are_each_slots}
use Rattle.choices.proofs.Lawful.{each_lawful}
use Rattle.choices.proofs.Parting.{each_behind, number_by, slots_behind}
use Rattle.choices.proofs.count.count_text.Goals as goal

pub product_text-requires : goal.product_text-requires
product_text-requires c =
    let slots = c.slots-slots.result.now in
    let front = c.front_in-front.result.slots in
    let lawful = subst (λ l. are_each_slots l ≡ true) (sym c.slots-slots.ensures.same) (each_lawful c.args.choices.now c.slots-slots.ensures.lawful) in
    subst (λ l. are_each_slots l ≡ true) (sym (slots_behind front slots)) (each_behind front slots lawful)

pub returns : goal.returns
returns c =
    let is =
    number_by c.args.part c.slots-slots.result.now c.args.choices.now c.front_in-front.result.slots c.front_in-front.result.combinations c.from.result c.count.result
    c.from-2.result c.slots-slots.ensures.same c.count.ensures.is (c.from-2.ensures ∙ c.count-2.ensures.is) c.from.ensures c.front_in-front.ensures.slots
    c.front_in-front.ensures.combinations in
    IfOk-weaker c.product_text.result _ _ (λ text e. e ∙ ap number_text is) c.product_text.ensures
