use Rattle.std.proofs.Common.{◌≡◌, ◌∙◌, ap, of_z, rules, to_z, w64}
use Rattle.choices.proofs.Building.{inserted_at}
use Rattle.choices.proofs.set.insert.Goals as goal

pub returns : goal.returns
returns c =
    let time : to_z w64 (of_z w64 c.slot.inside.time) ≡ c.slot.inside.time = search rules in
    c.in_ok-insert.ensures.items
    ∙ inserted_at c.args.slot c.args.slots.now.items _ _ _ c.deref.ensures.value (time ∙ ap (λ s. s.time) c.slot.view_is) c.count_up_to-place.ensures.same
