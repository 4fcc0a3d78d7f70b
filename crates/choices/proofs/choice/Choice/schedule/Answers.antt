use Rattle.std.proofs.Common.{◌≡◌, ◌++◌, ◌∙◌, ap, append-nil, arith, get_or, of_z, to_z, w64, rules, subst, sym, true}
use Rattle.base.specs.Schedule.{is_schedule}
use Rattle.choices.specs.Places.{AreWithin, taken}
use Rattle.choices.specs.Slots.{are_slots, line_of}
use Rattle.base.specs.Arithmetic.{is_in_base_range}
use Rattle.choices.proofs.Lawful.{each_lawful, same_bits, schedule_of_choice, time_lawful}
use Rattle.choices.proofs.Order.{taken_is_choice}
use Rattle.choices.proofs.Taking.{line_is, lines_done, lines_next, place_less, place_within}
use Rattle.choices.proofs.choice.Choice.schedule.Goals as goal
use Rattle.choices.proofs.choice.Choice.schedule.Goals.{in-Some+in_ok-push-in-Some, in-None}

pub bounds-places-at : goal.bounds-places-at
bounds-places-at c =
    let w : AreWithin c.slots-slots.result.now c.as_slice-places.result.now = search (rules, c.requires, c.slots-slots.ensures.same, c.as_slice-places.ensures.value, c.self.view_is) in
    place_less c.slots-slots.result.now c.as_slice-places.result.now c.loop-at.at c.index-slots-at.result w c.loop-at-test.true c.index-slots-at.is

pub index-requires : goal.index-requires
index-requires c =
    let w : AreWithin c.slots-slots.result.now c.as_slice-places.result.now = search (rules, c.requires, c.slots-slots.ensures.same, c.as_slice-places.ensures.value, c.self.view_is) in
    let less = place_within c.slots-slots.result.now c.as_slice-places.result.now c.loop-at.at c.index-slots-at.result w c.loop-at-test.true c.index-slots-at.is in
    search (rules, less, c.slot.view_is)

pub loop-at-preserved : goal.loop-at-preserved
loop-at-preserved c =
    let w : AreWithin c.slots-slots.result.now c.as_slice-places.result.now = search (rules, c.requires, c.slots-slots.ensures.same, c.as_slice-places.ensures.value, c.self.view_is) in
    let next = lines_next c.slots-slots.result.now c.as_slice-places.result.now c.loop-at.at c.index-slots-at.result w c.loop-at-test.true c.index-slots-at.is c.index.result.now in
    let e = c.index.ensures ∙ ap (λ s. get_or s.alternatives (get_or c.as_slice-places.result.now c.loop-at.at 0) c.index.result.now) c.slot.view_is in
    let go = next e c.loop-at.lines.items c.match-index.lines.items in
    let lawful : are_slots c.slots-slots.result.now ≡ true = subst (λ s. are_slots s ≡ true) (sym c.slots-slots.ensures.same) c.slots-slots.ensures.lawful in
    let time : to_z w64 (of_z w64 c.slot.inside.time) ≡ c.slot.inside.time =
    same_bits c.slot.inside.time
    (subst (λ s. is_in_base_range s.time ≡ true) (sym c.slot.view_is)
    (subst (λ s. is_in_base_range s.time ≡ true) (sym c.index-slots-at.is) (time_lawful c.loop-at.at c.slots-slots.result.now c.index-slots-at.result (each_lawful c.slots-slots.result.now lawful) c.loop-at-test.true))) in
    let less = c.loop-at-test.true in (
      elim c.match-index.branch [
        | in-Some+in_ok-push-in-Some v ↦
            let value : to_z w64 (of_z w64 v.in-Some.value) ≡ v.in-Some.value = search rules in
            go (ap (λ x. x.items) v.lines-is ∙ v.in_ok-push-in-Some.ensures.items
            ∙ ap (λ l. c.loop-at.lines.items ++ l)
            (line_is c.index-slots-at.result c.index.result.now v.in-Some.value _ _ _ v.in-Some.is (time ∙ ap (λ s. s.time) c.slot.view_is) (ap (λ s. s.channel) c.slot.view_is) value))
            c.loop-at.invariant.0
        | in-None v ↦
            go (ap (λ x. x.items) v.lines-is ∙ (sym (append-nil c.loop-at.lines.items) ∙ ap (λ a. c.loop-at.lines.items ++ line_of c.index-slots-at.result a) (sym v.in-None.is)))
            c.loop-at.invariant.0
      ],
      omega (arith, less),
    )

pub of_lines-requires : goal.of_lines-requires
of_lines-requires c =
    let w : AreWithin c.slots-slots.result.now c.as_slice-places.result.now = search (rules, c.requires, c.slots-slots.ensures.same, c.as_slice-places.ensures.value, c.self.view_is) in
    let lawful : are_slots c.slots-slots.result.now ≡ true = subst (λ s. are_slots s ≡ true) (sym c.slots-slots.ensures.same) c.slots-slots.ensures.lawful in
    let all = lines_done c.slots-slots.result.now (taken c.slots-slots.result.now c.as_slice-places.result.now) c.loop-at.lines.items c.loop-at.at _ c.loop-at-test.false c.loop-at.invariant.0 in
    subst (λ l. is_schedule l ≡ true) (sym all)
    (schedule_of_choice c.slots-slots.result.now _ lawful (taken_is_choice c.slots-slots.result.now c.as_slice-places.result.now w))
