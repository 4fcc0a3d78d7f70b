use Rattle.std.proofs.Common.{◌≡◌, ◌++◌, ap, of_z, rules, subst, to_z, w64, ◌∙◌}
use Rattle.likeness.specs.Worlds.{IsLastBefore}
use Rattle.searching.specs.Following.{MeetsRow}
use Rattle.searching.specs.Meeting.{schedule_of}
use Rattle.searching.proofs.Crossed.{meets, row_of_it, values_of}
use Rattle.searching.proofs.crossing.is_met.Goals as goal

pub returns-then-has_met-clause-met : goal.returns-then-has_met-clause-met
returns-then-has_met-clause-met g c = λ h n from rows e.
    let time = c.in-Some.time in
    let u : to_z w64 (of_z w64 time) ≡ time = search rules in
    let last = c.last_before-last.result in
    let v : to_z w64 (of_z w64 last) ≡ last = search rules in
    let values = c.in_ok-values.values.items in
    let slots = c.args.choices.now in
    let m = c.args.moment.now in
    let own =
    values_of slots c.slots-slots.result.now c.args.front (to_z w64 (of_z w64 time)) time c.args.schedule.now (schedule_of slots c.args.choice.now)
    (to_z w64 (of_z w64 last)) last values c.slots-slots.ensures.same u c.requires.schedule v c.in_ok-values.ensures in
    let k = c.has_met.ensures (search (rules, c.if-has_met.true)) h.image slots c.args.part rows in
    let met = subst (λ w. MeetsRow k.0 c.args.choice.now c.args.front time values w) c.words-words.ensures
    (subst (λ l. MeetsRow k.0 c.args.choice.now c.args.front time l c.words-words.result.now) c.as_slice-given.ensures.value
    (subst (λ z. MeetsRow k.0 c.args.choice.now c.args.front z c.as_slice-given.result.now c.words-words.result.now) u k.2)) in
    meets slots c.args.part c.args.choice.now h n c.args.execution.now m from c.args.front time c.in-Some.ensures k.0 last values k.1
    (subst (λ z. IsLastBefore last z) u c.last_before-last.ensures) own met (search rules)

pub returns-clause-rows : goal.returns-clause-rows
returns-clause-rows g c = λ h n from rows.
    let time = c.in-Some.time in
    let u : to_z w64 (of_z w64 time) ≡ time = search rules in
    let last = c.last_before-last.result in
    let v : to_z w64 (of_z w64 last) ≡ last = search rules in
    let values = c.in_ok-values.values.items in
    let slots = c.args.choices.now in
    let m = c.args.moment.now in
    let own =
    values_of slots c.slots-slots.result.now c.args.front (to_z w64 (of_z w64 time)) time c.args.schedule.now (schedule_of slots c.args.choice.now)
    (to_z w64 (of_z w64 last)) last values c.slots-slots.ensures.same u c.requires.schedule v c.in_ok-values.ensures in
    let row = c.in_ok-row.row in
    let is = c.in_ok-row.ensures in
    c.in_ok-keep.ensures h.image slots c.args.part rows
    (row_of_it slots c.args.part c.args.choice.now h n c.args.execution.now m from c.args.front time c.in-Some.ensures row last values (ap (λ r. r.front) is)
    (ap (λ r. r.time) is ∙ u) (ap (λ r. r.choice) is)
    (ap (λ r. r.words) is ∙ (λ j. c.as_slice-given.ensures.value j ++ c.words-words.ensures j))
    (subst (λ z. IsLastBefore last z) u c.last_before-last.ensures) own)
