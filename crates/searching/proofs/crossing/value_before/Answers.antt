use Rattle.std.proofs.Common.{◌≡◌, ◌∙◌, ap, drop, inl, inr, of_z, rules, subst, to_z, w64}
use Rattle.base.specs.Schedule.{input}
use Rattle.searching.specs.Meeting.{IsSetAnew}
use Rattle.searching.proofs.crossing.value_before.Goals as goal

pub returns-then-is_set_anew : goal.returns-then-is_set_anew
returns-then-is_set_anew c =
    let u : to_z w64 (of_z w64 c.args.time) ≡ c.args.time = search rules in
    inl (subst (λ z. IsSetAnew z c.args.channel (drop c.args.front c.args.slots.now)) u (c.is_set_anew.ensures (search (rules, c.if-is_set_anew.true))))

pub returns-else-is_set_anew : goal.returns-else-is_set_anew
returns-else-is_set_anew c =
    let v : to_z w64 (of_z w64 c.value.result) ≡ c.value.result = search rules in
    let u : to_z w64 (of_z w64 c.args.last) ≡ c.args.last = search rules in
    inr (v ∙ (c.value.ensures ∙ ap (λ z. input c.args.schedule.now c.args.channel z) u))
