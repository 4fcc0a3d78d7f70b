use Rattle.std.proofs.Common.{◌≡◌, ◌<◌, arith, get_or, length, of_z, rules, subst, to_z, w64}
use Rattle.searching.specs.Meeting.{SetsAnew}
use Rattle.searching.proofs.Anew.{set_behind}
use Rattle.searching.proofs.crossing.is_set_anew.Goals as goal

pub returns-then-sets_anew : goal.returns-then-sets_anew
returns-then-sets_anew c = λ e.
    let slots = c.args.slots.now in
    let at = c.loop-at.at in
    let slot = c.index-slots-at.result in
    let u : to_z w64 (of_z w64 c.args.time) ≡ c.args.time = search rules in
    let is : slot ≡ get_or slots at slot = search rules in
    let less : at < length slots = omega arith in
    set_behind c.args.time c.args.channel c.args.front at slots slot is less c.loop-at.invariant
    (subst (λ z. SetsAnew z c.args.channel slot) u (c.sets_anew.ensures (search (rules, c.if-sets_anew.true))))
