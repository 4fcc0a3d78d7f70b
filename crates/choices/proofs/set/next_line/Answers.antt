use Rattle.std.proofs.Common.{◌≡◌, ◌<◌, ◌≤◌, ◌+◌, ◌^◌, ◌∙◌, Some, ap, arith, length, of_z, pos, refl, rules, sym, to_z, w64}
use Rattle.std.specs.Prelude.{int_lt, false}
use Rattle.std.proofs.lemmas.Int.{ints}
use Rattle.base.specs.declared.limits.TheConstants.{SCHEDULE_LINES}
use Rattle.choices.specs.Texts.{alternatives_of, count_of, has_twice, latest, ranges_of}
use Rattle.choices.specs.declared.slot.TheConstants.{ALTERNATIVES}
use Rattle.choices.proofs.Next.{next_line}
use Rattle.choices.proofs.set.next_line.Goals as goal

pub returns-clause-next : goal.returns-clause-next
returns-clause-next c =
    let ranges : Some c.in-Some-2.ranges.items ≡ ranges_of c.in-Some.fields.alternatives.now = search (rules, c.in_ok-ranges.ensures, c.in-Some-2.is) in
    let items : c.in-Some-3.alternatives.items ≡ alternatives_of c.in-Some-2.ranges.items = search (rules, c.in_ok-alternatives.ensures, c.in-Some-3.is, c.deref.ensures.value) in
    let few : length c.in-Some-3.alternatives.items ≤ ALTERNATIVES = search (rules, c.in_ok-alternatives.ensures, c.in-Some-3.is) in
    let once : has_twice c.in-Some-2.ranges.items ≡ false = search (rules, c.has_twice.ensures, c.if-has_twice.false, c.deref-2.ensures.value) in
    let room : c.args.slots + count_of c.in-Some.fields.times ≤ SCHEDULE_LINES = omega (arith, c.requires, c.if-slots-count.false, c.count.ensures) in
    let early : int_lt c.args.until (pos (latest c.in-Some.fields.times)) ≡ false =
    let small : c.latest.result < 2 ^ 63 = omega (arith, c.latest.ensures.within, c.in-Some.ensures.lawful.last) in
    let u : to_z w64 (of_z w64 c.args.until) ≡ c.args.until = search rules in
    let a : to_z w64 (of_z w64 c.cast_signed.result) ≡ c.cast_signed.result = search rules in
    let b : to_z w64 c.latest.result ≡ pos c.latest.result = omega (arith, ints, small) in
    let d : pos c.latest.result ≡ pos (latest c.in-Some.fields.times) = ap pos c.latest.ensures.same in
    let e = a ∙ c.cast_signed.ensures ∙ b ∙ d in
    sym (λ i. int_lt (u i) (e i)) ∙ c.if-until-cast_signed.false in
    next_line c.args.until c.args.slots c.args.rest.now c.in-Some.fields c.in-Some.behind.now c.in-Some-channel.channel c.in-Some-2.ranges.items _
    c.in-Some.ensures.read c.in-Some.ensures.lawful ranges c.in-Some-channel.is items few once room early refl refl
