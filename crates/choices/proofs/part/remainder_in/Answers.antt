use Rattle.std.proofs.Common.{rules, arith, ◌≡◌, ◌<◌, ◌%◌, length, ap, sym, suc, drop, ◌+◌, ◌-◌, ◌*◌, ◌∙◌, get_or}
use Rattle.std.proofs.Math.Nat.{mod-eq_of_lt}
use Rattle.choices.specs.Parts.{number_from}
use Rattle.choices.proofs.Moving.{long_as}
use Rattle.choices.proofs.Parting.{number_next, remainder_next}
use Rattle.choices.proofs.part.remainder_in.Goals as goal

pub bounds-places-at : goal.bounds-places-at
bounds-places-at c =
    let same = long_as c.args.slots.now c.args.places.now c.requires.within in
    omega (arith, same)

pub loop-at-preserved : goal.loop-at-preserved
loop-at-preserved c =
    let slots = c.args.slots.now in
    let places = c.args.places.now in
    let at = c.loop-at.at in
    let parts = c.args.parts in
    let same = long_as slots places c.requires.within in
    let below : at < c.args.front = omega arith in
    let less : at < length slots = omega arith in
    let within : at < length places = omega (arith, same) in
    let divisor : c.from-divisor.result ≡ parts = search rules in
    let count : c.len.result ≡ length c.index-slots-at.result.alternatives = search (rules, c.len.ensures, c.slot.view_is) in
    let is : c.index-slots-at.result ≡ get_or slots at c.index-slots-at.result = search rules in
    let left : c.args.front - at ≡ suc (c.args.front - (at + 1)) = omega (arith, below) in
    let next =
    number_next c.loop-at.rest at (c.args.front - (at + 1)) slots places c.index-slots-at.result (get_or places at 0) less within is (search rules) in
    let whole =
    c.loop-at.invariant.2
    ∙ (ap (λ k. number_from c.loop-at.rest k (drop at slots) (drop at places) % parts) left
    ∙ (ap (λ n. n % parts) next
    ∙ ap (λ n. number_from (c.loop-at.rest * n + get_or places at 0) (c.args.front - (at + 1)) (drop (at + 1) slots) (drop (at + 1) places) % parts) (sym count))) in (
      omega (arith, below),
      search (rules, divisor),
      remainder_next (number_from 0 c.args.front slots places % parts) c.loop-at.rest c.len.result (get_or places at 0) c.from-divisor.result parts
          (c.args.front - (at + 1)) (drop (at + 1) slots) (drop (at + 1) places) divisor whole,
    )

pub returns : goal.returns
returns c =
    let parts = c.args.parts in
    let none : c.args.front - c.loop-at.at ≡ 0 = omega arith in
    let less = c.loop-at.invariant.1 in
    let whole =
    c.loop-at.invariant.2
    ∙ ap (λ k. number_from c.loop-at.rest k (drop c.loop-at.at c.args.slots.now) (drop c.loop-at.at c.args.places.now) % parts) none in
    let small : c.loop-at.rest % parts ≡ c.loop-at.rest = mod-eq_of_lt less in
    sym (whole ∙ small)
