use Rattle.std.proofs.Common.{◌≡◌, ◌+◌, ◌-◌, ◌++◌, ◌∙◌, length, rules, arith, ap, length-append, of_z, to_z, w64}
use Rattle.std.specs.Prelude.{◌+ℤ◌, pos}
use Rattle.std.proofs.lemmas.Int.{ints, to_z-of_z}
use Rattle.choices.specs.Texts.{distance, values_from}
use Rattle.choices.proofs.Values.{room_left, values_long, values_more}
use Rattle.choices.proofs.ranges.push_values.Goals as goal

pub returns-then-len-min : goal.returns-then-len-min
returns-then-len-min c =
    let long = values_long c.args.first (distance c.args.first c.args.last + 1) in
    let far : c.distance-left.result ≡ distance c.args.first c.args.last = search (rules, c.distance-left.ensures) in
    let items : c.len.result ≡ length c.args.alternatives.now.items = search (rules, c.len.ensures) in
    omega (arith, c.if-len-min.true, c.min.ensures, items, far, long)

pub loop-left-preserved : goal.loop-left-preserved
loop-left-preserved c =
    let value = to_z w64 c.loop-left.value-bits in
    let some = c.loop-left-test.true in
    let inv = c.loop-left.invariant in
    let first : to_z w64 (of_z w64 c.args.first) ≡ c.args.first = search rules in
    let last : to_z w64 (of_z w64 c.args.last) ≡ c.args.last = search rules in
    let far = inv.1.0 some in
    let up : to_z w64 (of_z w64 (value +ℤ pos 1)) ≡ value +ℤ pos 1 = first_of (search (rules, far, some), grind (arith, ints, to_z-of_z)) in
    let more : length c.push.new.self.items ≡ length c.loop-left.alternatives.items + 1 = ap length c.in_ok-push.ensures.items ∙ length-append _ _ in
    let room = inv.1.1 in
    rw up (
      ap (λ l. l ++ values_from (value +ℤ pos 1) (c.loop-left.left - 1 + 1)) c.in_ok-push.ensures.items
          ∙ values_more c.loop-left.alternatives.items value c.loop-left.left some ∙ inv.0,
      (room_left value _ c.loop-left.left inv.1.0 some, omega (arith, more, room, some)),
    )
