use Rattle.std.proofs.Common.{arith, rules, ◌≡◌, ◌<◌, ◌*◌, length, ap, ◌∙◌}
use Rattle.choices.specs.Counting.{row_of}
use Rattle.choices.specs.Slots.{number_of}
use Rattle.choices.proofs.Counting.{count_last, count_next, some_here}
use Rattle.choices.proofs.count.count_row.Goals as goal

pub product-requires : goal.product-requires
product-requires c =
    let less : c.loop-slot.slot-index < length c.args.slots.now = omega arith in
    let count : c.len.result ≡ length c.slot-item.result.alternatives = search (rules, c.len.ensures, c.slot.view_is) in
    let some = some_here c.args.slots.now c.loop-slot.slot-index c.slot-item.result less c.slot-item.is c.requires in
    omega (arith, some, count)

pub loop-slot-preserved : goal.loop-slot-preserved
loop-slot-preserved c =
    let less : c.loop-slot.slot-index < length c.args.slots.now = omega arith in
    let count : c.len.result ≡ length c.slot-item.result.alternatives = search (rules, c.len.ensures, c.slot.view_is) in
    let n = c.loop-slot.invariant.0 in (
      n * c.len.result,
      c.in_ok-row.ensures n (c.deref.ensures.value ∙ c.loop-slot.invariant.1),
      count_next c.args.slots.now c.loop-slot.slot-index c.slot-item.result less c.slot-item.is n c.len.result (c.args.first * number_of c.args.slots.now) count
          c.loop-slot.invariant.2,
    )

pub returns : goal.returns
returns c =
    c.loop-slot.invariant.1
    ∙ ap row_of (count_last c.args.slots.now c.loop-slot.slot-index c.loop-slot.invariant.0 (c.args.first * number_of c.args.slots.now) (omega arith)
    c.loop-slot.invariant.2)
