use Rattle.std.proofs.Common.{◌≡◌, length, rules, arith}
use Rattle.choices.proofs.Building.{few_slots, reading_more}
use Rattle.choices.proofs.set.Choices.read.Goals as goal

pub loop-rest-smaller : goal.loop-rest-smaller
loop-rest-smaller c =
    let n : c.len.result ≡ length c.loop-rest.slots.items = search (rules, c.len.ensures) in
    let m = reading_more _ _ _ c.loop-rest.slots.items c.add_slots.new.slots.items c.loop-rest.number c.in_ok-line.line c.in_ok-line.behind.now c.len.result n c.loop-rest.invariant
    c.in_ok-line.ensures.next c.in_ok-add_slots.ensures in
    let long = m.1 in
    let few = few_slots _ _ _ _ _ m.0 in
    omega (arith, long, few)

pub loop-rest-preserved : goal.loop-rest-preserved
loop-rest-preserved c =
    let n : c.len.result ≡ length c.loop-rest.slots.items = search (rules, c.len.ensures) in
    (reading_more _ _ _ c.loop-rest.slots.items c.add_slots.new.slots.items c.loop-rest.number c.in_ok-line.line c.in_ok-line.behind.now c.len.result n c.loop-rest.invariant
    c.in_ok-line.ensures.next c.in_ok-add_slots.ensures).0
