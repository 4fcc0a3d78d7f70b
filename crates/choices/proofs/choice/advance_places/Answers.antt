use Rattle.std.proofs.Common.{◌≡◌, length, rules, arith}
use Rattle.choices.proofs.Lawful.{each_lawful}
use Rattle.choices.proofs.Moving.{back_at, long_as, moved_at, place_below, starts_whole}
use Rattle.choices.proofs.choice.advance_places.Goals as goal

pub loop-at-init : goal.loop-at-init
loop-at-init c = starts_whole c.args.slots.now c.args.places.now c.requires.within

pub bounds-places-at : goal.bounds-places-at
bounds-places-at c = let long = long_as _ _ c.requires.within in omega (arith, long, c.loop-at.auto.places, c.loop-at.invariant.1.1, c.loop-at-test.true)

pub overflow_add-places : goal.overflow_add-places
overflow_add-places c =
    let count : c.len-count.result ≡ length c.index-slots-at.result.alternatives = search (rules, c.len-count.ensures, c.slot.view_is) in
    let less = place_below c.args.slots.now c.args.places.now c.loop-at.places c.loop-at.at c.index-slots-at.result c.len-count.result c.requires.within
    c.loop-at-test.true c.loop-at.invariant.1.1 c.index-slots-at.is c.loop-at.invariant.1.0 c.loop-at.invariant.0 count in
    omega (arith, less, c.len-count.type_inv)

pub bounds-places-at-then-places-at : goal.bounds-places-at-then-places-at
bounds-places-at-then-places-at c =
    let long = long_as _ _ c.requires.within in omega (arith, long, c.loop-at.auto.places, c.loop-at.invariant.1.1, c.loop-at-test.true)

pub bounds-places-at-then-places-at-2 : goal.bounds-places-at-then-places-at-2
bounds-places-at-then-places-at-2 c =
    let long = long_as _ _ c.requires.within in omega (arith, long, c.loop-at.auto.places, c.loop-at.invariant.1.1, c.loop-at-test.true)

pub returns-then-places-at : goal.returns-then-places-at
returns-then-places-at c =
    let count : c.len-count.result ≡ length c.index-slots-at.result.alternatives = search (rules, c.len-count.ensures, c.slot.view_is) in
    moved_at c.args.slots.now c.args.places.now c.loop-at.places c.loop-at.at c.index-slots-at.result c.len-count.result c.requires.within
    c.loop-at-test.true c.loop-at.invariant.1.1 c.index-slots-at.is c.loop-at.invariant.1.0 c.loop-at.invariant.0 count c.if-places-at.true
    (each_lawful c.args.slots.now c.requires.lawful)

pub bounds-places-at-in-loop-at : goal.bounds-places-at-in-loop-at
bounds-places-at-in-loop-at c =
    let long = long_as _ _ c.requires.within in omega (arith, long, c.loop-at.auto.places, c.loop-at.invariant.1.1, c.loop-at-test.true)

pub loop-at-preserved : goal.loop-at-preserved
loop-at-preserved c =
    let count : c.len-count.result ≡ length c.index-slots-at.result.alternatives = search (rules, c.len-count.ensures, c.slot.view_is) in
    back_at c.args.slots.now c.args.places.now c.loop-at.places c.loop-at.at c.index-slots-at.result c.len-count.result c.requires.within
    c.loop-at-test.true c.loop-at.invariant.1.1 c.index-slots-at.is c.loop-at.invariant.1.0 c.loop-at.invariant.0 count c.if-places-at.false
