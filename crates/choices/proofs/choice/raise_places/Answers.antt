use Rattle.std.proofs.Common.{arith, rules}
use Rattle.choices.proofs.Moving.{long_as}
use Rattle.choices.proofs.Raising.{raised_here}
use Rattle.choices.proofs.choice.raise_places.Goals as goal

pub overflow_sub-places : goal.overflow_sub-places
overflow_sub-places c =
    (raised_here c.args.slots.now c.args.front c.loop-at.at c.args.places.now c.loop-at.places c.index-slots-at.result c.len.result c.loop-at.invariant.0
    c.loop-at.invariant.1 c.loop-at-test.true c.index-slots-at.is (search (rules, c.len.ensures, c.slot.view_is))).0

pub bounds-places-at : goal.bounds-places-at
bounds-places-at c = let long = long_as c.args.slots.now c.loop-at.places c.loop-at.invariant.0.within in omega (arith, long, c.loop-at-test.true)

pub loop-at-preserved : goal.loop-at-preserved
loop-at-preserved c = (
  (raised_here c.args.slots.now c.args.front c.loop-at.at c.args.places.now c.loop-at.places c.index-slots-at.result c.len.result c.loop-at.invariant.0
      c.loop-at.invariant.1 c.loop-at-test.true c.index-slots-at.is (search (rules, c.len.ensures, c.slot.view_is))).1,
  omega (arith, c.loop-at.invariant.1),
)
