use Rattle.std.proofs.Common.{arith, false, true}
use Rattle.std.proofs.lemmas.List.Sorted.{IsPermutation-trans}
use Rattle.clock.specs.Heaps.{is_before}
use Rattle.clock.proofs.Heaps.{at_any, order, sink_goes_on, sink_rests}
use Rattle.clock.proofs.heap.sink_front.Goals as goal

pub returns-then-not-is_before-clause-heap : goal.returns-then-not-is_before-clause-heap
returns-then-not-is_before-clause-heap c =
    let l = c.loop-child in
    let first = c.in-Some.ensures in
    sink_rests is_before order l.entries l.at c.in-Some.child l.invariant.3 first
    (at_any is_before order l.entries c.in-Some.child l.at _ false c.is_before.result first.2 (omega (arith, first.0, first.1, first.2)) c.is_before.ensures c.if-not-is_before.true)

pub loop-child-preserved : goal.loop-child-preserved
loop-child-preserved c =
    let l = c.loop-child in
    let first = c.in-Some.ensures in
    let before = at_any is_before order l.entries c.in-Some.child l.at _ true c.is_before.result first.2 (omega (arith, first.0, first.1, first.2)) c.is_before.ensures c.if-not-is_before.false in (
      omega (arith, first.2, c.swap.ensures.len),
      omega (arith, l.invariant.1, c.swap.ensures.len),
      IsPermutation-trans _ _ _ l.invariant.2 c.swap.ensures.permutation,
      sink_goes_on is_before order l.entries c.swap.new.self l.at c.in-Some.child c.swap.ensures.len c.swap.ensures.by_index first before l.invariant.3,
    )
