use Rattle.std.proofs.Common.{arith, true}
use Rattle.std.proofs.lemmas.List.Sorted.{IsPermutation-trans}
use Rattle.clock.specs.Heaps.{is_before, parent}
use Rattle.clock.proofs.Heaps.{at_any, order, rise_goes_on}
use Rattle.clock.proofs.heap.lift_last.Goals as goal

pub loop-at-preserved : goal.loop-at-preserved
loop-at-preserved c =
    let l = c.loop-at in
    let before = at_any is_before order l.entries l.at (parent l.at) _ true c.is_before.result l.invariant.0 (omega (arith, l.invariant.0)) c.is_before.ensures c.if-not-is_before.false in (
      omega (arith, l.invariant.0, c.swap.ensures.len),
      omega (arith, l.invariant.1, c.swap.ensures.len),
      IsPermutation-trans _ _ _ l.invariant.2 c.swap.ensures.permutation,
      rise_goes_on is_before order l.entries c.swap.new.self l.at (omega arith) l.invariant.0 c.swap.ensures.len c.swap.ensures.by_index before l.invariant.3,
    )
