use Rattle.std.proofs.Common.{arith, length, sym, ap, subst, ◌∙◌}
use Rattle.clock.specs.Heaps.{AreDistinct, by_number}
use Rattle.clock.proofs.Heaps.{take_front}
use Rattle.clock.proofs.Adding.{emptied, left_distinct, moved_same, one_taken}
use Rattle.clock.proofs.heap_delays.take_all.Goals as goal

pub push-requires : goal.push-requires
push-requires c = omega (arith, c.loop-entry.invariant.1, c.in-Some.ensures.left.1, c.requires.short)

pub loop-entry-smaller : goal.loop-entry-smaller
loop-entry-smaller c = omega (arith, c.in-Some.ensures.left.1)

pub loop-entry-preserved : goal.loop-entry-preserved
loop-entry-preserved c =
    let l = c.loop-entry in (
      one_taken c.args.heap.now l.entries.items c.push.new.self.items l.heap c.pop.new.self c.in-Some.entry l.invariant.0 c.in-Some.ensures.left.0 c.push.ensures.items,
      omega (arith, l.invariant.1, c.in-Some.ensures.left.1, c.push.ensures.len),
    )

pub sort-requires : goal.sort-requires
sort-requires c =
    let l = c.loop-entry in
    subst AreDistinct (sym c.as_mut_slice.ensures.value) (left_distinct c.args.heap.now l.entries.items l.heap l.invariant.0 c.requires.distinct)

pub returns-clause-taken : goal.returns-clause-taken
returns-clause-taken c =
    let l = c.loop-entry in
    take_front c.sort.new.entries _ _ (c.sort.ensures.long ∙ ap length c.as_mut_slice.ensures.value) ∙ c.sort.ensures.order ∙ ap by_number c.as_mut_slice.ensures.value
    ∙ sym (moved_same c.args.heap.now l.entries.items (emptied c.args.heap.now l.entries.items l.heap l.invariant.0 c.in_default.ensures.left.0) c.requires.distinct)
