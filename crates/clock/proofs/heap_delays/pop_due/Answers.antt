use Rattle.std.proofs.Common.{rules, arith, subst, sym, true, ◌≡◌, ◌++◌, to_z, of_z, w64}
use Rattle.std.specs.List.Sorted.{IsPermutation}
use Rattle.clock.specs.Heaps.{IsNobodyDue, is_due_entry}
use Rattle.clock.proofs.Adding.{all_grown, one_taken}
use Rattle.clock.proofs.heap_delays.pop_due.Goals as goal

pub push-requires : goal.push-requires
push-requires c = omega (arith, c.loop-entry.invariant.1, c.in-Some.ensures.2, c.requires)

pub loop-entry-smaller : goal.loop-entry-smaller
loop-entry-smaller c = omega (arith, c.in-Some.ensures.2)

pub loop-entry-preserved : goal.loop-entry-preserved
loop-entry-preserved c =
    let l = c.loop-entry in (
      one_taken c.args.heap.now l.due.items c.push.new.self.items l.heap c.pop_due.new.self c.in-Some.entry l.invariant.0 c.in-Some.ensures.0
          c.push.ensures.items,
      omega (arith, l.invariant.1, c.in-Some.ensures.2, c.push.ensures.len),
      all_grown (is_due_entry (to_z w64 (of_z w64 c.args.now))) l.due.items c.push.new.self.items c.in-Some.entry l.invariant.2 c.in-Some.ensures.1
          c.push.ensures.items,
    )

pub returns : goal.returns
returns c =
    let l = c.loop-entry in
    let time : to_z w64 (of_z w64 c.args.now) ≡ c.args.now = search rules in
    record {
      moved = subst (λ h. IsPermutation c.args.heap.now (l.due.items ++ h)) (sym c.in_default.ensures.0) l.invariant.0;
      all_due = λ z has. subst (λ t. is_due_entry t z ≡ true) time (l.invariant.2 z has);
      nobody_due = subst (λ h. IsNobodyDue c.args.now h) (sym c.in_default.ensures.0) (subst (λ t. IsNobodyDue t l.heap) time c.in_default.ensures.1);
    }
