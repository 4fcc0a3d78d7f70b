use Rattle.std.proofs.Common.{rules, length, sym, ap, subst, ◌≡◌, ◌∙◌, to_z, of_z, w64}
use Rattle.clock.specs.Heaps.{AreDistinct, TakesAllDue, by_number, is_due_entry}
use Rattle.clock.proofs.Adding.{failing_are, left_distinct, passing_are, right_distinct, right_within}
use Rattle.clock.proofs.Heaps.{take_front}
use Rattle.clock.proofs.Passing.{fewer_left}
use Rattle.clock.proofs.heap_delays.take_due.Goals as goal

pub sort-requires : goal.sort-requires
sort-requires c =
    let t = c.all_due-due.ensures in
    subst AreDistinct (sym c.as_mut_slice.ensures.value) (left_distinct c.args.heap.now c.all_due-due.result.items c.all_due-due.new.heap t.moved
    c.requires.distinct)

-- what was taken, by the time that was asked for
taken : (c : goal.After-due-2-1) → TakesAllDue c.args.now c.args.heap.now c.all_due-due.new.heap c.all_due-due.result.items
taken c =
    let time : to_z w64 (of_z w64 c.args.now) ≡ c.args.now = search rules in
    subst (λ n. TakesAllDue n c.args.heap.now c.all_due-due.new.heap c.all_due-due.result.items) time c.all_due-due.ensures

pub returns-clause-due : goal.returns-clause-due
returns-clause-due c =
    let t = taken c in
    take_front c.sort.new.entries _ _ (c.sort.ensures.long ∙ ap length c.as_mut_slice.ensures.value) ∙ c.sort.ensures.order
    ∙ ap by_number c.as_mut_slice.ensures.value
    ∙ passing_are (is_due_entry c.args.now) c.args.heap.now c.all_due-due.result.items c.all_due-due.new.heap t.moved c.requires.distinct t.all_due
    t.nobody_due

pub returns-clause-waiting : goal.returns-clause-waiting
returns-clause-waiting c =
    let t = taken c in
    failing_are (is_due_entry c.args.now) c.args.heap.now c.all_due-due.result.items c.all_due-due.new.heap t.moved c.requires.distinct t.all_due t.nobody_due

pub returns-clause-distinct : goal.returns-clause-distinct
returns-clause-distinct c =
    right_distinct c.args.heap.now c.all_due-due.result.items c.all_due-due.new.heap c.all_due-due.ensures.moved c.requires.distinct

pub returns-clause-within : goal.returns-clause-within
returns-clause-within c = right_within c.args.heap.now c.all_due-due.result.items c.all_due-due.new.heap c.all_due-due.ensures.moved

pub returns-clause-long : goal.returns-clause-long
returns-clause-long c = fewer_left c.args.now c.args.heap.now c.all_due-due.new.heap c.all_due-due.result.items (taken c)
