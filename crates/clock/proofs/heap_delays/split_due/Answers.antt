use Rattle.std.proofs.Common.{rules, arith, [], ◌+◌, true, false, length, get_or, pos, sym, subst, ap, ◌≡◌, ◌∙◌, to_z, of_z, w64}
use Rattle.clock.specs.declared.heap.Entry.{Entry}
use Rattle.clock.specs.Heaps.{TakesAllDue, is_due_entry}
use Rattle.clock.proofs.Passing.{Parted, one_more_due, one_more_left, parted_all, parted_none}
use Rattle.clock.proofs.heap_delays.split_due.Goals as goal
use Rattle.clock.proofs.heap_delays.split_due.Goals.{then-entry-now, else-entry-now}

pub loop-entry-init : goal.loop-entry-init
loop-entry-init c =
    let now = to_z w64 (of_z w64 c.args.now) in
    let none = c.replace-all.ensures.after ∙ c.new.ensures in (
      subst (λ l. Parted now c.entries-entry-items.result.now 0 c.new-due.result.items l) (sym none)
          (subst (λ l. Parted now c.entries-entry-items.result.now 0 l []) (sym c.new-due.ensures) (parted_none now c.entries-entry-items.result.now)),
      search rules,
      omega (arith, ap length (c.entries-entry-items.ensures ∙ c.replace-all.ensures.value), c.requires),
    )

pub loop-entry-preserved : goal.loop-entry-preserved
loop-entry-preserved c =
    let l = c.loop-entry in
    let d : Entry = record { wake = pos 0; number = 0; task = 0 } in
    let es = c.entries-entry-items.result.now in
    let now = to_z w64 (of_z w64 c.args.now) in
    let less = c.loop-entry-test.true in
    elim c.if-entry-now.branch [
      | then-entry-now w ↦
          let is_due : is_due_entry now (get_or es l.entry-index d) ≡ true = search rules in (
            subst (λ h. Parted now es (l.entry-index + 1) c.if-entry-now.due.items h) (sym w.heap-is)
                (one_more_due now es l.entry-index d less l.due.items l.heap l.invariant.0 c.if-entry-now.due.items (ap (λ v. v.items) w.due-is
                ∙ w.push.ensures.items) is_due),
            search rules,
            l.invariant.2,
          )
      | else-entry-now w ↦
          let late : is_due_entry now (get_or es l.entry-index d) ≡ false = search rules in (
            subst (λ v. Parted now es (l.entry-index + 1) v.items c.if-entry-now.heap) (sym w.due-is)
                (subst (Parted now es (l.entry-index + 1) l.due.items) (sym w.heap-is)
                (one_more_left now es l.entry-index d less l.due.items l.heap l.invariant.0 w.push-else-entry-now.new.self
                w.push-else-entry-now.ensures.moved late)),
            search rules,
            l.invariant.2,
          )
    ]

pub returns : goal.returns
returns c =
    let time : to_z w64 (of_z w64 c.args.now) ≡ c.args.now = search rules in
    subst (λ n. TakesAllDue n c.args.heap.now c.loop-entry.heap c.loop-entry.due.items) time
    (parted_all (to_z w64 (of_z w64 c.args.now)) c.entries-entry-items.result.now c.loop-entry.entry-index c.loop-entry.due.items c.loop-entry.heap
    c.args.heap.now c.loop-entry.invariant.0 c.loop-entry-test.false
    (c.entries-entry-items.ensures ∙ c.replace-all.ensures.value))
