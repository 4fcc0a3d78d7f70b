use Rattle.std.proofs.Common.{rules, arith, length, map, ap, pos, take, get_or, [], ◌∷◌, ◌++◌, ◌∙◌}
use Rattle.clock.specs.declared.heap.Entry.{Entry}
use Rattle.std.proofs.lemmas.List.{take_all}
use Rattle.clock.specs.Heaps.{sleeper_of}
use Rattle.clock.proofs.Adding.{begins_empty, length_by_number, length_sleepers, next_taken, one_more_sleeper}
use Rattle.clock.proofs.heap_delays.number_anew.Goals as goal

pub loop-entry-init : goal.loop-entry-init
loop-entry-init c = begins_empty c.take_all-entries.new.heap c.take_all-entries.ensures.none

pub loop-entry-preserved : goal.loop-entry-preserved
loop-entry-preserved c =
    let l = c.loop-entry in
    let items = c.as_slice-entry-items.result.now in
    let d : Entry = record { wake = pos 0; number = 0; task = 0 } in
    let more = one_more_sleeper l.heap c.push.new.self _ _ c.push.ensures.moved l.invariant.3 l.invariant.0 in (
      more.0 ∙ ap (λ w. map sleeper_of (take l.entry-index items) ++ record { task = (get_or items l.entry-index d).task; wake = w } ∷ []) (search rules) ∙ next_taken items l.entry-index d c.loop-entry-test.true,
      omega (arith, l.invariant.1, c.push.ensures.long),
      omega (arith, l.invariant.2),
      more.1,
    )

pub returns-clause-same : goal.returns-clause-same
returns-clause-same c =
    c.loop-entry.invariant.0
    ∙ ap (map sleeper_of) (take_all c.loop-entry.entry-index c.as_slice-entry-items.result.now c.loop-entry-test.false
    ∙ c.as_slice-entry-items.ensures.value ∙ c.take_all-entries.ensures.taken)

pub returns-clause-long : goal.returns-clause-long
returns-clause-long c =
    let items = ap length (c.as_slice-entry-items.ensures.value ∙ c.take_all-entries.ensures.taken) in
    omega (arith, c.loop-entry.invariant.1, c.loop-entry.auto.entry-index-end, c.loop-entry-test.false, items, length_by_number c.args.heap.now)

pub returns-clause-count : goal.returns-clause-count
returns-clause-count c =
    let items = ap length (c.as_slice-entry-items.ensures.value ∙ c.take_all-entries.ensures.taken) in
    omega (arith, c.loop-entry.invariant.2, c.loop-entry.auto.entry-index-end, c.loop-entry-test.false, items, length_by_number c.args.heap.now, length_sleepers c.args.heap.now)
