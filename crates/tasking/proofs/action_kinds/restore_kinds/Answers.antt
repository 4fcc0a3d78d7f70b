use Rattle.std.proofs.Common.{◌≡◌, ◌+◌, ◌<◌, ◌≤◌, arith, length, refl, rules, sym, ◌∙◌}
use Rattle.std.proofs.lemmas.List.{get_or-map}
use Rattle.base.specs.declared.limits.TheConstants.{TASKS}
use Rattle.protected.proofs.Copying.{row_more, rows_whole}
use Rattle.tasking.proofs.action_kinds.restore_kinds.Goals as goal

pub loop-row-init : goal.loop-row-init
loop-row-init c = (refl, c.told-kinds)

pub loop-row-preserved : goal.loop-row-preserved
loop-row-preserved c =
    let l = c.loop-row in
    let row = c.index-others-row.result in
    let less : l.row < TASKS + 1 = search (rules, c.loop-row-test.true) in
    let long : length c.args.others.now ≡ TASKS + 1 = search (rules, c.type_inv.others) in
    row_more (λ r. r.items) (TASKS + 1) l.row c.args.others.now l.kinds c.put_kinds.new.kinds row.items c.as_slice.result.now less long l.invariant.1 l.invariant.0
    (c.as_slice.ensures.value ∙ sym (get_or-map (λ r. r.items) c.args.others.now l.row row row.items (omega (arith, less, long)))) c.put_kinds.ensures

pub returns : goal.returns
returns c =
    let l = c.loop-row in
    let past = c.loop-row-test.false in
    let passed : TASKS + 1 ≤ l.row = omega (arith, past) in
    let long : length c.args.others.now ≡ TASKS + 1 = search (rules, c.type_inv.others) in
    rows_whole (λ r. r.items) (TASKS + 1) l.row c.args.others.now l.kinds passed long l.invariant.1 l.invariant.0
