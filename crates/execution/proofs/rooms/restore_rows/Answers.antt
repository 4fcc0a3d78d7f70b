use Rattle.std.proofs.Common.{◌≡◌, ◌+◌, ◌<◌, arith, ap, length, length-set, subst, sym, take, ◌∙◌}
use Rattle.std.proofs.lemmas.List.{take_all}
use Rattle.processor.specs.Layout.{TaskRow}
use Rattle.execution.specs.Held.{RowsAreWide}
use Rattle.execution.proofs.Restoring.{rows_more}
use Rattle.execution.proofs.RowsOf.{wide_get, wide_set}
use Rattle.execution.proofs.rooms.restore_rows.Goals as goal

pub restore_row-requires-clause-there : goal.restore_row-requires-clause-there
restore_row-requires-clause-there c =
    let less = c.loop-at-test.true in
    let long = c.loop-at.invariant.1 in
    omega (arith, less, long)

pub restore_row-requires-clause-wide : goal.restore_row-requires-clause-wide
restore_row-requires-clause-wide c =
    let l = c.loop-at in
    let row : TaskRow = c.index-saved-at.result in
    let width : row.width ≡ c.requires.wide.0 =
    ap {A = TaskRow} (λ r. r.width) c.index-saved-at.is ∙ wide_get c.requires.wide.0 c.args.saved.now l.at row c.requires.wide.2 c.loop-at-test.true in
    subst (λ n. RowsAreWide n l.rows.items) (sym width) (l.invariant.2 c.requires.wide.0 c.requires.wide.1 c.requires.wide.2)

pub loop-at-preserved : goal.loop-at-preserved
loop-at-preserved c =
    let l = c.loop-at in
    let saved = c.args.saved.now in
    let row : TaskRow = c.index-saved-at.result in
    let less : l.at < length saved = c.loop-at-test.true in
    let long = l.invariant.1 in (
      subst (λ x. take (l.at + 1) x ≡ take (l.at + 1) saved) (sym c.restore_row.ensures)
          (rows_more l.at l.rows.items saved row (omega (arith, less, long)) less l.invariant.0 c.index-saved-at.is),
      ap length c.restore_row.ensures ∙ (length-set l.rows.items l.at row ∙ long),
      λ width old kept.
          subst (RowsAreWide width) (sym c.restore_row.ensures)
          (wide_set width l.rows.items l.at row (l.invariant.2 width old kept)
          (ap {A = TaskRow} (λ r. r.width) c.index-saved-at.is ∙ wide_get width saved l.at row kept less)),
    )

pub returns : goal.returns
returns c =
    let l = c.loop-at in
    let past = c.loop-at-test.false in
    let long = l.invariant.1 in
    sym (take_all l.at l.rows.items (omega (arith, past, long))) ∙ (l.invariant.0 ∙ take_all l.at c.args.saved.now past)
