use Rattle.std.proofs.Common.{◌≡◌, ◌∙◌, ◌+◌, ap, arith, suc}
use Rattle.std.specs.Prelude.{unwrap_or}
use Rattle.charts.specs.Text.{cell_text, mark, rest_before}
use Rattle.charts.proofs.Pieces.{one_added}
use Rattle.charts.proofs.text.add_row.Goals as goal

pub loop-column-preserved : goal.loop-column-preserved
loop-column-preserved c shown is =
    let so_far = c.loop-column.invariant shown is in
    let column = c.loop-column.column in
    let row = shown c.args.row in
    let cell : c.cell_at-cell.result ≡ row column = c.cell_at-cell.ensures shown is in
    let at : suc column ≡ column + 1 = omega arith in
    let rest : c.unwrap_or-rest.result ≡ rest_before row (suc column) = c.unwrap_or-rest.ensures ∙ (λ j. unwrap_or (cell j).rests (so_far.1 j)) in
    let shows = c.mark.ensures ∙ (λ j. mark c.args.act.now (cell j) (rest j)) in (
      one_added _ _ _ (cell_text c.args.act.now row) column _ so_far.0 c.in_ok-extend_from_slice.ensures.items shows,
      rest ∙ ap (rest_before row) at,
    )
