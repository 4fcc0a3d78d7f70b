use Rattle.std.proofs.Common.{◌≡◌, ◌∙◌, ◌+◌, ap, arith, suc, ◌||◌}
use Rattle.charts.specs.Text.{acts}
use Rattle.charts.specs.declared.scale.TheConstants.{COLUMNS}
use Rattle.charts.proofs.text.acts.Goals as goal

pub loop-column-preserved : goal.loop-column-preserved
loop-column-preserved c shown is =
    let column = c.loop-column.column in
    let row = shown c.args.row in
    let cell : c.cell_at-cell.result ≡ row column = c.cell_at-cell.ensures shown is in
    let at : suc column ≡ column + 1 = omega arith in
    c.either-acts.ensures ∙ (λ j. c.loop-column.invariant shown is j || (cell j).acts) ∙ ap (acts row) at

pub returns : goal.returns
returns c shown is =
    let low = c.loop-column.auto.column-end in
    let high = c.loop-column-test.false in
    let all : c.loop-column.column ≡ COLUMNS = omega (arith, low, high) in
    c.loop-column.invariant shown is ∙ ap (acts (shown c.args.row)) all
