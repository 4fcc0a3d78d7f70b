use Rattle.std.proofs.Common.{◌≡◌, ◌∙◌, ap, arith}
use Rattle.std.specs.Prelude.{replicate}
use Rattle.charts.specs.declared.table.TheConstants.{CELLS}
use Rattle.charts.proofs.table.cells_of.Goals as goal

pub returns : goal.returns
returns c =
    let low = c.loop-count.invariant.1 in
    let high = c.loop-count-test.false in
    let at : c.loop-count.count ≡ CELLS = omega (arith, low, high) in
    c.loop-count.invariant.0 ∙ ap (λ n. replicate n c.args.cell) at
