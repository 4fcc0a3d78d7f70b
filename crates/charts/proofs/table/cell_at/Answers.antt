use Rattle.charts.proofs.table.cell_at.Goals as goal

pub returns : goal.returns
returns c shown is = is c.args.row c.args.column _ c.requires.row c.requires.column
