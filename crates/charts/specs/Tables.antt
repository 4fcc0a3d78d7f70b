-- A table that has the cells of a run so far.
use Rattle.std.specs.Prelude.{◌≡◌, ◌<◌, ◌+◌, ◌*◌, ℕ, List, slice_index_or}
use Rattle.charts.specs.Signs.{Cells}
use Rattle.charts.specs.declared.cell.Cell.{Cell}
use Rattle.charts.specs.declared.rows.TheConstants.{ROWS}
use Rattle.charts.specs.declared.scale.TheConstants.{COLUMNS}

-- those of each row one after the other
abbrev pub HoldsCells : List Cell → Cells → Type 0
HoldsCells table cells = (r c : ℕ) (d : Cell) → r < ROWS → c < COLUMNS → slice_index_or table (r * COLUMNS + c) d ≡ cells r c
