-- Tables in which one cell has changed.
use Rattle.std.proofs.Common.{◌≡◌, ◌≢◌, ◌<◌, ◌+◌, ◌*◌, ◌⊎◌, ⊎_elim, ℕ, true, false, List, ◌&&◌, length, refl, sym, ap, subst, ◌∙◌, arith, Some}
use Rattle.std.proofs.lemmas.Bool.Decides.{eqb_tells}
use Rattle.std.proofs.lemmas.List.{get_or-set_other, get_or-set_same, get_or-replicate}
use Rattle.std.specs.Prelude.{nat_eq, replicate, slice_index_or, slice_set, if◌then◌else◌}
use Rattle.charts.specs.Cells.{no_signs, noted}
use Rattle.charts.specs.Signs.{Cells, nothing_seen, row_number, with_note}
use Rattle.charts.specs.Tables.{HoldsCells}
use Rattle.charts.specs.declared.cell.Cell.{Cell}
use Rattle.charts.specs.declared.rows.TheConstants.{ROWS}
use Rattle.charts.specs.declared.scale.TheConstants.{COLUMNS}
use Rattle.charts.specs.declared.signs.Note.{Note}
use Rattle.charts.specs.declared.table.TheConstants.{CELLS}

-- a place of the table is that of one row and one column
same_row : (r c u k : ℕ) → c < COLUMNS → k < COLUMNS → r * COLUMNS + c ≡ u * COLUMNS + k → r ≡ u
same_row r c u k less there is = omega (arith, less, there, is)

same_column : (r c u k : ℕ) → c < COLUMNS → k < COLUMNS → r * COLUMNS + c ≡ u * COLUMNS + k → c ≡ k
same_column r c u k less there is = omega (arith, less, there, is)

within : (r c : ℕ) → r < ROWS → c < COLUMNS → r * COLUMNS + c < CELLS
within r c row column = omega (arith, row, column)

module _ (table : List Cell) (cells : Cells) (column : ℕ) (note : Note) (x : Cell) (long : length table ≡ CELLS) (is : HoldsCells table cells) (less : column < COLUMNS) (row : row_number note.row < ROWS) (new : x ≡ noted note.sign (cells (row_number note.row) column)) where
  abbrev u : ℕ
  u = row_number note.row

  other : (r c : ℕ) (d : Cell) → r < ROWS → c < COLUMNS → r * COLUMNS + c ≢ u * COLUMNS + column → (nat_eq r u && nat_eq c column) ≡ false → slice_index_or (slice_set table (u * COLUMNS + column) x) (r * COLUMNS + c) d ≡ with_note column (Some note) cells r c
  other r c d row_less column_less apart no_match =
      get_or-set_other table (u * COLUMNS + column) (r * COLUMNS + c) x d apart
      ∙ (is r c d row_less column_less ∙ ap (λ b. if b then noted note.sign (cells r c) else cells r c) (sym no_match))

  pub cell_set : HoldsCells (slice_set table (row_number note.row * COLUMNS + column) x) (with_note column (Some note) cells)
  cell_set r c d row_less column_less =
      ⊎_elim
      (λ (h : (nat_eq r u ≡ true) × (r ≡ u)).
      ⊎_elim
      (λ (k : (nat_eq c column ≡ true) × (c ≡ column)).
      (λ j. slice_index_or (slice_set table (u * COLUMNS + column) x) (h.1 j * COLUMNS + k.1 j) d)
      ∙ (get_or-set_same table (u * COLUMNS + column) x d (subst (λ m. u * COLUMNS + column < m) (sym long) (within u column row less))
      ∙ (new
      ∙ ((λ j. noted note.sign (cells (sym h.1 j) (sym k.1 j))) ∙ (λ j. if sym h.0 j && sym k.0 j then noted note.sign (cells r c) else cells r c)))))
      (λ (k : (nat_eq c column ≡ false) × (c ≢ column)).
      other r c d row_less column_less (λ e. k.1 (same_column r c u column column_less less e)) (λ j. h.0 j && k.0 j))
      (eqb_tells c column))
      (λ (h : (nat_eq r u ≡ false) × (r ≢ u)). other r c d row_less column_less (λ e. h.1 (same_row r c u column column_less less e)) (λ j. h.0 j && nat_eq c column))
      (eqb_tells r u)

-- a table in which nothing is to be seen
pub none_seen : HoldsCells (replicate CELLS no_signs) nothing_seen
none_seen r c d row column = get_or-replicate CELLS (r * COLUMNS + c) no_signs d (within r c row column)
