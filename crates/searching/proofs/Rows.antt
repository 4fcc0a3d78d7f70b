-- The rows that a table keeps by their digests.
use Rattle.std.proofs.Common.{ℕ, zero, suc, ◌<◌, Bool, true, false, if◌then◌else◌, List, [], ◌∷◌, get_or, length, sym, subst, arith}
use Rattle.std.specs.List.{IsAmong}
use Rattle.std.specs.Map.{values_of}
use Rattle.choices.specs.Slots.{Slot}
use Rattle.choices.specs.declared.part.Part.{Part}
use Rattle.image.specs.Sections.{Sections}
use Rattle.indexmap.specs.IndexMap.{insert_entry}
use Rattle.searching.specs.Following.{AreKeptRows, IsRow, KeptRow}

module _ (i : Sections) (slots : List Slot) (part : Part) where
  row_at : (rows : List KeptRow) (number : ℕ) (d : KeptRow) → number < length rows → AreKeptRows i slots part rows → IsRow i slots part (get_or rows number d)
  row_at [] number d lt all = absurd (omega (arith, lt))
  row_at (r ∷ rows) zero d lt all = all.0
  row_at (r ∷ rows) (suc number) d lt all = row_at rows number d (omega (arith, lt)) all.1

  pub row_among : (rows : List KeptRow) (r : KeptRow) → IsAmong rows r → AreKeptRows i slots part rows → IsRow i slots part r
  row_among rows r among all = subst (IsRow i slots part) (sym among.1.1) (row_at rows among.0 r among.1.0 all)

  -- a row that is put in goes last, or takes the place of one with the same digest
  pub rows_with : (eq : ℕ → ℕ → Bool) (es : List (ℕ × KeptRow)) (digest : ℕ) (r : KeptRow) → AreKeptRows i slots part (values_of es) → IsRow i slots part r
      → AreKeptRows i slots part (values_of (insert_entry eq es digest r))
  rows_with eq [] digest r all is = (is, tt)
  rows_with eq (e ∷ es) digest r all is = by (eq digest e.0) (rows_with eq es digest r all.1 is)
    where
      by : (b : Bool) → AreKeptRows i slots part (values_of (insert_entry eq es digest r))
          → AreKeptRows i slots part (values_of (if b then (e.0, r) ∷ es else e ∷ insert_entry eq es digest r))
      by true rest = (is, all.1)
      by false rest = (all.0, rest)
