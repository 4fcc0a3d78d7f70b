-- The code of a function with its row of places: it keeps the rules of images as it did without.
use Rattle.std.proofs.Common.{◌≡◌, ℕ, Bool, [], ◌∷◌, ◌++◌, sym, ap, ◌∙◌, subst}
use Rattle.expr_code.specs.Code.{here}
use Rattle.expr_code.specs.declared.visible.Visible.{Visible}
use Rattle.stmt_code.specs.CodeTables.{TablesValue}
use Rattle.stmt_code.specs.Subprograms.{KeepsRules}
use Rattle.stmt_code.specs.declared.draft.Draft.{Draft}
use Rattle.stmt_code.specs.declared.subprogram.SubprogramWords.{SubprogramWords}
use Rattle.stmt_code.proofs.RowsAdded.{rows_marked}

-- with these rows
abbrev with_rows : Draft → TablesValue → Draft
with_rows mid rows = record mid { rows = rows }

-- a row was added, whose fields are these
abbrev pub with_place : Draft → (first behind place : ℕ) → Draft
with_place mid first behind place =
    record mid { rows = record mid.rows { places = mid.rows.places ++ record { first = first; behind = behind; place = place } ∷ [] } }

pub marked_so : (mid : Draft) (rows : TablesValue) (first behind place a b p : ℕ) → rows ≡ (with_place mid first behind place).rows
    → first ≡ a → behind ≡ b → place ≡ p → record mid { rows = rows } ≡ with_place mid a b p
marked_so mid rows first behind place a b p is one two three = ap (with_rows mid) is ∙ same
  where
    same : with_place mid first behind place ≡ with_place mid a b p
    same = λ j. with_place mid (one j) (two j) (three j)

pub keeps_marked : (stores : Bool) (v : Visible) (old mid new : Draft) (words : SubprogramWords) (place : ℕ) → KeepsRules stores v old words mid
    → new ≡ with_place mid (here old.code) (here mid.code) place → KeepsRules stores v old words new
keeps_marked stores v old mid new words place p is = subst (KeepsRules stores v old words) (sym is) (record {
  extends = p.extends;
  labels = p.labels;
  few = p.few;
  rows = rows_marked old mid place p.rows p.extends.longer;
  passed = p.passed;
  fits = p.fits;
  last = p.last;
  up = p.up;
  end = p.end;
  returns = p.returns;
  flows = p.flows;
})
