-- That the first row of a table of places that covers an instruction is that of the innermost statement or declaration; the contract of a public function.
use Rattle.std.specs.Prelude.{◌≡◌, ◌≤◌, ◌<◌, ℕ, List, None, Some, slice_get}
use Rattle.stmt_code.specs.Placing.{AreInnermostFirst, place_at}
use Rattle.stmt_code.specs.declared.tables.PlaceRow.{PlaceRow}

-- the instruction at this address is one of the row's
pub record CoversPlace (q : PlaceRow) (address : ℕ) : Type 0 where
  pub low : q.first ≤ address
  pub high : address < q.behind

-- it is one of this row's, which stands within each other row of which it is
pub record IsInnermostRow (table : List PlaceRow) (address : ℕ) (q : PlaceRow) : Type 0 where
  pub index : ℕ
  pub there : slice_get table index ≡ Some q
  pub covers : CoversPlace q address
  pub within : (n : ℕ) (r : PlaceRow) → slice_get table n ≡ Some r → CoversPlace r address → (r.first ≤ q.first) × (q.behind ≤ r.behind)

pub record PlacesAreInnermost : Type 0 where
  -- the place that is found is that of such a row
  pub found : (table : List PlaceRow) → AreInnermostFirst table → (address place : ℕ) → place_at table address ≡ Some place
      → (q : PlaceRow) × (q.place ≡ place) × IsInnermostRow table address q
  -- where none is found, the instruction is one of no row's
  pub missing : (table : List PlaceRow) (address : ℕ) → place_at table address ≡ None → (n : ℕ) (r : PlaceRow) → slice_get table n ≡ Some r
      → CoversPlace r address → ⊥
