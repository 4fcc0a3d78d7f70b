-- Handler rows and the subprograms that they lie in.
use Rattle.std.specs.Prelude.{◌≡◌, ℕ, ◌-◌, List, Bool, false, ◌&&◌, Option, Some, nat_eq, nat_lt, position}
use Rattle.std.specs.List.{Any, list_all}
use Rattle.handlers.specs.declared.rows.Row.{Row}

-- a table: its rows, and the place after the last instruction of each subprogram
pub record Handlers : Type 0 where
  pub rows : List Row
  pub ends : List ℕ

-- the number of the subprogram that holds the place: of the first one that ends after it; none holds a place past the last end
abbrev pub subprogram_at : List ℕ → ℕ → Option ℕ
subprogram_at ends place = position (λ e. nat_lt place e) ends

abbrev pub are_same : Option ℕ → Option ℕ → Bool
are_same (Some m) (Some n) = nat_eq m n
are_same _ _ = false

-- one subprogram holds both places
abbrev pub share_subprogram : List ℕ → ℕ → ℕ → Bool
share_subprogram ends p q = are_same (subprogram_at ends p) (subprogram_at ends q)

-- the row covers at least one place, and what it covers and its target lie in one subprogram
abbrev pub is_within_one : List ℕ → Row → Bool
is_within_one ends r = nat_lt r.start r.end_ && (share_subprogram ends r.start (r.end_ - 1) && share_subprogram ends r.start r.target)

abbrev pub are_within_one : List ℕ → List Row → Bool
are_within_one ends rows = list_all (is_within_one ends) rows

-- some row of the subprogram that holds the place leads to the target
abbrev pub LeadsWithin : Handlers → ℕ → ℕ → Type 0
LeadsWithin h place target =
    Any (λ r. (subprogram_at h.ends r.start ≡ subprogram_at h.ends place) × (r.target ≡ target)) h.rows
