-- A sweep over rows in the order of their starts, which serves proofs: the ends of the regions that are open, the innermost last.
use Rattle.std.specs.Prelude.{ℕ, ◌-◌, List, [], ◌∷◌, ◌++◌, length, take, slice_get, Bool, true, ◌&&◌, Option, Some, None, nat_le}
use Rattle.std.specs.List.{suffix_len}
use Rattle.handlers.specs.declared.rows.Row.{Row}

-- without those that end at or before the place, from the innermost on
abbrev pub closed : ℕ → List ℕ → List ℕ
closed place around = take (length around - suffix_len (λ e. nat_le e place) around) around

abbrev pub reaches : Option ℕ → ℕ → Bool
reaches None end_ = true
reaches (Some e) end_ = nat_le end_ e

-- the innermost region, where one is open, reaches to that end
abbrev pub holds : List ℕ → ℕ → Bool
holds around end_ = reaches (slice_get around (length around - 1)) end_

-- each row lies in the innermost region that is open at its start
abbrev pub sweeps : List ℕ → List Row → Bool
sweeps around [] = true
sweeps around (r ∷ rows) = holds (closed r.start around) r.end_ && sweeps (closed r.start around ++ r.end_ ∷ []) rows
