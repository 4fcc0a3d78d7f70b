-- How many microseconds a column has, and in which column a time lies.
use Rattle.std.specs.Prelude.{ℕ, ◌-◌, ◌/◌, List, [], ◌∷◌, ℤ, min, nat_lt, unsigned_abs, if◌then◌else◌}
use Rattle.charts.specs.declared.scale.TheConstants.{COLUMNS, SCALES}

-- the first of these with which the run fits into the columns
abbrev pub least_scale : List ℕ → (last : ℕ) → ℕ
least_scale [] last = 1
least_scale (s ∷ scales) last = if nat_lt (last / COLUMNS) s then s else least_scale scales last

-- of a run up to this time: the least of 1, 2, 5, 10, 20, 50, ...
abbrev pub scale_of : (last : ℤ) → ℕ
scale_of last = least_scale SCALES (unsigned_abs last)

-- times are not negative, and no time of the run is beyond the columns
abbrev pub column : (scale : ℕ) → ℤ → ℕ
column scale time = min (unsigned_abs time / scale) (COLUMNS - 1)
