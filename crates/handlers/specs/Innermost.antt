-- The handler that takes an exception: the innermost row that covers the place and handles it (docs/FORMATS.md, "Handlers"; RM 11.4).
use Rattle.std.specs.Prelude.{ℕ, ◌-◌, List, [], ◌∷◌, Bool, ◌&&◌, ◌||◌, Option, Some, None, nat_eq, nat_le, nat_lt, if◌then◌else◌}
use Rattle.handlers.specs.declared.rows.Row.{Row}

abbrev pub covers : ℕ → Row → Bool
covers place r = nat_le r.start place && nat_lt place r.end_

-- a row for exception 0 handles all
abbrev pub handles : ℕ → Row → Bool
handles exception r = nat_eq r.exception 0 || nat_eq r.exception exception

-- how many places the row covers
abbrev pub width : Row → ℕ
width r = r.end_ - r.start

-- the row with the shorter region, the first of two equal ones
abbrev pub inner_of : Row → Option Row → Row
inner_of r None = r
inner_of r (Some q) = if nat_le (width r) (width q) then r else q

-- the row with the shorter region, where it comes after one that was found
abbrev pub inside : Option Row → Row → Row
inside None r = r
inside (Some q) r = inner_of q (Some r)

-- of the rows that cover the place and handle the exception, the one with the shortest region, the first of equal ones
abbrev pub innermost : List Row → ℕ → ℕ → Option Row
innermost [] place exception = None
innermost (r ∷ rows) place exception =
    if covers place r && handles exception r then Some (inner_of r (innermost rows place exception)) else innermost rows place exception

abbrev pub target_of : Option Row → Option ℕ
target_of None = None
target_of (Some r) = Some r.target

-- where an exception that is raised at the place goes on
abbrev pub handler_of : List Row → ℕ → ℕ → Option ℕ
handler_of rows place exception = target_of (innermost rows place exception)
