-- Which rows stand in a table together: regions of any two are nested, equal or disjoint (docs/FORMATS.md, "Handlers").
use Rattle.std.specs.Prelude.{◌≡◌, ◌⊎◌, ◌<◌, ℕ, List, [], ◌∷◌, length, take, slice_get, Bool, true, false, ◌&&◌, ◌||◌, not, Option, Some, None, nat_le, min}
use Rattle.std.specs.List.{list_all}
use Rattle.base.specs.declared.faults.TheConstants.{MEMORY_REFUSED, TABLES_DISAGREE}
use Rattle.handlers.specs.Handlers.{are_within_one, is_within_one}
use Rattle.handlers.specs.declared.rows.Row.{Row}
use Rattle.handlers.specs.declared.rows.TableFault.{TableFault}

-- one region lies in the other, they are the same, or they don't meet
abbrev pub are_nested : Row → Row → Bool
are_nested r q =
    (nat_le r.start q.start && nat_le q.end_ r.end_)
    || ((nat_le q.start r.start && nat_le r.end_ q.end_) || (nat_le r.end_ q.start || nat_le q.end_ r.start))

abbrev pub all_nested : List Row → Bool
all_nested [] = true
all_nested (r ∷ rows) = list_all (are_nested r) rows && all_nested rows

-- the rows that make a table
abbrev pub are_sound : List ℕ → List Row → Bool
are_sound ends rows = are_within_one ends rows && all_nested rows

-- the option is there and passes the test
abbrev pub some_and : Option Row → (Row → Bool) → Bool
some_and None test = false
some_and (Some r) test = test r

-- the row crosses one of those before it
abbrev pub crosses_one : List Row → Row → Bool
crosses_one before r = not (list_all (are_nested r) before)

-- row k crosses a row before it
abbrev pub crosses_at : List Row → ℕ → Bool
crosses_at rows k = some_and (slice_get rows k) (crosses_one (take k rows))

-- row k breaks a rule by itself, or together with a row before it
abbrev pub is_broken_at : List ℕ → List Row → ℕ → Bool
is_broken_at ends rows k = some_and (slice_get rows k) (λ r. not (is_within_one ends r) || crosses_one (take k rows) r)

-- the first of n numbers that passes the test, or none of them does
abbrev pub IsFirst : (ℕ → Bool) → ℕ → Option ℕ → Type 0
IsFirst test n None = (k : ℕ) → k < n → test k ≡ false
IsFirst test n (Some m) = (m < n) × (test m ≡ true) × ((k : ℕ) → k < m → test k ≡ false)

-- the lesser of two numbers of which either may be missing
abbrev pub lesser_of : Option ℕ → Option ℕ → Option ℕ
lesser_of (Some m) (Some n) = Some (min m n)
lesser_of None n = n
lesser_of m None = m

-- memory was refused
abbrev pub memory_fault : TableFault
memory_fault = record { number = MEMORY_REFUSED; row = 0 }

-- memory was refused, or the row is the first one that breaks a rule
abbrev pub RefusesRows : List ℕ → List Row → TableFault → Type 0
RefusesRows ends rows fault =
    (fault ≡ memory_fault) ⊎ ((fault.number ≡ TABLES_DISAGREE) × IsFirst (is_broken_at ends rows) (length rows) (Some fault.row))
