-- Rows that are put together, worked by computation.
use Rattle.std.proofs.Common.{◌≡◌, ℕ, List, [], ◌∷◌, ◌++◌, Some, None, true, false, refl}
use Rattle.handlers.specs.declared.rows.Row.{Row}
use Rattle.handlers.specs.Innermost.{handler_of}
use Rattle.handlers.specs.Nesting.{are_sound, is_broken_at}

abbrev row : ℕ → ℕ → ℕ → ℕ → Row
row start end_ exception target = record { start = start; end_ = end_; exception = exception; target = target }

-- a block from 2 to 6 that handles exceptions 1 and 2, the block around it for all others, and one beside it
abbrev inner : List Row
inner = row 2 6 1 10 ∷ row 2 6 2 11 ∷ []

abbrev outer : List Row
outer = row 0 8 0 12 ∷ []

abbrev beside : List Row
beside = row 8 9 0 13 ∷ []

inner_handles : handler_of (beside ++ (inner ++ outer)) 3 2 ≡ Some 11
inner_handles = refl

outer_handles : handler_of (beside ++ (inner ++ outer)) 3 3 ≡ Some 12
outer_handles = refl

outer_covers : handler_of (inner ++ (beside ++ outer)) 6 2 ≡ Some 12
outer_covers = refl

none_handles : handler_of (inner ++ (outer ++ beside)) 9 2 ≡ None
none_handles = refl

-- a longer region may come first
longer_first : handler_of (outer ++ inner) 3 2 ≡ Some 11
longer_first = refl

-- of equal regions the first one is taken
equal_after : handler_of (inner ++ row 2 6 2 14 ∷ []) 3 2 ≡ Some 11
equal_after = refl

equal_before : handler_of (row 2 6 2 14 ∷ inner) 3 2 ≡ Some 14
equal_before = refl

-- A table of two subprograms, which end at 24 and 40: lookups by hand
abbrev two_ends : List ℕ
two_ends = 24 ∷ 40 ∷ []

abbrev table : List Row
table = row 0 12 0 20 ∷ row 3 8 5 14 ∷ row 3 8 0 16 ∷ row 24 30 1 36 ∷ []

makes_a_table : are_sound two_ends table ≡ true
makes_a_table = refl

exception_handled : handler_of table 4 5 ≡ Some 14
exception_handled = refl

others_handled : handler_of table 4 1 ≡ Some 16
others_handled = refl

outside_the_inner : handler_of table 8 5 ≡ Some 20
outside_the_inner = refl

behind_the_outer : handler_of table 12 5 ≡ None
behind_the_outer = refl

at_a_target : handler_of table 14 5 ≡ None
at_a_target = refl

in_the_second : handler_of table 26 1 ≡ Some 36
in_the_second = refl

other_exception : handler_of table 26 2 ≡ None
other_exception = refl

-- Rows that make no table, and the first one that breaks a rule
crossing : is_broken_at (20 ∷ []) (row 0 5 0 9 ∷ row 3 8 0 9 ∷ []) 1 ≡ true
crossing = refl

crossed_before : is_broken_at (20 ∷ []) (row 0 5 0 9 ∷ row 3 8 0 9 ∷ []) 0 ≡ false
crossed_before = refl

beside_each_other : are_sound (20 ∷ []) (row 0 5 0 9 ∷ row 5 8 0 9 ∷ row 0 5 1 9 ∷ []) ≡ true
beside_each_other = refl

covers_nothing : is_broken_at (20 ∷ []) (row 5 5 0 9 ∷ []) 0 ≡ true
covers_nothing = refl

region_in_two : is_broken_at two_ends (row 20 25 0 9 ∷ []) 0 ≡ true
region_in_two = refl

target_elsewhere : is_broken_at two_ends (row 20 24 0 24 ∷ []) 0 ≡ true
target_elsewhere = refl

-- no subprogram holds a place past the last end
behind_all_ends : is_broken_at two_ends (row 40 42 0 41 ∷ []) 0 ≡ true
behind_all_ends = refl

without_subprograms : are_sound [] [] ≡ true
without_subprograms = refl

row_without_subprograms : is_broken_at [] (row 0 1 0 0 ∷ []) 0 ≡ true
row_without_subprograms = refl
