-- Rows of which a later one is the first that breaks a rule, worked by computation.
use Rattle.std.proofs.Common.{◌≡◌, ℕ, List, [], ◌∷◌, true, false, refl}
use Rattle.handlers.specs.declared.rows.Row.{Row}
use Rattle.handlers.specs.Nesting.{is_broken_at}

abbrev row : ℕ → ℕ → ℕ → ℕ → Row
row start end_ exception target = record { start = start; end_ = end_; exception = exception; target = target }

-- the second row covers nothing
abbrev empty_behind : List Row
empty_behind = row 0 9 0 9 ∷ row 5 5 0 9 ∷ []

first_is_sound : is_broken_at (20 ∷ []) empty_behind 0 ≡ false
first_is_sound = refl

second_covers_nothing : is_broken_at (20 ∷ []) empty_behind 1 ≡ true
second_covers_nothing = refl

-- two rows apart, one that crosses both, and one that covers nothing
abbrev four : List Row
four = row 6 9 0 1 ∷ row 0 4 0 1 ∷ row 2 8 0 1 ∷ row 1 1 0 1 ∷ []

none_before : is_broken_at (20 ∷ []) four 0 ≡ false
none_before = refl

apart : is_broken_at (20 ∷ []) four 1 ≡ false
apart = refl

crosses_both : is_broken_at (20 ∷ []) four 2 ≡ true
crosses_both = refl

broken_too : is_broken_at (20 ∷ []) four 3 ≡ true
broken_too = refl
