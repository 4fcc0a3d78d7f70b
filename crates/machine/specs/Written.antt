-- What writes take, and which of them fail.
use Rattle.std.specs.Prelude.{ℕ, zero, suc, ◌≤◌, List, [], ◌∷◌, length, take, Option, Result, Ok, Err}
use Rattle.std.specs.Io.KnownBytes.{Appends}

-- how many bytes a write took
abbrev pub taken : {E : Type 0} → Result ℕ E → ℕ
taken (Ok count) = count
taken (Err e) = 0

-- 1 for a piece that isn't empty, and 0 for the empty one
abbrev pub one_if_any : List ℕ → ℕ
one_if_any [] = 0
one_if_any (b ∷ piece) = 1

abbrev pub failures_of_count : List ℕ → ℕ → ℕ
failures_of_count piece zero = one_if_any piece
failures_of_count piece (suc n) = 0

-- 1 where the write of the piece failed: by an error, or by an answer of 0 though there was something to take
abbrev pub failures_of : {E : Type 0} → List ℕ → Result ℕ E → ℕ
failures_of piece (Ok count) = failures_of_count piece count
failures_of piece (Err e) = 1

-- known bytes grow by a beginning of the piece
abbrev pub AppendsBeginning : Option (List ℕ) → Option (List ℕ) → List ℕ → Type 0
AppendsBeginning old new piece = (count : ℕ) × (count ≤ length piece) × Appends old new (take count piece)
