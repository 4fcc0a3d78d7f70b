-- The table of holders as it is made, subprogram by subprogram; it serves proofs.
use Rattle.std.specs.Prelude.{ℕ, ◌+◌, ◌-◌, List, [], ◌∷◌, ◌++◌, length, replicate}

-- the places up to an end that had no number have this one
abbrev pub held_up_to : List ℕ → ℕ → ℕ → List ℕ
held_up_to numbers end_ number = numbers ++ replicate (end_ - length numbers) number

-- the table behind these subprograms, the first of them with this number
abbrev pub held : ℕ → List ℕ → List ℕ → List ℕ
held number numbers [] = numbers
held number numbers (e ∷ ends) = held (number + 1) (held_up_to numbers e number) ends
