-- The number of choices of a set in decimal, however large.
use Rattle.std.specs.Prelude.{ℕ, zero, suc, ◌+◌, List, map, reverse, codes}
use Rattle.std.specs.Int.Digits.{digits_of}

-- a number in decimal, without a leading zero
abbrev pub number_text : ℕ → List ℕ
number_text zero = codes "0"
number_text (suc n) = map (λ d. d + 48) (digits_of 10 (suc n))

-- its digits, the least first; 0 has none
abbrev pub row_of : ℕ → List ℕ
row_of n = reverse (digits_of 10 n)
