-- Values worked by computation: the operators on the signs and at the ends of the base range, and the input of a schedule.
use Rattle.std.proofs.Common.{◌≡◌, ℕ, ◌-◌, ◌^◌, List, [], ◌∷◌, ℤ, pos, negsuc, true, false, Ok, refl}
use Rattle.std.specs.Prelude.{int_rem}
use Rattle.base.specs.declared.schedule.ScheduleLine.{ScheduleLine}
use Rattle.base.specs.Arithmetic.{constraint_error, sum_of, difference_of, product_of, quotient_of, remainder_of, modulus_of, negation_of, absolute_of, int_mod}
use Rattle.base.specs.Schedule.{is_schedule, input}

-- the number below zero
abbrev minus : ℕ → ℤ
minus n = negsuc (n - 1)

abbrev first : ℤ
first = negsuc (2 ^ 63 - 1)

abbrev last : ℤ
last = pos (2 ^ 63 - 1)

-- 7 mod 3 is 1 and its negation -1, (-7) mod 3 is 2, (-7) rem 3 is -1, 7 mod (-3) is -2, 7 rem (-3) is 1, (-7) / 2 and 7 / (-2) are -3
mod_positive : modulus_of (pos 7) (pos 3) ≡ Ok (pos 1)
mod_positive = refl

mod_below : modulus_of (minus 7) (pos 3) ≡ Ok (pos 2)
mod_below = refl

rem_below : remainder_of (minus 7) (pos 3) ≡ Ok (minus 1)
rem_below = refl

mod_by_below : modulus_of (pos 7) (minus 3) ≡ Ok (minus 2)
mod_by_below = refl

rem_by_below : remainder_of (pos 7) (minus 3) ≡ Ok (pos 1)
rem_by_below = refl

mod_exact : modulus_of (minus 6) (pos 3) ≡ Ok (pos 0)
mod_exact = refl

quotient_below : quotient_of (minus 7) (pos 2) ≡ Ok (minus 3)
quotient_below = refl

quotient_by_below : quotient_of (pos 7) (minus 2) ≡ Ok (minus 3)
quotient_by_below = refl

-- the first value: mod and rem by -1 are 0, but the quotient by -1, the negation and the absolute value lie outside
first_mod : modulus_of first (minus 1) ≡ Ok (pos 0)
first_mod = refl

first_rem : remainder_of first (minus 1) ≡ Ok (pos 0)
first_rem = refl

first_quotient : quotient_of first (minus 1) ≡ constraint_error
first_quotient = refl

first_negation : negation_of first ≡ constraint_error
first_negation = refl

first_absolute : absolute_of first ≡ constraint_error
first_absolute = refl

last_negation : negation_of last ≡ Ok (negsuc (2 ^ 63 - 2))
last_negation = refl

-- a zero divisor raises
by_zero : quotient_of (pos 7) (pos 0) ≡ constraint_error
by_zero = refl

mod_by_zero : modulus_of (pos 7) (pos 0) ≡ constraint_error
mod_by_zero = refl

-- sums, differences and products at the ends
last_sum : sum_of last (pos 0) ≡ Ok last
last_sum = refl

over_last : sum_of last (pos 1) ≡ constraint_error
over_last = refl

under_first : difference_of first (pos 1) ≡ constraint_error
under_first = refl

product_of_signs : product_of first (minus 1) ≡ constraint_error
product_of_signs = refl

-- `mod` computed as `rem`
rem_refuted : int_rem (minus 7) (pos 3) ≡ int_mod (minus 7) (pos 3) → ⊥
rem_refuted e = let f : minus 1 ≡ pos 2 = e in cc

-- one line at 500: the channel is 0 before it, and has its value from then on
abbrev line : ℕ → ℕ → ℕ → ScheduleLine
line time channel value = record { time = pos time; channel = channel; value = pos value }

abbrev one_line : List ScheduleLine
one_line = line 500 1 7 ∷ []

before_line : input one_line 1 (pos 499) ≡ pos 0
before_line = refl

at_line : input one_line 1 (pos 500) ≡ pos 7
at_line = refl

after_line : input one_line 1 (pos 501) ≡ pos 7
after_line = refl

other_channel : input one_line 2 (pos 501) ≡ pos 0
other_channel = refl

-- of two lines of one time the later one holds
last_of_time : input (line 5 2 7 ∷ line 5 2 8 ∷ line 9 2 4 ∷ []) 2 (pos 5) ≡ pos 8
last_of_time = refl

ordered : is_schedule (line 500 1 7 ∷ line 500 1 8 ∷ []) ≡ true
ordered = refl

back_in_time : is_schedule (line 500 1 7 ∷ line 400 1 8 ∷ []) ≡ false
back_in_time = refl

no_such_channel : is_schedule (line 500 9 7 ∷ []) ≡ false
no_such_channel = refl
