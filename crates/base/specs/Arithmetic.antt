-- Arithmetic of the integer base range -2**63 .. 2**63 - 1 (RM 3.5.4, 4.5): a value of the range, or Constraint_Error.
use Rattle.std.specs.Prelude.{zero, suc, ◌^◌, ℤ, pos, negsuc, ◌+ℤ◌, ◌-ℤ◌, ◌*ℤ◌, neg_ℤ, unsigned_abs, int_div, int_rem, Bool, true, false, nat_lt, Result, Ok, Err, if◌then◌else◌}
use Rattle.base.specs.declared.exceptions.PredefinedException.{PredefinedException}
use Rattle.base.specs.declared.exceptions.PredefinedException.TheVariants.{ConstraintError}

-- `negsuc n` is -(n + 1)
abbrev pub is_in_base_range : ℤ → Bool
is_in_base_range (pos n) = nat_lt n (2 ^ 63)
is_in_base_range (negsuc n) = nat_lt n (2 ^ 63)

abbrev pub Checked : Type 0
Checked = Result ℤ PredefinedException

abbrev pub constraint_error : Checked
constraint_error = Err ConstraintError

abbrev pub in_range : ℤ → Checked
in_range z = if is_in_base_range z then Ok z else constraint_error

-- a zero divisor raises
abbrev pub by : (ℤ → ℤ → ℤ) → ℤ → ℤ → Checked
by f x (pos zero) = constraint_error
by f x (pos (suc n)) = in_range (f x (pos (suc n)))
by f x (negsuc n) = in_range (f x (negsuc n))

abbrev pub sum_of : ℤ → ℤ → Checked
sum_of x y = in_range (x +ℤ y)

abbrev pub difference_of : ℤ → ℤ → Checked
difference_of x y = in_range (x -ℤ y)

abbrev pub product_of : ℤ → ℤ → Checked
product_of x y = in_range (x *ℤ y)

abbrev pub negation_of : ℤ → Checked
negation_of x = in_range (neg_ℤ x)

abbrev pub absolute_of : ℤ → Checked
absolute_of x = in_range (pos (unsigned_abs x))

-- the quotient toward zero (RM 4.5.5)
abbrev pub quotient_of : ℤ → ℤ → Checked
quotient_of x y = by int_div x y

-- the remainder of that quotient, with the sign of x (RM 4.5.5)
abbrev pub remainder_of : ℤ → ℤ → Checked
remainder_of x y = by int_rem x y

-- whether one is positive and the other negative
abbrev pub differ_in_sign : ℤ → ℤ → Bool
differ_in_sign (pos zero) y = false
differ_in_sign (pos (suc m)) (pos n) = false
differ_in_sign (pos (suc m)) (negsuc n) = true
differ_in_sign (negsuc m) (pos zero) = false
differ_in_sign (negsuc m) (pos (suc n)) = true
differ_in_sign (negsuc m) (negsuc n) = false

-- what differs from x by a multiple of y, is smaller than y in absolute value, and is 0 or has the sign of y (RM 4.5.5)
abbrev pub int_mod : ℤ → ℤ → ℤ
int_mod x y = if differ_in_sign (int_rem x y) y then int_rem x y +ℤ y else int_rem x y

abbrev pub modulus_of : ℤ → ℤ → Checked
modulus_of x y = by int_mod x y
