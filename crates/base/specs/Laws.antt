-- What the manual says of `/`, `rem` and `mod` (RM 4.5.5), as statements about their definitions.
use Rattle.std.specs.Prelude.{◌≡◌, ◌<◌, ℤ, ◌+ℤ◌, ◌*ℤ◌, unsigned_abs, int_div, int_rem, false}
use Rattle.base.specs.Arithmetic.{differ_in_sign, int_mod}

-- x is the multiple q of y and a rest that is smaller than y in absolute value, and 0 or of the sign of s
pub record Rest (x y q r s : ℤ) : Type 0 where
  pub whole : q *ℤ y +ℤ r ≡ x
  pub small : unsigned_abs r < unsigned_abs y
  pub sign : differ_in_sign r s ≡ false

abbrev pub RemainderLaw : Type 0
RemainderLaw = (x y : ℤ) → 0 < unsigned_abs y → Rest x y (int_div x y) (int_rem x y) x

abbrev pub ModulusLaw : Type 0
ModulusLaw = (x y : ℤ) → 0 < unsigned_abs y → (q : ℤ) × Rest x y q (int_mod x y) y
