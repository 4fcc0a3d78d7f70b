-- The laws of division.
use Rattle.std.proofs.Common.{◌≡◌, ℕ, zero, suc, ◌-◌, ◌<◌, ◌%◌, ℤ, pos, negsuc, ◌+ℤ◌, ◌*ℤ◌, neg_ℤ, Bool, true, false, cond, refl, sym, ap, ◌∙◌, subst, arith}
use Rattle.std.specs.Prelude.{unsigned_abs, int_div, int_rem}
use Rattle.std.proofs.lemmas.Int.{quot-rem, ints}
use Rattle.std.proofs.Math.IntN.{pred_ℤ, pred_ℤ-*ℤ}
use Rattle.base.specs.Arithmetic.{differ_in_sign}
use Rattle.base.specs.Laws.{Rest, RemainderLaw, ModulusLaw}

abs_neg : (n : ℕ) → unsigned_abs (neg_ℤ (pos n)) ≡ n
abs_neg zero = refl
abs_neg (suc n) = refl

small_rem : (x y : ℤ) → 0 < unsigned_abs y → unsigned_abs (int_rem x y) < unsigned_abs y
small_rem (pos a) y lt = let n = unsigned_abs y in let h : a % n < n = omega arith in h
small_rem (negsuc a) y lt = let n = unsigned_abs y in let e = abs_neg (suc a % n) in let h : suc a % n < n = omega arith in omega (arith, e, h)

same_sign_pos : (m a : ℕ) → differ_in_sign (pos m) (pos a) ≡ false
same_sign_pos zero a = refl
same_sign_pos (suc m) a = refl

same_sign_neg : (m a : ℕ) → differ_in_sign (neg_ℤ (pos m)) (negsuc a) ≡ false
same_sign_neg zero a = refl
same_sign_neg (suc m) a = refl

sign_rem : (x y : ℤ) → differ_in_sign (int_rem x y) x ≡ false
sign_rem (pos a) y = same_sign_pos (a % unsigned_abs y) a
sign_rem (negsuc a) y = same_sign_neg (suc a % unsigned_abs y) a

pub remainder_law : RemainderLaw
remainder_law x y lt = record { whole = quot-rem x y; small = small_rem x y lt; sign = sign_rem x y }

-- what has the other sign than y, and is smaller, comes to the sign of y by one y more

down_to : (m n : ℕ) → suc m < suc n → pos (suc m) +ℤ negsuc n ≡ negsuc (n - suc m)
down_to m n lt = omega (arith, ints)

up_to : (m n : ℕ) → suc m < suc n → negsuc m +ℤ pos (suc n) ≡ pos (n - m)
up_to m n lt = omega (arith, ints)

moved : (r y : ℤ) → unsigned_abs r < unsigned_abs y → differ_in_sign r y ≡ true → (unsigned_abs (r +ℤ y) < unsigned_abs y) × (differ_in_sign (r +ℤ y) y ≡ false)
moved (pos zero) y lt e = absurd (cc)
moved (pos (suc m)) (pos n) lt e = absurd (cc)
moved (pos (suc m)) (negsuc n) lt e = subst (λ z. (unsigned_abs z < suc n) × (differ_in_sign z (negsuc n) ≡ false)) (sym (down_to m n lt)) (omega arith, refl)
moved (negsuc m) (pos zero) lt e = absurd (cc)
moved (negsuc m) (pos (suc n)) lt e = subst (λ z. (unsigned_abs z < suc n) × (differ_in_sign z (pos (suc n)) ≡ false)) (sym (up_to m n lt)) (omega arith, same_sign_pos (n - m) (suc n))
moved (negsuc m) (negsuc n) lt e = absurd (cc)

one_less : (q y r x : ℤ) → q *ℤ y +ℤ r ≡ x → pred_ℤ q *ℤ y +ℤ (r +ℤ y) ≡ x
one_less q y r x e = ap (λ z. z +ℤ (r +ℤ y)) (pred_ℤ-*ℤ q y) ∙ omega (arith, ints, e)

modulus_at : (x y : ℤ) (b : Bool) → 0 < unsigned_abs y → differ_in_sign (int_rem x y) y ≡ b → (q : ℤ) × Rest x y q (cond b (int_rem x y +ℤ y) (int_rem x y)) y
modulus_at x y false lt e = (int_div x y, record { whole = quot-rem x y; small = small_rem x y lt; sign = e })
modulus_at x y true lt e =
    let m = moved (int_rem x y) y (small_rem x y lt) e in
    (pred_ℤ (int_div x y), record { whole = one_less (int_div x y) y (int_rem x y) x (quot-rem x y); small = m.0; sign = m.1 })

pub modulus_law : ModulusLaw
modulus_law x y lt = modulus_at x y (differ_in_sign (int_rem x y) y) lt refl
