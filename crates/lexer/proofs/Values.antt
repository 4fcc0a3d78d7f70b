-- Values of numerals.
use Rattle.std.proofs.Common.{◌≡◌, ℕ, ◌+◌, ◌-◌, ◌*◌, ◌^◌, ◌≤◌, Bool, true, false, cond, List, [], ◌∷◌, None, refl, ap, ◌∙◌, arith, get_or, drop, suc, ◌<◌, length, drop-cons}
use Rattle.std.proofs.Math.Nat.{pow-succ'}
use Rattle.std.specs.Prelude.{filter}
use Rattle.std.proofs.lemmas.Bool.{le-ltb}
use Rattle.std.specs.Char.{is_ascii_digit}
use Rattle.lexer.specs.Limits.{number_limit}
use Rattle.lexer.specs.Elements.{value_of_digits, value}
use Rattle.lexer.specs.Reading.{value_from, value_in_range}

step_grows : (test : Bool) (n d : ℕ) → n ≤ cond test (10 * n + d) n
step_grows true n d = omega arith
step_grows false n d = omega arith

-- more digits give no smaller value
pub value_from-grows : (n : ℕ) (text : List ℕ) → n ≤ value_from n text
value_from-grows n [] = omega arith
value_from-grows n (c ∷ text) = omega (arith, step_grows (is_ascii_digit c) n (c - 48), value_from-grows (cond (is_ascii_digit c) (10 * n + (c - 48)) n) text)

-- a value of 2 ** 63 or more is none
pub out_of_range : (text : List ℕ) → number_limit ≤ value text → value_in_range text ≡ None
unfolding value_in_range
out_of_range text large = rw (le-ltb (value text) number_limit large) refl

value_from-digit : (n c : ℕ) (rest : List ℕ) → is_ascii_digit c ≡ true → value_from n (c ∷ rest) ≡ value_from (10 * n + (c - 48)) rest
value_from-digit n c rest digit = ap (λ b. value_from (cond b (10 * n + (c - 48)) n) rest) digit

-- one digit too many
pub over : (text : List ℕ) (i n : ℕ) → value_from n (drop i text) ≡ value text → i < length text → is_ascii_digit (get_or text i 0) ≡ true → number_limit ≤ 10 * n + (get_or text i 0 - 48) → number_limit ≤ value text
over text i n left inside digit large =
    let next : value_from n (drop i text) ≡ value_from (10 * n + (get_or text i 0 - 48)) (drop (suc i) text) = ap (value_from n) (drop-cons text i 0 inside) ∙ value_from-digit n (get_or text i 0) (drop (suc i) text) digit in
    omega (arith, left, next, large, value_from-grows (10 * n + (get_or text i 0 - 48)) (drop (suc i) text))

-- the digits read so far stand before those that are left
counted : (test : Bool) (n c w : ℕ) (digits : List ℕ) → w ≡ cond test (10 * n + (c - 48)) n * 10 ^ length digits + value_of_digits digits → w ≡ n * 10 ^ length (cond test (c ∷ digits) digits) + value_of_digits (cond test (c ∷ digits) digits)
counted true n c w digits e = omega (arith, e, ap (λ p. n * p) (pow-succ' 10 (length digits)))
counted false n c w digits e = e

value_from-is : (n : ℕ) (text : List ℕ) → value_from n text ≡ n * 10 ^ length (filter is_ascii_digit text) + value text
value_from-is n [] = omega arith
value_from-is n (c ∷ text) = counted (is_ascii_digit c) n c (value_from n (c ∷ text)) (filter is_ascii_digit text) (value_from-is (cond (is_ascii_digit c) (10 * n + (c - 48)) n) text)

pub value_from-none : (text : List ℕ) → value_from 0 text ≡ value text
value_from-none text = omega (arith, value_from-is 0 text)
