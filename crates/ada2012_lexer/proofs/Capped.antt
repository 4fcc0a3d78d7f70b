-- Numbers that are capped on the way are the numbers, capped.
use Rattle.std.proofs.Common.{◌≡◌, ℕ, zero, suc, ◌+◌, ◌-◌, ◌*◌, ◌^◌, ◌<◌, ◌≤◌, Bool, true, false, cond, List, [], ◌∷◌, min, arith, drop, length, get_or, ltb, sym, ap, ◌∙◌, refl}
use Rattle.std.proofs.Math.Nat.{add-mul, mul-suc, mul_assoc, pow-le-pow_left, pow-le-pow_right, pow-succ', pow-zero, suc-mul}
use Rattle.std.proofs.lemmas.Bool.{ltb-false, ltb-true}
use Rattle.std.proofs.lemmas.Grind.{pow_more}
use Rattle.std.proofs.lemmas.List.{drop_more}
use Rattle.std.specs.Prelude.{not, filter}
use Rattle.lexer.specs.Characters.{is_underline}
use Rattle.ada2012_lexer.specs.Characters.{digit_value}
use Rattle.ada2012_lexer.specs.Numbers.{value, value_of_digits}
use Rattle.ada2012_lexer.specs.Shapes.{capped}

-- ---- products

scale : (b x y m : ℕ) → min x m ≡ min y m → min (x * b) m ≡ min (y * b) m
scale zero x y m h = omega (arith)
scale (suc b) x y m h = omega (arith, h, scale b x y m h, mul-suc x b, mul-suc y b)

twice : (m x : ℕ) → min (min x m) m ≡ min x m
twice m x = omega (arith)

pub joined : (m x d : ℕ) → min (min x m + d) m ≡ min (x + d) m
joined m x d = omega (arith)

-- ---- digits

-- the value of digits of which those before have the value n
abbrev pub value_from : (b n : ℕ) → List ℕ → ℕ
value_from b n [] = n
value_from b n (c ∷ text) = value_from b (cond (not (is_underline c)) (n * b + digit_value c) n) text

same_step : (digit : Bool) (b x y d : ℕ) → capped x ≡ capped y → capped (cond digit (x * b + d) x) ≡ capped (cond digit (y * b + d) y)
same_step true b x y d h = omega (arith, scale b x y (2 ^ 64 - 1) h)
same_step false b x y d h = h

same_from : (b x y : ℕ) (text : List ℕ) → capped x ≡ capped y → capped (value_from b x text) ≡ capped (value_from b y text)
same_from b x y [] h = h
same_from b x y (c ∷ text) h =
    same_from b (cond (not (is_underline c)) (x * b + digit_value c) x) (cond (not (is_underline c)) (y * b + digit_value c) y) text
    (same_step (not (is_underline c)) b x y (digit_value c) h)

unfolded : (b n i : ℕ) (text : List ℕ) → i < length text
    → value_from b n (drop i text) ≡ value_from b (cond (not (is_underline (get_or text i 0))) (n * b + digit_value (get_or text i 0)) n) (drop (i + 1) text)
unfolded b n i text inside = ap (value_from b n) (drop_more text i 0 inside)

one_turn : (underline : Bool) (n x : ℕ) → capped (cond underline n (capped x)) ≡ capped (cond (not underline) x n)
one_turn true n x = refl
one_turn false n x = twice (2 ^ 64 - 1) x

-- a character more
pub next_character : (b n i : ℕ) (text : List ℕ) → i < length text
    → capped (value_from b (cond (is_underline (get_or text i 0)) n (capped (n * b + digit_value (get_or text i 0)))) (drop (i + 1) text))
    ≡ capped (value_from b n (drop i text))
next_character b n i text inside =
    same_from b (cond (is_underline (get_or text i 0)) n (capped (n * b + digit_value (get_or text i 0))))
    (cond (not (is_underline (get_or text i 0))) (n * b + digit_value (get_or text i 0)) n) (drop (i + 1) text)
    (one_turn (is_underline (get_or text i 0)) n (n * b + digit_value (get_or text i 0)))
    ∙ sym (ap capped (unfolded b n i text inside))

-- the digits read so far come before those that are left
counted : (digit : Bool) (b n c w : ℕ) (digits : List ℕ) → w ≡ cond digit (n * b + digit_value c) n * b ^ length digits + value_of_digits b digits
    → w ≡ n * b ^ length (cond digit (c ∷ digits) digits) + value_of_digits b (cond digit (c ∷ digits) digits)
counted true b n c w digits e =
    omega (arith, e, add-mul (n * b) (digit_value c) (b ^ length digits), mul_assoc n b (b ^ length digits), ap (λ p. n * p) (pow-succ' b (length digits)))
counted false b n c w digits e = e

value_from-is : (b n : ℕ) (text : List ℕ) → value_from b n text ≡ n * b ^ length (filter (λ c. not (is_underline c)) text) + value b text
value_from-is b n [] = omega (arith, ap (λ p. n * p) (pow-zero b))
value_from-is b n (c ∷ text) =
    counted (not (is_underline c)) b n c (value_from b n (c ∷ text)) (filter (λ d. not (is_underline d)) text)
    (value_from-is b (cond (not (is_underline c)) (n * b + digit_value c) n) text)

pub value_from-none : (b : ℕ) (text : List ℕ) → value_from b 0 text ≡ value b text
value_from-none b text = omega (arith, value_from-is b 0 text)

-- ---- exponents

-- a turn more
pub next_turn : (v b n : ℕ) → min (capped (v * b ^ n) * b) (2 ^ 64 - 1) ≡ capped (v * b ^ (n + 1))
next_turn v b n =
    scale b (capped (v * b ^ n)) (v * b ^ n) (2 ^ 64 - 1) (twice (2 ^ 64 - 1) (v * b ^ n)) ∙ ap capped (mul_assoc v (b ^ n) b ∙ ap (λ p. v * p) (sym (pow_more b n)))

large : (v b e : ℕ) → 0 < v → 2 ≤ b → 64 ≤ e → 2 ^ 64 ≤ v * b ^ e
large zero b e some two far = absurd (omega (arith, some))
large (suc v) b e some two far =
    omega (arith, pow-le-pow_left two 64, pow-le-pow_right (let p : 0 < b = omega (arith, two) in p) far, suc-mul v (b ^ e))

one_pow : (e : ℕ) → 1 ^ e ≡ 1
one_pow zero = pow-zero 1
one_pow (suc e) = omega (arith, pow-succ' 1 e, one_pow e)

far_is : (v b e : ℕ) → 64 < e → capped (capped v * b ^ 64) ≡ capped (v * b ^ e)
far_is v zero zero far = absurd (omega (arith, far))
far_is v zero (suc e) far = (let none : zero ^ suc e ≡ zero = omega (arith, pow-succ' zero e) in omega (arith, ap (λ p. v * p) none))
far_is v (suc zero) e far = omega (arith, ap (λ p. v * p) (one_pow e))
far_is zero (suc (suc b)) e far = omega (arith)
far_is (suc v) (suc (suc b)) e far =
    let some : 0 < capped (suc v) = omega arith in
    let positive : 0 < suc v = omega arith in
    let two : 2 ≤ suc (suc b) = omega arith in
    omega (
      arith,
      large (capped (suc v)) (suc (suc b)) 64 some two (let p : 64 ≤ 64 = omega arith in p),
      large (suc v) (suc (suc b)) e positive two (let p : 64 ≤ e = omega (arith, far) in p),
    )

-- both numbers may be capped, and the exponent at 64
scaled_is : (v b e : ℕ) → capped (capped v * b ^ min (capped e) 64) ≡ capped (v * b ^ e)
scaled_is v b e = by_size (ltb 64 e) refl
  where
    by_size : (t : Bool) → ltb 64 e ≡ t → capped (capped v * b ^ min (capped e) 64) ≡ capped (v * b ^ e)
    by_size false near =
        let same : min (capped e) 64 ≡ e = omega (arith, ltb-false 64 e near) in
        ap (λ k. capped (capped v * b ^ k)) same ∙ scale (b ^ e) (capped v) v (2 ^ 64 - 1) (twice (2 ^ 64 - 1) v)
    by_size true far =
        let same : min (capped e) 64 ≡ 64 = omega (arith, ltb-true 64 e far) in
        ap (λ k. capped (capped v * b ^ k)) same ∙ far_is v b e (ltb-true 64 e far)

-- after all turns
pub scaled_to_end : (value b exponent most turns scaled v e : ℕ) → scaled ≡ capped (value * b ^ turns) → most ≡ min exponent 64 → most ≤ turns → turns ≤ most
    → value ≡ capped v → exponent ≡ capped e → scaled ≡ capped (v * b ^ e)
scaled_to_end value b exponent most turns scaled v e so_far is over within value_is exponent_is =
    let turns_are : turns ≡ min (capped e) 64 = omega (arith, over, within, is, exponent_is) in
    so_far ∙ ((λ j. capped (value_is j * b ^ turns_are j)) ∙ scaled_is v b e)
