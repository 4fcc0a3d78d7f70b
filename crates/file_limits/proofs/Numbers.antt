-- How many bytes numbers have in decimal.
use Rattle.std.proofs.Common.{◌≡◌, ◌<◌, ◌≤◌, ◌+◌, ◌-◌, ◌*◌, ◌^◌, ◌∙◌, ℕ, zero, suc, ℤ, pos, negsuc, List, [], ◌∷◌, length, take, drop, Bool, true, false, not, Option, Some, None, nat_eq, nat_lt, if◌then◌else◌, arith, rules, refl, sym, ap, subst, inl, inr, ◌⊎◌}
use Rattle.std.specs.Prelude.{⊤, option_map, unwrap_or}
use Rattle.std.specs.List.{prefix_len}
use Rattle.std.proofs.Math.Nat.{mul-le-mul_right, pow-le-pow_right}
use Rattle.std.proofs.lemmas.List.{length-append, take-append-drop}
use Rattle.std.proofs.lemmas.Grind.{pow_more}
use Rattle.std.proofs.lemmas.Bool.{cases_lt}
use Rattle.std.proofs.lemmas.Option.{none-some}
use Rattle.base.specs.Arithmetic.{is_in_base_range}
use Rattle.lexer.proofs.Fronts.{prefix_len-no, prefix_len-yes}
use Rattle.clock.specs.Texts.{as_negative, as_positive, digits_value, is_digit, is_number, number_at, value_after, value_at}

pub pair_of : {X : Type 0} (x y : X) (s t : List ℕ) → ◌≡◌ {A = Option (X × List ℕ)} (Some (x, s)) (Some (y, t)) → (x ≡ y) × (s ≡ t)
pair_of {X} x y s t h =
    let first : (p : X × List ℕ) → X = λ p. p.0 in
    let second : (p : X × List ℕ) → List ℕ = λ p. p.1 in
    (ap (λ o. unwrap_or (option_map first o) x) h, ap (λ o. unwrap_or (option_map second o) s) h)

-- each digit more makes a number ten times as large at least
grows : (n : ℕ) (digits : List ℕ) → n * 10 ^ length digits ≤ value_after n digits
grows n [] = omega arith
grows n (d ∷ digits) =
    let p = 10 ^ length digits in
    let later : (n * 10 + (d - 48)) * p ≤ value_after (n * 10 + (d - 48)) digits = grows (n * 10 + (d - 48)) digits in
    let more : (n * 10) * p ≤ (n * 10 + (d - 48)) * p = mul-le-mul_right p (omega arith) in
    let one : length (d ∷ digits) ≡ length digits + 1 = omega arith in
    let power : 10 ^ length (d ∷ digits) ≡ p * 10 = ap (λ k. 10 ^ k) one ∙ pow_more 10 (length digits) in
    let same : n * (p * 10) ≡ (n * 10) * p = grind arith in
    subst (λ q. n * q ≤ value_after (n * 10 + (d - 48)) digits) (sym power) (omega (arith, later, more, same))

abbrev BeginsWithDigit : List ℕ → Type 0
BeginsWithDigit [] = ⊤
BeginsWithDigit (d ∷ digits) = 48 ≤ d

at_least : (d : ℕ) → is_digit d ≡ true → 48 ≤ d
at_least d h = search rules

not_zero : (d : ℕ) → not (nat_eq d 48) ≡ true → 48 ≤ d → 1 ≤ d - 48
not_zero d h least = search (rules, arith)

-- digits without a leading zero whose value is below a power of ten are few
few_digits : (k : ℕ) (digits : List ℕ) → 1 ≤ k → BeginsWithDigit digits → is_number digits ≡ true → digits_value digits < 10 ^ k → length digits ≤ k
few_digits k [] some first h less = omega arith
few_digits k (d ∷ []) some first h less = omega (arith, some)
few_digits k (d ∷ e ∷ digits) some first h less = by (cases_lt (length (e ∷ digits)) k)
  where
    large : (d - 48) * 10 ^ length (e ∷ digits) ≤ digits_value (d ∷ e ∷ digits)
    large =
        subst (λ n. n * 10 ^ length (e ∷ digits) ≤ digits_value (d ∷ e ∷ digits)) (omega arith) (grows (0 * 10 + (d - 48)) (e ∷ digits))

    by : (length (e ∷ digits) < k) ⊎ (k ≤ length (e ∷ digits)) → length (d ∷ e ∷ digits) ≤ k
    by (inl under) = omega (arith, under)
    by (inr over) =
        let power : 10 ^ k ≤ 10 ^ length (e ∷ digits) = pow-le-pow_right (omega arith) over in
        let one : 1 * 10 ^ length (e ∷ digits) ≤ (d - 48) * 10 ^ length (e ∷ digits) = mul-le-mul_right (10 ^ length (e ∷ digits)) (not_zero d h first) in
        absurd (omega (arith, large, power, one, less))

front : (text : List ℕ) → BeginsWithDigit (take (prefix_len is_digit text) text)
front [] = tt
front (c ∷ text) = by (is_digit c) refl
  where
    by : (b : Bool) → is_digit c ≡ b → BeginsWithDigit (take (prefix_len is_digit (c ∷ text)) (c ∷ text))
    by true e = subst (λ n. BeginsWithDigit (take n (c ∷ text))) (sym (prefix_len-yes is_digit c text e)) (at_least c e)
    by false e = subst (λ n. BeginsWithDigit (take n (c ∷ text))) (sym (prefix_len-no is_digit c text e)) tt

-- a number below a power of ten has few bytes
pub number_bytes : (k : ℕ) (text : List ℕ) (n : ℕ) (rest : List ℕ) → 1 ≤ k → number_at text ≡ Some (n, rest) → n < 10 ^ k → length text ≤ k + length rest
unfolding number_at
number_bytes k text n rest some is less = by (is_number digits) refl
  where
    digits : List ℕ
    digits = take (prefix_len is_digit text) text

    behind : List ℕ
    behind = drop (prefix_len is_digit text) text

    split : length text ≡ length digits + length behind
    split = ap length (sym (take-append-drop (prefix_len is_digit text) text)) ∙ length-append digits behind

    by : (b : Bool) → is_number digits ≡ b → length text ≤ k + length rest
    by true e =
        let found : Some (digits_value digits, behind) ≡ Some (n, rest) =
        ap (λ b. if b then Some (digits_value digits, behind) else None) (sym e) ∙ is in
        let parts = pair_of (digits_value digits) n behind rest found in
        let value = parts.0 in
        let left = parts.1 in
        let few = few_digits k digits some (front text) e (subst (λ v. v < 10 ^ k) (sym value) less) in
        let same : length behind ≡ length rest = ap length left in
        omega (arith, few, split, same)
    by false e = let found : None ≡ Some (n, rest) = ap (λ b. if b then Some (digits_value digits, behind) else None) (sym e) ∙ is in absurd (none-some (n, rest) found)

in_base : (n : ℕ) → nat_lt n (2 ^ 63) ≡ true → n + 1 < 10 ^ 19
in_base n h = let less : n < 2 ^ 63 = search rules in omega (arith, less)

-- a value of 64 bits has at most 19 digits and a minus
pub value_bytes : (text : List ℕ) (z : ℤ) (rest : List ℕ) → value_at text ≡ Some (z, rest) → is_in_base_range z ≡ true → length text ≤ 20 + length rest
unfolding value_at
value_bytes [] z rest is h = absurd (none-some (z, rest) is)
value_bytes (c ∷ text) z rest is h = by (nat_eq c 45) refl
  where
    negative : (o : Option (ℕ × List ℕ)) → number_at text ≡ o → as_negative o ≡ Some (z, rest) → length (c ∷ text) ≤ 20 + length rest
    negative None e found = absurd (none-some (z, rest) found)
    negative (Some (zero, behind)) e found = absurd (none-some (z, rest) found)
    negative (Some (suc n, behind)) e found =
        let parts = pair_of (negsuc n) z behind rest found in
        let value = parts.0 in
        let left = parts.1 in
        let few = number_bytes 19 text (suc n) behind (omega arith) e (let less = in_base n (ap is_in_base_range value ∙ h) in omega (arith, less)) in
        let same : length behind ≡ length rest = ap length left in
        omega (arith, few, same)

    positive : (o : Option (ℕ × List ℕ)) → number_at (c ∷ text) ≡ o → as_positive o ≡ Some (z, rest) → length (c ∷ text) ≤ 20 + length rest
    positive None e found = absurd (none-some (z, rest) found)
    positive (Some (n, behind)) e found =
        let parts = pair_of (pos n) z behind rest found in
        let value = parts.0 in
        let left = parts.1 in
        let few = number_bytes 19 (c ∷ text) n behind (omega arith) e (let less = in_base n (ap is_in_base_range value ∙ h) in omega (arith, less)) in
        let same : length behind ≡ length rest = ap length left in
        omega (arith, few, same)

    by : (b : Bool) → nat_eq c 45 ≡ b → length (c ∷ text) ≤ 20 + length rest
    by true e = negative (number_at text) refl (ap (λ b. if b then as_negative (number_at text) else as_positive (number_at (c ∷ text))) (sym e) ∙ is)
    by false e = positive (number_at (c ∷ text)) refl (ap (λ b. if b then as_negative (number_at text) else as_positive (number_at (c ∷ text))) (sym e) ∙ is)
