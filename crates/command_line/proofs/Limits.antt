-- A limit is what its digits write, where that is below 2 ^ 64.
use Rattle.std.proofs.Common.{◌≡◌, ◌<◌, ◌^◌, ◌∙◌, ap, sym, subst, refl, arith, ℕ, Bool, true, false, List, [], ◌∷◌, length, Option, Some, None, Result, Ok, Err, nat_eq, nat_le, nat_lt, if◌then◌else◌}
use Rattle.std.specs.Prelude.{◌&&◌}
use Rattle.std.specs.List.{list_all}
use Rattle.std.specs.Result.{result_ok}
use Rattle.std.specs.Str.Parse.{AllDigits, IsNumeral, ParsesUnsigned, digits_value, without_leading_plus}
use Rattle.std.specs.Char.{digit_value}
use Rattle.std.proofs.lemmas.Bool.{and_parts, eqb-true, leb-true, le-ltb, lt-ltb, ltb-true}
use Rattle.command_line.specs.Words.{is_digit, numeral_of}

apart : (c : ℕ) → is_digit c ≡ true → nat_eq c 43 ≡ false
apart c h = by (nat_eq c 43) refl
  where
    by : (b : Bool) → nat_eq c 43 ≡ b → nat_eq c 43 ≡ false
    by false e = e
    by true e = absurd (let no : false ≡ true = subst (λ n. is_digit n ≡ true) (eqb-true c 43 e) h in cc)

digit : (c : ℕ) → is_digit c ≡ true → digit_value c < 10
digit c h =
    let low = leb-true 48 c (and_parts (nat_le 48 c) (nat_le c 57) h).0 in
    let high = leb-true c 57 (and_parts (nat_le 48 c) (nat_le c 57) h).1 in
    let first : nat_lt c 48 ≡ false = le-ltb c 48 low in
    let second : nat_lt c 58 ≡ true = lt-ltb c 58 (omega (arith, high)) in
    rw (first, second) (omega (arith, low, high))

all_digits : (digits : List ℕ) → list_all is_digit digits ≡ true → AllDigits 10 digits
all_digits [] h = tt
all_digits (c ∷ rest) h =
    (digit c (and_parts (is_digit c) (list_all is_digit rest) h).0, all_digits rest (and_parts (is_digit c) (list_all is_digit rest) h).1)

no_plus : (digits : List ℕ) → list_all is_digit digits ≡ true → without_leading_plus digits ≡ digits
no_plus [] h = refl
no_plus (c ∷ rest) h = rw (apart c (and_parts (is_digit c) (list_all is_digit rest) h).0) refl

abbrev among : (some all small : Bool) → ℕ → Option ℕ
among some all small n = if some && (all && small) then Some n else None

pub limit_is : {E : Type 0} (digits : List ℕ) (r : Result ℕ E) (o : Option ℕ) → list_all is_digit digits ≡ true → ParsesUnsigned 64 10 digits r
    → o ≡ result_ok r → o ≡ numeral_of digits
limit_is digits (Ok n) o all parses is =
    let same = no_plus digits all in
    let some = lt-ltb 0 (length digits) (subst (λ ds. 0 < length ds) same parses.0.0.0) in
    let small = lt-ltb (digits_value 10 digits) (2 ^ 64) (subst (λ ds. digits_value 10 ds < 2 ^ 64) same parses.0.1) in
    is ∙ ap (λ k. Some k) (parses.1 ∙ ap (digits_value 10) same)
    ∙ sym (ap (λ b. among b (list_all is_digit digits) (nat_lt (digits_value 10 digits) (2 ^ 64)) (digits_value 10 digits)) some
    ∙ ap (λ b. among true b (nat_lt (digits_value 10 digits) (2 ^ 64)) (digits_value 10 digits)) all
    ∙ ap (λ b. among true true b (digits_value 10 digits)) small)
limit_is digits (Err e) o all parses is = is ∙ sym (by (nat_lt 0 (length digits)) (nat_lt (digits_value 10 digits) (2 ^ 64)) refl refl)
  where
    by : (some small : Bool) → nat_lt 0 (length digits) ≡ some → nat_lt (digits_value 10 digits) (2 ^ 64) ≡ small → numeral_of digits ≡ None
    by false small es em = ap (λ b. among b (list_all is_digit digits) (nat_lt (digits_value 10 digits) (2 ^ 64)) (digits_value 10 digits)) es
    by true false es em =
        ap (λ b. among b (list_all is_digit digits) (nat_lt (digits_value 10 digits) (2 ^ 64)) (digits_value 10 digits)) es
        ∙ ap (λ b. among true b (nat_lt (digits_value 10 digits) (2 ^ 64)) (digits_value 10 digits)) all
        ∙ ap (λ b. among true true b (digits_value 10 digits)) em
    by true true es em =
        let is_numeral : IsNumeral 10 digits = (ltb-true 0 (length digits) es, all_digits digits all) in
        absurd (parses (subst (λ ds. IsNumeral 10 ds × (digits_value 10 ds < 2 ^ 64)) (sym (no_plus digits all)) (is_numeral, ltb-true (digits_value 10 digits) (2 ^ 64) em)))
