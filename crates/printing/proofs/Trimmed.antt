-- Texts without the white space at their ends.
use Rattle.std.proofs.Common.{◌≡◌, ℕ, zero, suc, ◌-◌, ◌≤◌, ◌<◌, Bool, true, false, cond, List, [], ◌∷◌, length, take, get_or, refl, sym, ap, ◌∙◌, arith}
use Rattle.std.specs.List.{list_all}
use Rattle.std.specs.Char.{is_ascii_whitespace}
use Rattle.std.specs.Str.{IsTrimAsciiEnd}
use Rattle.lexer.specs.Characters.{hyphen}
use Rattle.lexer.specs.Elements.{comment}
use Rattle.lexer.proofs.Fronts.{and_left, and_right, both}
use Rattle.printing.specs.Pieces.{before_end, trimmed}

-- the hyphens of a comment are no white space
pub trimmed_comment : (inner : List ℕ) → trimmed (comment inner) ≡ comment (trimmed inner)
trimmed_comment inner = go (trimmed inner)
  where
    go : (text : List ℕ) → before_end hyphen (before_end hyphen text) ≡ comment text
    go [] = refl
    go (c ∷ text) = refl

pub trimmed_again : (text : List ℕ) → trimmed (trimmed text) ≡ trimmed text
trimmed_again [] = refl
trimmed_again (c ∷ text) = go c (trimmed text) (trimmed_again text)
  where
    alone : (c : ℕ) (b : Bool) → is_ascii_whitespace c ≡ b → trimmed (cond b [] (c ∷ [])) ≡ cond b [] (c ∷ [])
    alone c true e = refl
    alone c false e = ap (λ b. cond b [] (c ∷ [])) e

    go : (c : ℕ) (rest : List ℕ) → trimmed rest ≡ rest → trimmed (before_end c rest) ≡ before_end c rest
    go c [] same = alone c (is_ascii_whitespace c) refl
    go c (d ∷ rest) same = ap (before_end c) same

pub trimmed_all : (test : ℕ → Bool) (text : List ℕ) → list_all test text ≡ true → list_all test (trimmed text) ≡ true
trimmed_all test [] all = refl
trimmed_all test (c ∷ text) all = go (trimmed text) (trimmed_all test text (and_right (test c) (list_all test text) all))
  where
    first : test c ≡ true
    first = and_left (test c) (list_all test text) all

    alone : (b : Bool) → list_all test (cond b [] (c ∷ [])) ≡ true
    alone true = refl
    alone false = both (test c) true first refl

    go : (rest : List ℕ) → list_all test rest ≡ true → list_all test (before_end c rest) ≡ true
    go [] passes = alone (is_ascii_whitespace c)
    go (d ∷ rest) passes = both (test c) (list_all test (d ∷ rest)) first passes

-- where white space begins that goes on to the end
ends_at : (text : List ℕ) (n : ℕ) → n ≤ length text → ((k : ℕ) → n ≤ k → k < length text → is_ascii_whitespace (get_or text k 0) ≡ true) → (0 < n → is_ascii_whitespace (get_or text (n - 1) 0) ≡ false) → trimmed text ≡ take n text
ends_at [] zero few white dark = refl
ends_at [] (suc n) few white dark = absurd (omega (arith, few))
ends_at (c ∷ text) zero few white dark =
    ap (before_end c) (ends_at text zero (omega arith) (λ k from to. white (suc k) (omega arith) (omega (arith, to))) (λ some. absurd (omega (arith, some))))
    ∙ ap (λ b. cond b [] (c ∷ [])) (white 0 (omega arith) (omega arith))
ends_at (c ∷ text) (suc zero) few white dark =
    ap (before_end c) (ends_at text zero (omega arith) (λ k from to. white (suc k) (omega (arith, from)) (omega (arith, to))) (λ some. absurd (omega (arith, some))))
    ∙ ap (λ b. cond b [] (c ∷ [])) (dark (omega arith))
ends_at (c ∷ text) (suc (suc n)) few white dark =
    ap (before_end c) (ends_at text (suc n) (omega (arith, few)) (λ k from to. white (suc k) (omega (arith, from)) (omega (arith, to))) (λ some. before)) ∙ longer text few
  where
    before : is_ascii_whitespace (get_or text (suc n - 1) 0) ≡ false
    before =
        let inner : suc n - 1 ≡ n = omega arith in
        let outer : suc (suc n) - 1 ≡ suc n = omega arith in
        ap (λ m. is_ascii_whitespace (get_or text m 0)) inner ∙ (sym (ap (λ m. is_ascii_whitespace (get_or (c ∷ text) m 0)) outer) ∙ dark (omega arith))

    longer : (rest : List ℕ) → suc (suc n) ≤ length (c ∷ rest) → before_end c (take (suc n) rest) ≡ take (suc (suc n)) (c ∷ rest)
    longer [] short = absurd (omega (arith, short))
    longer (d ∷ rest) short = refl

-- what `trim_ascii_end` gives
pub trim_is : (text shown : List ℕ) → IsTrimAsciiEnd text shown → shown ≡ trimmed text
trim_is text shown is = is.1 ∙ sym (ends_at text is.0 is.3 is.4 is.5)
