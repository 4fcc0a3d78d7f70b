-- What is found among the numbers that are kept is what is found among all.
use Rattle.std.proofs.Common.{◌≡◌, ◌∙◌, ℕ, zero, suc, ◌+◌, ◌-◌, ◌<◌, ◌≤◌, Bool, true, false, ◌&&◌, List, ◌++◌, nat_le, cond, Option, Some, refl, sym, ap, arith}
use Rattle.std.proofs.lemmas.Bool.{le-leb, lt-leb}
use Rattle.std.proofs.lemmas.List.{append_assoc}
use Rattle.std.specs.Prelude.{if◌then◌else◌}
use Rattle.std.specs.List.{find}
use Rattle.remedies.specs.Likeness.{first_where}
use Rattle.remedies.specs.TextTokens.{number_if, numbers_where}

found_next : (q : ℕ → Bool) (kept is : Bool) (n : ℕ) (rest : List ℕ) (later : Option ℕ) → q n ≡ is → find q rest ≡ later
    → find q (number_if kept n ++ rest) ≡ (if kept && is then Some n else later)
found_next q true true n rest later same after = ap (λ b. cond b (Some n) (find q rest)) same
found_next q true false n rest later same after = ap (λ b. cond b (Some n) (find q rest)) same ∙ after
found_next q false is n rest later same after = after

pub found_all : (p q : ℕ → Bool) (from count : ℕ) → find q (numbers_where p from count) ≡ first_where (λ n. p n && q n) from count
found_all p q from zero = refl
found_all p q from (suc count) =
    found_next q (p from) (q from) from (numbers_where p (suc from) count) (first_where (λ n. p n && q n) (suc from) count) refl
    (found_all p q (suc from) count)

-- the first number that passes the test comes after those that fail it
first_after : (test : ℕ → Bool) (gap from count : ℕ) → ((k : ℕ) → from ≤ k → k < from + gap → test k ≡ false)
    → first_where test from count ≡ first_where test (from + gap) (count - gap)
first_after test zero from count none =
    let here : from ≡ from + zero = omega arith in
    let left : count ≡ count - zero = omega arith in
    λ j. first_where test (here j) (left j)
first_after test (suc gap) from zero none =
    let left : zero ≡ zero - suc gap = omega arith in
    ap (first_where test (from + suc gap)) left
first_after test (suc gap) from (suc count) none =
    let here : suc from + gap ≡ from + suc gap = omega arith in
    let left : count - gap ≡ suc count - suc gap = omega arith in
    let fails : test from ≡ false = none from (omega arith) (omega arith) in
    ap (λ b. if b then Some from else first_where test (suc from) count) fails
    ∙ first_after test gap (suc from) count (λ k above below. none k (omega arith) (omega arith))
    ∙ (λ j. first_where test (here j) (left j))

-- tests that are the same from a number on find the same from there on
first_alike : (test other : ℕ → Bool) (from count : ℕ) → ((k : ℕ) → from ≤ k → test k ≡ other k) → first_where test from count ≡ first_where other from count
first_alike test other from zero same = refl
first_alike test other from (suc count) same =
    let here : test from ≡ other from = same from (omega arith) in
    let rest : first_where test (suc from) count ≡ first_where other (suc from) count = first_alike test other (suc from) count (λ k above. same k (omega arith)) in
    λ j. if here j then Some from else rest j

and_false : (b : Bool) → (b && false) ≡ false
and_false true = refl
and_false false = refl

pub found_from : (p q : ℕ → Bool) (from count : ℕ)
    → find (λ k. nat_le from k && q k) (numbers_where p 0 count) ≡ first_where (λ k. p k && q k) from (count - from)
found_from p q from count =
    let here : 0 + from ≡ from = omega arith in
    found_all p (λ k. nat_le from k && q k) 0 count
    ∙ first_after (λ k. p k && (nat_le from k && q k)) from 0 count (λ k above below. ap (λ b. p k && (b && q k)) (lt-leb from k (omega arith)) ∙ and_false (p k))
    ∙ ap (λ n. first_where (λ k. p k && (nat_le from k && q k)) n (count - from)) here
    ∙ first_alike (λ k. p k && (nat_le from k && q k)) (λ k. p k && q k) from (count - from) (λ k above. ap (λ b. p k && (b && q k)) (le-leb from k above))

pub found_from_first : (p q : ℕ → Bool) (count : ℕ) → find (λ k. nat_le 0 k && q k) (numbers_where p 0 count) ≡ first_where (λ k. p k && q k) 0 count
found_from_first p q count =
    let whole : count - 0 ≡ count = omega arith in
    found_from p q 0 count ∙ ap (first_where (λ k. p k && q k) 0) whole

-- one turn of the loop that keeps numbers
pub kept_next : (test : ℕ → Bool) (n all : ℕ) (kept new whole : List ℕ) → n < all → new ≡ kept ++ number_if (test n) n
    → kept ++ numbers_where test n (all - n) ≡ whole → new ++ numbers_where test (n + 1) (all - (n + 1)) ≡ whole
kept_next test n all kept new whole less is holds =
    let left : all - n ≡ suc (all - (n + 1)) = omega arith in
    let next : n + 1 ≡ suc n = omega arith in
    let rest = numbers_where test (suc n) (all - (n + 1)) in
    ap (λ m. new ++ numbers_where test m (all - (n + 1))) next
    ∙ ap (λ l. l ++ rest) is
    ∙ append_assoc kept (number_if (test n) n) rest
    ∙ sym (ap (λ m. kept ++ numbers_where test n m) left)
    ∙ holds
