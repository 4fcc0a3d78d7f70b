-- What the first of two walks counts is what the second one has room for.
use Rattle.std.proofs.Common.{◌≡◌, ◌≤◌, ◌+◌, ◌-◌, ◌^◌, ℕ, suc, [], ◌∷◌, length, ◌∙◌, arith}
use Rattle.std.specs.Prelude.{min}
use Rattle.std.proofs.lemmas.List.{take_all}
use Rattle.expr_rules.specs.Faults.{Faults}
use Rattle.expr_rules.specs.Findings.{Findings, FoundIsAll, none_found, noted, noted_one}

no_more : (n : ℕ) → n ≤ 2 ^ 64 - 1 → n ≡ min (n + 0) (2 ^ 64 - 1)
no_more n h = grind (arith, h)

at_most : (n : ℕ) → min (n + 1) (2 ^ 64 - 1) ≤ 2 ^ 64 - 1
at_most n = grind (arith)

one_more : (n m : ℕ) → min (min (n + 1) (2 ^ 64 - 1) + m) (2 ^ 64 - 1) ≡ min (n + suc m) (2 ^ 64 - 1)
one_more n m = grind (arith)

counted : (found : Findings) (xs : Faults) → found.count ≤ 2 ^ 64 - 1 → (noted found xs).count ≡ min (found.count + length xs) (2 ^ 64 - 1)
counted found [] h = no_more found.count h
counted found (x ∷ xs) h = counted (noted_one found x) xs (at_most found.count) ∙ one_more found.count (length xs)

within : (n m : ℕ) → m ≡ min (0 + n) (2 ^ 64 - 1) → (m ≡ 2 ^ 64 - 1 → ⊥) → n ≤ m
within n m is less = grind (arith, is, less)

pub all_kept : FoundIsAll → (xs : Faults) (count : ℕ) → count ≡ (noted (none_found 0) xs).count → (count ≡ 2 ^ 64 - 1 → ⊥)
    → (noted (none_found count) xs).kept ≡ xs
all_kept all xs count is less =
    let from_zero : 0 ≤ 2 ^ 64 - 1 = omega arith in
    all.kept count xs ∙ take_all count xs (within (length xs) count (is ∙ counted (none_found 0) xs from_zero) less)
