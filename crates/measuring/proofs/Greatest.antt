-- The greatest of what is found of numbers, one after another.
use Rattle.std.proofs.Common.{◌≡◌, ◌∙◌, ◌+◌, ℕ, suc, ap, max, arith}
use Rattle.measuring.specs.Measures.{most_below}

-- with one more number it is the greatest of one more
pub one_more : (f : ℕ → ℕ) (n most now found : ℕ) → most ≡ most_below n f → now ≡ max most found → found ≡ f n → now ≡ most_below (n + 1) f
one_more f n most now found before is it =
    let at : suc n ≡ n + 1 = omega arith in
    is ∙ (λ j. max (before j) (it j)) ∙ ap (λ k. most_below k f) at
