-- What is kept, one element after the other.
use Rattle.std.proofs.Common.{◌≡◌, ℕ, zero, suc, ◌+◌, ◌<◌, List, [], ◌∷◌, ◌++◌, get_or, length, refl, arith}

-- what holds of each element holds of each with one more
pub more_each : {A : Type 0} (d : A) (xs : List A) (v : A) (P : ℕ → A → Type 0) → ((u : ℕ) → u < length xs → P u (get_or xs u d))
    → ((n : ℕ) → n ≡ length xs → P n v) → (u : ℕ) → u < length xs + 1 → P u (get_or (xs ++ v ∷ []) u d)
more_each d [] v P each is zero lt = is 0 refl
more_each d [] v P each is (suc u) lt = absurd (omega (arith, lt))
more_each d (x ∷ xs) v P each is zero lt = each 0 (omega arith)
more_each d (x ∷ xs) v P each is (suc u) lt =
    more_each d xs v (λ n y. P (suc n) y) (λ n h. each (suc n) (omega (arith, h))) (λ n e. is (suc n) (omega (arith, e))) u (omega (arith, lt))
