-- Elements of lists, and lists that a search goes through.
use Rattle.std.proofs.Common.{◌≡◌, ℕ, zero, suc, List, [], ◌∷◌, length, drop, arith, refl, ap}
use Rattle.std.specs.List.{Contains}

module _ {X : Type 0} where
  pub first_in : (x : X) (xs : List X) → Contains (x ∷ xs) x
  first_in x xs = (0, omega arith, refl)

  pub later_in : (x y : X) (xs : List X) → Contains xs y → Contains (x ∷ xs) y
  later_in x y xs has = (suc has.0, omega (arith, has.1), has.2)

  -- what stands behind so many elements is of the list
  pub behind_in : (k : ℕ) (xs : List X) (y : X) → Contains (drop k xs) y → Contains xs y
  behind_in zero xs y has = has
  behind_in (suc k) [] y has = has
  behind_in (suc k) (x ∷ xs) y has = later_in x y xs (behind_in k xs y has)

  -- what stands behind the next one
  pub next_drop : (k : ℕ) (xs : List X) (x : X) (rest : List X) → drop k xs ≡ x ∷ rest → drop (suc k) xs ≡ rest
  next_drop zero (x ∷ xs) y rest is = ap tail is
    where
      tail : List X → List X
      tail [] = []
      tail (z ∷ zs) = zs
  next_drop zero [] y rest is = absurd (omega (arith, ap length is))
  next_drop (suc k) [] y rest is = absurd (omega (arith, ap length is))
  next_drop (suc k) (x ∷ xs) y rest is = next_drop k xs y rest is
