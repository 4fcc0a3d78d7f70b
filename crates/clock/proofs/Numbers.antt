-- A number that is capped on the way is the number, capped.
use Rattle.std.proofs.Common.{◌≡◌, ℕ, ◌+◌, ◌-◌, ◌*◌, ◌^◌, ◌<◌, List, [], ◌∷◌, min, arith, drop, length, get_or, sym, ap, ◌∙◌}
use Rattle.std.proofs.lemmas.List.{drop_more}
use Rattle.clock.specs.Capped.{capped}
use Rattle.clock.specs.Texts.{value_after}

same_step : (m x y d : ℕ) → min x m ≡ min y m → min (x * 10 + d) m ≡ min (y * 10 + d) m
same_step m x y d h = omega (arith)

same_capped : (x y : ℕ) (ds : List ℕ) → capped x ≡ capped y → capped (value_after x ds) ≡ capped (value_after y ds)
same_capped x y [] h = h
same_capped x y (d ∷ ds) h = same_capped (x * 10 + (d - 48)) (y * 10 + (d - 48)) ds (same_step (2 ^ 64 - 1) x y (d - 48) h)

twice : (m x : ℕ) → min (min x m) m ≡ min x m
twice m x = omega (arith)

pub joined : (m x d : ℕ) → min (min (min x m + d) m) m ≡ min (x + d) m
joined m x d = omega (arith)

-- a digit more
pub next_digit : (value d : ℕ) (ds : List ℕ) → capped (value_after (capped (value * 10 + (d - 48))) ds) ≡ capped (value_after value (d ∷ ds))
next_digit value d ds = same_capped (capped (value * 10 + (d - 48))) (value * 10 + (d - 48)) ds (twice (2 ^ 64 - 1) (value * 10 + (d - 48)))

-- a turn of the loop over the digits
pub next_turn : (value i : ℕ) (ds : List ℕ) → i < length ds
    → capped (value_after (capped (value * 10 + (get_or ds i 0 - 48))) (drop (i + 1) ds)) ≡ capped (value_after value (drop i ds))
next_turn value i ds h = next_digit value (get_or ds i 0) (drop (i + 1) ds) ∙ sym (ap (λ l. capped (value_after value l)) (drop_more ds i 0 h))
