-- Values one after the other.
use Rattle.std.proofs.Common.{◌≡◌, ℕ, zero, suc, ◌+◌, ◌-◌, ◌<◌, ℤ, pos, List, [], ◌∷◌, ◌++◌, length, Option, Some, refl, ap, ◌∙◌, arith, append_assoc}
use Rattle.std.specs.Prelude.{◌+ℤ◌, ◌≤ℤ◌}
use Rattle.std.proofs.lemmas.Int.{ints}
use Rattle.choices.specs.Texts.{values_from}

pub values_long : (value : ℤ) (n : ℕ) → length (values_from value n) ≡ n
values_long value zero = refl
values_long value (suc n) = ap suc (values_long (value +ℤ pos 1) n)

-- one more was added, and one less is left
pub values_more : (items : List (Option ℤ)) (value : ℤ) (left : ℕ) → 0 < left
    → (items ++ Some value ∷ []) ++ values_from (value +ℤ pos 1) (left - 1 + 1) ≡ items ++ values_from value (left + 1)
values_more items value left some =
    let one : left - 1 + 1 ≡ left = omega (arith, some) in
    let all : suc left ≡ left + 1 = omega arith in
    append_assoc items (Some value ∷ []) (values_from (value +ℤ pos 1) (left - 1 + 1))
    ∙ ap (λ n. items ++ Some value ∷ values_from (value +ℤ pos 1) n) one
    ∙ ap (λ n. items ++ values_from value n) all

pub room_left : (value last : ℤ) (left : ℕ) → (0 < left → (value +ℤ pos left) ≤ℤ last) → 0 < left → 0 < left - 1 → ((value +ℤ pos 1) +ℤ pos (left - 1)) ≤ℤ last
room_left value last left h some more = let x = h some in omega (arith, ints, x, some)
