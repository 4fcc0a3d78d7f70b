-- Worked rows of rings.
use Rattle.std.proofs.Common.{◌≡◌, ℕ, List, [], ◌∷◌, ◌++◌, replicate, refl}
use Rattle.dispatch.specs.Rings.{tasks_from}

-- task 1 in the first place, 2 in the second, and 9 in the last
abbrev places : List ℕ
places = (1 ∷ 2 ∷ []) ++ replicate 62 0 ++ 9 ∷ []

none : tasks_from places 5 0 ≡ []
none = refl

in_order : tasks_from places 0 2 ≡ 1 ∷ 2 ∷ []
in_order = refl

round_the_end : tasks_from places 64 3 ≡ 9 ∷ 1 ∷ 2 ∷ []
round_the_end = refl
