-- The first of several things in an order that numbers give; of equal ones the one that stands first.
use Rattle.std.specs.Prelude.{ℕ, List, [], ◌∷◌, Option, Some, None, nat_lt, if◌then◌else◌}

abbrev pub sooner_by : {X : Type 0} → (X → ℕ) → Option X → Option X → Option X
sooner_by order None b = b
sooner_by order (Some a) None = Some a
sooner_by order (Some a) (Some b) = if nat_lt (order b) (order a) then Some b else Some a

abbrev pub first_by : {X : Type 0} → (X → ℕ) → List X → Option X
first_by order [] = None
first_by order (x ∷ xs) = sooner_by order (Some x) (first_by order xs)
