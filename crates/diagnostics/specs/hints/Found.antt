-- What is found first.
use Rattle.std.specs.Prelude.{List, [], ◌∷◌, Option, Some, None}

abbrev pub or_else : {Y : Type 0} → Option Y → Option Y → Option Y
or_else (Some y) other = Some y
or_else None other = other

-- what is found of the first one of which something is
abbrev pub first_found : {X Y : Type 0} → (X → Option Y) → List X → Option Y
first_found found [] = None
first_found found (x ∷ xs) = or_else (found x) (first_found found xs)
