-- What tables of names keep: which names were seen, and the place of each, the first one. Serves their methods, and walks that look back.
use Rattle.std.specs.Prelude.{◌≡◌, ℕ, Bool, List, [], ◌∷◌, ◌++◌, Option, position, bytes_eq, if◌then◌else◌, is_some, ◌||◌}
use Rattle.std.specs.List.{list_any}
use Rattle.std.specs.Map.{lookup}

-- whether a name was seen, and the names that were seen once this one is
abbrev pub is_seen : List (List ℕ) → List ℕ → Bool
is_seen names name = list_any (bytes_eq name) names

abbrev pub seen_with : List (List ℕ) → List ℕ → List (List ℕ)
seen_with names name = if is_seen names name then names else names ++ name ∷ []

-- the names of these things were seen, behind others
abbrev pub SeesNames : {X : Type 0} → (X → List ℕ) → (before : List (List ℕ)) → List X → (after : List (List ℕ)) → Type 0
SeesNames {X} name before xs after = (n : List ℕ) → is_seen after n ≡ (is_seen before n || list_any (λ x. bytes_eq (name x) n) xs)

-- the names that were seen are those of these things
abbrev pub AreNames : {X : Type 0} → (X → List ℕ) → List X → List (List ℕ) → Type 0
AreNames {X} name xs names = (n : List ℕ) → is_seen names n ≡ list_any (λ x. bytes_eq (name x) n) xs

-- ---- places

abbrev pub place_of : List (List ℕ × ℕ) → List ℕ → Option ℕ
place_of places name = lookup (bytes_eq name) places

-- a name keeps the place that it was given first
abbrev pub with_place : List (List ℕ × ℕ) → List ℕ → ℕ → List (List ℕ × ℕ)
with_place places name place = if is_some (place_of places name) then places else places ++ (name, place) ∷ []

-- the places are those at which things of these names stand first
abbrev pub ArePlaces : {X : Type 0} → (X → List ℕ) → List X → List (List ℕ × ℕ) → Type 0
ArePlaces {X} name xs places = (n : List ℕ) → place_of places n ≡ position (λ x. bytes_eq (name x) n) xs
