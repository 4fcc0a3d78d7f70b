-- Choices by the places of their alternatives, and their order: the first slot counts most.
use Rattle.std.specs.Prelude.{◌≡◌, ◌⊎◌, ℕ, ◌+◌, ◌-◌, ◌*◌, ◌<◌, ℤ, List, [], ◌∷◌, length, Option, Some, None, nat_lt, slice_get, if◌then◌else◌}
use Rattle.choices.specs.Slots.{Slot, number_of}

-- in each slot the place of one of its alternatives, counted from 0
abbrev pub AreWithin : List Slot → List ℕ → Type 0
AreWithin [] [] = Unit {0}
AreWithin (s ∷ slots) (p ∷ places) = (p < length s.alternatives) × AreWithin slots places
AreWithin [] (p ∷ places) = ⊥
AreWithin (s ∷ slots) [] = ⊥

abbrev pub flat : Option (Option ℤ) → Option ℤ
flat None = None
flat (Some a) = a

-- the alternatives at these places
abbrev pub taken : List Slot → List ℕ → List (Option ℤ)
taken (s ∷ slots) (p ∷ places) = flat (slice_get s.alternatives p) ∷ taken slots places
taken slots places = []

-- the first alternative of each
abbrev pub firsts : List Slot → List ℕ
firsts [] = []
firsts (s ∷ slots) = 0 ∷ firsts slots

abbrev pub IsBefore : List ℕ → List ℕ → Type 0
IsBefore (p ∷ places) (q ∷ others) = (p < q) ⊎ ((p ≡ q) × IsBefore places others)
IsBefore [] others = ⊥
IsBefore (p ∷ places) [] = ⊥

-- the next one by this slot, where the slots after it have none
abbrev pub next_by : Slot → ℕ → List Slot → Option (List ℕ) → Option (List ℕ)
next_by s p slots (Some later) = Some (p ∷ later)
next_by s p slots None = if nat_lt (p + 1) (length s.alternatives) then Some ((p + 1) ∷ firsts slots) else None

-- the next one in the order, None after the last one: the last slot that has a further alternative takes it, and those after it take their first
abbrev pub next : List Slot → List ℕ → Option (List ℕ)
next (s ∷ slots) (p ∷ places) = next_by s p slots (next slots places)
next slots places = None

-- how many come after these
abbrev pub left : List Slot → List ℕ → ℕ
left (s ∷ slots) (p ∷ places) = (length s.alternatives - p - 1) * number_of slots + left slots places
left slots places = 0
