-- The parts of a set of schedules (docs/FORMATS.md, "Search"): the combinations of its first slots go to the parts in turn.
use Rattle.std.specs.Prelude.{◌≡◌, ℕ, zero, suc, ◌+◌, ◌*◌, ◌/◌, ◌%◌, List, [], ◌∷◌, length, take, drop, Bool, true, nat_eq, nat_le, if◌then◌else◌}
use Rattle.base.specs.declared.schedule.ScheduleLine.{ScheduleLine}
use Rattle.choices.specs.Places.{AreWithin, taken}
use Rattle.choices.specs.Slots.{IsInSet, Slot, lines_of, number_of}
use Rattle.choices.specs.declared.part.Part.{Part}

-- how many parts there are
abbrev pub parts_of : Part → ℕ
parts_of part = part.before + part.after + 1

-- how many slots have as many combinations as there are parts, or more, where those before them have so many; all of them where there are fewer
abbrev pub front_from : (parts combinations : ℕ) → List Slot → ℕ
front_from parts combinations [] = 0
front_from parts combinations (s ∷ slots) =
    if nat_le parts combinations then 0 else suc (front_from parts (combinations * length s.alternatives) slots)

-- how many of the first slots tell the parts of a set apart
abbrev pub front_of : Part → List Slot → ℕ
front_of part slots = front_from (parts_of part) 1 slots

-- the number of a combination of so many slots in the order of alternatives, where that of the slots before them has this number
abbrev pub number_from : (number front : ℕ) → List Slot → List ℕ → ℕ
number_from number zero slots places = number
number_from number (suc front) (s ∷ slots) (p ∷ places) = number_from (number * length s.alternatives + p) front slots places
number_from number (suc front) slots places = number

-- a part has each choice whose combination of the first slots leaves its remainder
abbrev pub is_of_part : Part → List Slot → List ℕ → Bool
is_of_part part slots places = nat_eq (number_from 0 (front_of part slots) slots places % parts_of part) part.before

-- the schedules of a part
pub record IsInPart (part : Part) (slots : List Slot) (schedule : List ScheduleLine) : Type 0 where
  pub places : List ℕ
  pub within : AreWithin slots places
  pub is_of : is_of_part part slots places ≡ true
  pub schedule_is : schedule ≡ lines_of slots (taken slots places)

-- how many of so many combinations a part has, one after the other
abbrev pub count_of_part : Part → ℕ → ℕ
count_of_part part zero = 0
count_of_part part (suc n) = (if nat_eq (n % parts_of part) part.before then 1 else 0) + count_of_part part n

-- how many choices a part has: those of its combinations, with all choices of the slots after them
abbrev pub number_of_part : Part → List Slot → ℕ
number_of_part part slots =
    (number_of (take (front_of part slots) slots) + part.after) / parts_of part * number_of (drop (front_of part slots) slots)

-- the set itself, which is its only part
abbrev pub whole : Part
whole = record { before = 0; after = 0 }

-- each choice is of exactly one of so many parts; the only part is the set itself, and has its number of choices;
-- a part has each of its combinations with all choices of the other slots
pub record ArePartsOfAll : Type 0 where
  pub some : (others : ℕ) (slots : List Slot) (places : List ℕ)
      → (part : Part) × (part.before + part.after ≡ others) × (is_of_part part slots places ≡ true)
  pub one : (one other : Part) (slots : List Slot) (places : List ℕ) → parts_of one ≡ parts_of other → is_of_part one slots places ≡ true
      → is_of_part other slots places ≡ true → one.before ≡ other.before
  pub all : (slots : List Slot) (schedule : List ScheduleLine) → IsInSet slots schedule → IsInPart whole slots schedule
  pub no_more : (part : Part) (slots : List Slot) (schedule : List ScheduleLine) → IsInPart part slots schedule → IsInSet slots schedule
  pub count : (slots : List Slot) → number_of_part whole slots ≡ number_of slots
  pub combinations : (part : Part) (slots : List Slot)
      → number_of_part part slots ≡ count_of_part part (number_of (take (front_of part slots) slots)) * number_of (drop (front_of part slots) slots)
