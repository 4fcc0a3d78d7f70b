-- Sets of schedules (docs/FORMATS.md, "Sets of schedules"): slots with alternatives, choices among these, and the schedules that they make.
use Rattle.std.specs.Prelude.{◌≡◌, ℕ, ◌*◌, ℤ, pos, List, [], ◌∷◌, ◌++◌, length, Bool, true, ◌&&◌, nat_le, nat_lt, int_le, Option, Some, None, slice_get}
use Rattle.base.specs.Arithmetic.{is_in_base_range}
use Rattle.base.specs.declared.limits.TheConstants.{CHANNELS, SCHEDULE_LINES}
use Rattle.base.specs.declared.schedule.ScheduleLine.{ScheduleLine}

-- from a time on a channel may have another value: one of these, or the one that it has, which is None
pub record Slot : Type 0 where
  pub time : ℤ
  pub channel : ℕ
  pub alternatives : List (Option ℤ)

abbrev pub IsAlternative : Slot → Option ℤ → Type 0
IsAlternative s a = (place : ℕ) × (slice_get s.alternatives place ≡ Some a)

-- a choice takes one alternative of each slot
abbrev pub IsChoiceAmong : List Slot → List (Option ℤ) → Type 0
IsChoiceAmong [] [] = Unit {0}
IsChoiceAmong (s ∷ slots) (a ∷ choice) = IsAlternative s a × IsChoiceAmong slots choice
IsChoiceAmong [] (a ∷ choice) = ⊥
IsChoiceAmong (s ∷ slots) [] = ⊥

-- the line of a slot, if there is one
abbrev pub line_of : Slot → Option ℤ → List ScheduleLine
line_of s None = []
line_of s (Some value) = record { time = s.time; channel = s.channel; value = value } ∷ []

-- the schedule of a choice: the lines of the slots in their order
abbrev pub lines_of : List Slot → List (Option ℤ) → List ScheduleLine
lines_of (s ∷ slots) (a ∷ choice) = line_of s a ++ lines_of slots choice
lines_of slots choice = []

-- the schedules of the set
abbrev pub IsInSet : List Slot → List ScheduleLine → Type 0
IsInSet slots schedule = (choice : List (Option ℤ)) × IsChoiceAmong slots choice × (schedule ≡ lines_of slots choice)

-- how many choices there are
abbrev pub number_of : List Slot → ℕ
number_of [] = 1
number_of (s ∷ slots) = length s.alternatives * number_of slots

-- ---- slots as a text gives them: times and values of 64 bits, channels that there are, something to choose from, in the order of times, not too many

abbrev pub is_value : Option ℤ → Bool
is_value None = true
is_value (Some value) = is_in_base_range value

abbrev pub are_values : List (Option ℤ) → Bool
are_values [] = true
are_values (a ∷ alternatives) = is_value a && are_values alternatives

abbrev pub is_slot : Slot → Bool
is_slot s =
    int_le (pos 0) s.time && is_in_base_range s.time && nat_le 1 s.channel && nat_le s.channel CHANNELS
    && (are_values s.alternatives && nat_lt 0 (length s.alternatives))

abbrev pub are_each_slots : List Slot → Bool
are_each_slots [] = true
are_each_slots (s ∷ slots) = is_slot s && are_each_slots slots

-- none is before this time, or before the one before it
abbrev pub are_ordered_from : ℤ → List Slot → Bool
are_ordered_from time [] = true
are_ordered_from time (s ∷ slots) = int_le time s.time && are_ordered_from s.time slots

abbrev pub are_slots : List Slot → Bool
are_slots slots = nat_le (length slots) SCHEDULE_LINES && are_each_slots slots && are_ordered_from (pos 0) slots
