-- The slots of a text: those of its lines, in the order of their times.
use Rattle.std.specs.Prelude.{◌≡◌, ℕ, zero, suc, ◌+◌, ℤ, pos, List, [], ◌∷◌, Option, int_le, if◌then◌else◌}
use Rattle.choices.specs.Slots.{Slot}
use Rattle.choices.specs.Texts.{SlotLine, alternatives_of, count_of}
use Rattle.choices.specs.Faults.{AreLawful, BeginsWithSlotLines}

-- so many slots from a time on, which differ in their times alone, by this step
abbrev pub slots_from : (time step : ℕ) → (channel : ℕ) → List (Option ℤ) → ℕ → List Slot
slots_from time step channel alternatives zero = []
slots_from time step channel alternatives (suc n) =
    record { time = pos time; channel = channel; alternatives = alternatives } ∷ slots_from (time + step) step channel alternatives n

abbrev pub slots_of : SlotLine → List Slot
slots_of l = slots_from l.times.first l.times.step l.channel (alternatives_of l.ranges) (count_of l.times)

-- a slot stands after those of its time and of earlier ones
abbrev pub insert : Slot → List Slot → List Slot
insert s [] = s ∷ []
insert s (t ∷ slots) = if int_le t.time s.time then t ∷ insert s slots else s ∷ t ∷ slots

abbrev pub with_slots : List Slot → (more : List Slot) → List Slot
with_slots slots [] = slots
with_slots slots (s ∷ more) = with_slots (insert s slots) more

-- the slots of lines, line by line
abbrev pub with_lines : List Slot → List SlotLine → List Slot
with_lines slots [] = slots
with_lines slots (l ∷ lines) = with_lines (with_slots slots (slots_of l)) lines

-- the text has these slots: it has lines and no more, which break no rule, and the slots are theirs
pub record IsChoicesText (until : ℤ) (text : List ℕ) (slots : List Slot) : Type 0 where
  pub lines : List SlotLine
  pub begins : BeginsWithSlotLines text lines []
  pub lawful : AreLawful until 0 lines
  pub slots_are : slots ≡ with_lines [] lines
