-- The rules that the lines of a set of schedules keep, and which of them the first faulty line breaks (docs/FORMATS.md, "Sets of schedules").
use Rattle.std.specs.Prelude.{◌≡◌, ◌≢◌, ◌⊎◌, ℕ, ◌+◌, ℤ, pos, List, [], ◌∷◌, length, not, nat_lt, int_lt, Option, Some, None, if◌then◌else◌}
use Rattle.base.specs.declared.faults.TheConstants.{MEMORY_REFUSED}
use Rattle.base.specs.declared.limits.TheConstants.{SCHEDULE_LINES}
use Rattle.clock.specs.Schedules.{is_channel}
use Rattle.choices.specs.Texts.{SlotLine, alternatives_of, count_of, has_twice, latest, line_at}
use Rattle.choices.specs.declared.faults.ChoicesFault.{ChoicesFault}
use Rattle.choices.specs.declared.faults.TheConstants.{WRONG_CHOICES_LINE, UNKNOWN_CHANNEL, TOO_MANY_SLOTS, TOO_MANY_ALTERNATIVES, SAME_ALTERNATIVE, SLOT_TOO_LATE}
use Rattle.choices.specs.declared.slot.TheConstants.{ALTERNATIVES}

-- the first rule that a line breaks, after so many slots, where the search ends at this time
abbrev pub rule_broken : (until : ℤ) → (slots : ℕ) → SlotLine → Option ℕ
rule_broken until slots l =
    if not (is_channel l.channel) then Some UNKNOWN_CHANNEL
    else (if nat_lt ALTERNATIVES (length (alternatives_of l.ranges)) then Some TOO_MANY_ALTERNATIVES
    else (if has_twice l.ranges then Some SAME_ALTERNATIVE
    else (if nat_lt SCHEDULE_LINES (slots + count_of l.times) then Some TOO_MANY_SLOTS
    else (if int_lt until (pos (latest l.times)) then Some SLOT_TOO_LATE else None))))

abbrev pub line_fault : (until : ℤ) → (slots : ℕ) → Option (SlotLine × List ℕ) → Option ℕ
line_fault until slots None = Some WRONG_CHOICES_LINE
line_fault until slots (Some read) = rule_broken until slots read.0

-- a text begins with these lines, and this follows them
abbrev pub BeginsWithSlotLines : List ℕ → List SlotLine → List ℕ → Type 0
BeginsWithSlotLines text [] rest = text ≡ rest
BeginsWithSlotLines text (line ∷ lines) rest = (behind : List ℕ) × (line_at text ≡ Some (line, behind)) × BeginsWithSlotLines behind lines rest

-- how many slots lines have
abbrev pub slots_in : List SlotLine → ℕ
slots_in [] = 0
slots_in (line ∷ lines) = count_of line.times + slots_in lines

-- none of the lines breaks a rule, after so many slots
abbrev pub AreLawful : (until : ℤ) → (slots : ℕ) → List SlotLine → Type 0
AreLawful until slots [] = Unit {0}
AreLawful until slots (line ∷ lines) = (rule_broken until slots line ≡ None) × AreLawful until (slots + count_of line.times) lines

-- the first faulty line: those before it break no rule, and it breaks this one
pub record IsFirstFaultyLine (until : ℤ) (text : List ℕ) (fault : ChoicesFault) : Type 0 where
  pub lines : List SlotLine
  pub rest : List ℕ
  pub begins : BeginsWithSlotLines text lines rest
  pub lawful : AreLawful until 0 lines
  pub more : rest ≢ []
  pub breaks : line_fault until (slots_in lines) (line_at rest) ≡ Some fault.number
  pub line_is : fault.line ≡ length lines + 1

abbrev pub memory_fault : ChoicesFault
memory_fault = record { number = MEMORY_REFUSED; line = 0 }

-- memory was refused, or a line is faulty
abbrev pub RefusesChoicesText : (until : ℤ) → List ℕ → ChoicesFault → Type 0
RefusesChoicesText until text fault = (fault ≡ memory_fault) ⊎ IsFirstFaultyLine until text fault
