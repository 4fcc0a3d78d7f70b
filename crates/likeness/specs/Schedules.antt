-- When two schedules give the same input, and which steps read one.
use Rattle.std.specs.Prelude.{◌≡◌, ℕ, ℤ, List, [], ◌∷◌, Bool, true, false, ◌&&◌, int_le, int_lt, nat_le}
use Rattle.base.specs.Schedule.{input}
use Rattle.base.specs.declared.limits.TheConstants.{CHANNELS}
use Rattle.base.specs.declared.schedule.ScheduleLine.{ScheduleLine}
use Rattle.image.specs.declared.instruction.Operation.{Operation}
use Rattle.image.specs.declared.instruction.Operation.TheVariants.{ReadInput}

-- each channel has the same value at this time under both
abbrev pub AgreeAt : List ScheduleLine → List ScheduleLine → ℤ → Type 0
AgreeAt r s now = (channel : ℕ) → (nat_le 1 channel && nat_le channel CHANNELS) ≡ true → input r channel now ≡ input s channel now

-- from a time on
abbrev pub AgreeFrom : List ScheduleLine → List ScheduleLine → (time : ℤ) → Type 0
AgreeFrom r s time = (now : ℤ) → int_le time now ≡ true → AgreeAt r s now

-- before a time
abbrev pub AgreeBefore : List ScheduleLine → List ScheduleLine → (time : ℤ) → Type 0
AgreeBefore r s time = (now : ℤ) → int_lt now time ≡ true → AgreeAt r s now

-- no line is before this time
abbrev pub AreFrom : (time : ℤ) → List ScheduleLine → Type 0
AreFrom time [] = Unit {0}
AreFrom time (l ∷ lines) = (int_le time l.time ≡ true) × AreFrom time lines

-- each line is before this time
abbrev pub AreBefore : (time : ℤ) → List ScheduleLine → Type 0
AreBefore time [] = Unit {0}
AreBefore time (l ∷ lines) = (int_lt l.time time ≡ true) × AreBefore time lines

abbrev pub reads_input : Operation → Bool
reads_input ReadInput = true
reads_input _ = false
