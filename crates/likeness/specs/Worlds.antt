-- Worlds just before a time, and what is asked of two of them for their runs to have one future; nobody has to believe this.
use Rattle.std.specs.Prelude.{◌≡◌, ℕ, ℤ, List, ◌∷◌, Option, Some, None, true, false, int_le, int_lt, slice_get}
use Rattle.kernel.specs.State.{Interrupt, Kernel, WaitsForever}
use Rattle.image.specs.Code.{CodeWorld}
use Rattle.image.specs.Sections.{Sections}
use Rattle.image.specs.declared.instruction.Instr.{Instr}
use Rattle.likeness.specs.Schedules.{reads_input}

-- the clock is before a time, and there is no outcome
pub record IsEarly (time : ℤ) (k : Kernel) : Type 0 where
  pub now : int_lt k.now time ≡ true
  pub on : k.outcome ≡ None

-- the clock is before a time, and whatever comes from that time on can't go on with the run that waits forever now
pub record IsSure (time : ℤ) (k : Kernel) : Type 0 where
  pub now : int_lt k.now time ≡ true
  pub on : k.outcome ≡ Some WaitsForever → ⊥

-- a time before another one, between which there is none
pub record IsLastBefore (last time : ℤ) : Type 0 where
  pub early : int_lt last time ≡ true
  pub all : (z : ℤ) → int_lt z time ≡ true → int_le z last ≡ true

-- no interrupt that is pending comes before a time
abbrev pub NoneSooner : (time : ℤ) → CodeWorld → Type 0
NoneSooner time w = (x : Interrupt) (xs : List Interrupt) → w.kernel.pending ≡ x ∷ xs → int_le time x.time ≡ true

abbrev pub IsBlind : Option Instr → Type 0
IsBlind None = Unit {0}
IsBlind (Some x) = reads_input x.operation ≡ false

-- the instruction of the running frame reads no input
abbrev pub ReadsNothing : Sections → CodeWorld → Type 0
ReadsNothing i w = (t : ℕ) → w.kernel.running ≡ Some t → IsBlind (slice_get i.instructions (w.rest.tasks t).frame.place)
