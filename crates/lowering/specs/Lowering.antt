-- What a lowered text has of the text that was given.
use Rattle.std.specs.Prelude.{ℕ, List}
use Rattle.text_edits.specs.Edits.{IsEdited}
use Rattle.lowering.specs.declared.fault.Fault.{Fault}
use Rattle.lowering.specs.declared.fault.FaultKind.TheVariants as faults

abbrev pub memory_fault : Fault
memory_fault = record { kind = faults.Memory; place = 0 }

-- A text comes from another one by edits of it, and then edits of what these have made, round by round.
pub data IsLowered : (text new : List ℕ) → Type 0 where
  Same : {text : List ℕ} → IsLowered text text
  Round : {text between new : List ℕ} → IsLowered text between → IsEdited between new → IsLowered text new
