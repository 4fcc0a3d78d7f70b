-- The words of the frame that loops over ranges hold, and what gives the parameter its next value (RM 5.5).
use Rattle.std.specs.Prelude.{ℕ, Bool, true, false, if◌then◌else◌}
use Rattle.image.specs.declared.instruction.Operation.{Operation}
use Rattle.image.specs.declared.instruction.Operation.TheVariants as op
use Rattle.part_code.specs.declared.turns.Turns.{Turns}

-- where each bound is kept: the parameter begins with the one, and ends with the other
abbrev pub word_of_first : Turns → ℕ
word_of_first t = if t.reversed then t.limit else t.counter

abbrev pub word_of_last : Turns → ℕ
word_of_last t = if t.reversed then t.counter else t.limit

-- what makes the next value
abbrev pub next_operation : (reversed : Bool) → Operation
next_operation true = op.Subtract
next_operation false = op.Add
