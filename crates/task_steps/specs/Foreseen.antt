-- The exception of the next step, operation by operation; nobody has to believe this.
use Rattle.std.specs.Prelude.{ℕ, ℤ, List, [], ◌∷◌, length, ◌||◌, nat_le, nat_lt, Option, Some, None, Ok, Err, slice_get, if◌then◌else◌}
use Rattle.base.specs.Arithmetic.{Checked, absolute_of, difference_of, modulus_of, negation_of, product_of, quotient_of, remainder_of, sum_of}
use Rattle.base.specs.Exceptions.{number_of}
use Rattle.base.specs.declared.exceptions.PredefinedException.TheVariants.{ProgramError, StorageError}
use Rattle.base.specs.declared.limits.TheConstants.{FRAMES}
use Rattle.base.specs.declared.schedule.ScheduleLine.{ScheduleLine}
use Rattle.kernel.specs.State.{Kernel}
use Rattle.kernel.specs.Effects.{Refusal, call_refusal, is_above_ceiling, is_full, is_inside_any}
use Rattle.image.specs.Sections.{Sections}
use Rattle.image.specs.Operations.{called, entry_of}
use Rattle.image.specs.Frames.{Frame, Words}
use Rattle.image.specs.Scalars.{exception_of, in_bounds, input_of}
use Rattle.image.specs.Steps.{is_open}
use Rattle.image.specs.declared.instruction.Instr.{Instr}
use Rattle.image.specs.declared.instruction.Operation.{Operation}
use Rattle.image.specs.declared.instruction.Operation.TheVariants.{Absolute, Add, Call, CheckBlocking, CheckRange, DelayUntil, Divide, EntryCall, Modulo, Multiply, Negate, ProtectedCall, Raise, ReadInput, Remainder, Subtract}
use Rattle.image.specs.declared.subprograms.Kind.{Kind}
use Rattle.image.specs.declared.subprograms.Kind.TheVariants.{ProtectedFunction, ProtectedProcedure}
use Rattle.image.specs.declared.subprograms.Subprogram.{Subprogram}

abbrev pub failure : Checked → Option ℕ
failure (Ok v) = None
failure (Err x) = Some (number_of x)

-- of the words on top, the deepest one first
abbrev pub of_one : (ℤ → Option ℕ) → List ℤ → Option ℕ
of_one told [] = None
of_one told (x ∷ stack) = told x

abbrev pub of_two : (ℤ → ℤ → Option ℕ) → List ℤ → Option ℕ
of_two told [] = None
of_two told (y ∷ []) = None
of_two told (y ∷ x ∷ stack) = told x y

abbrev pub of_three : (ℤ → ℤ → ℤ → Option ℕ) → List ℤ → Option ℕ
of_three told [] = None
of_three told (z ∷ []) = None
of_three told (z ∷ y ∷ []) = None
of_three told (z ∷ y ∷ x ∷ stack) = told x y z

abbrev pub of_value : (ℤ → Checked) → List ℤ → Option ℕ
of_value value stack = of_one (λ x. failure (value x)) stack

abbrev pub of_values : (ℤ → ℤ → Checked) → List ℤ → Option ℕ
of_values value stack = of_two (λ x y. failure (value x y)) stack

abbrev pub word_failure : Operation → List ℤ → Option ℕ
word_failure Negate stack = of_value negation_of stack
word_failure Absolute stack = of_value absolute_of stack
word_failure operation stack = None

abbrev pub words_failure : Operation → List ℤ → Option ℕ
words_failure Add stack = of_values sum_of stack
words_failure Subtract stack = of_values difference_of stack
words_failure Multiply stack = of_values product_of stack
words_failure Divide stack = of_values quotient_of stack
words_failure Modulo stack = of_values modulus_of stack
words_failure Remainder stack = of_values remainder_of stack
words_failure operation stack = None

abbrev pub program_error : Option ℕ
program_error = Some (number_of ProgramError)

-- a call needs its parameters on the operand stack, of so many words, and a frame behind those `in_use`

abbrev pub with_frame : (in_use : ℕ) → Option ℕ → Option ℕ
with_frame in_use go = if nat_lt in_use FRAMES then go else Some (number_of StorageError)

abbrev pub with_words : (stack : ℕ) → Subprogram → Option ℕ → Option ℕ
with_words stack s go = if nat_le s.parameters stack then go else None

abbrev pub of_call : (in_use stack : ℕ) → Option Subprogram → Option ℕ
of_call in_use stack None = None
of_call in_use stack (Some s) = with_words stack s (with_frame in_use None)

abbrev pub unless : Option Refusal → Option ℕ → Option ℕ
unless None go = go
unless (Some r) go = program_error

abbrev pub of_external : Kernel → ℕ → (in_use : ℕ) → Kind → Option ℕ
of_external k t in_use (ProtectedProcedure o) = unless (call_refusal k t o) (with_frame in_use None)
of_external k t in_use (ProtectedFunction o) = unless (call_refusal k t o) (with_frame in_use None)
of_external k t in_use kind = None

abbrev pub of_protected : Kernel → ℕ → (in_use stack : ℕ) → Option Subprogram → Option ℕ
of_protected k t in_use stack None = None
of_protected k t in_use stack (Some s) = with_words stack s (of_external k t in_use s.kind)

abbrev pub of_queue : Kernel → ℕ → Option ℕ
of_queue k o = if is_full k o then program_error else None

abbrev pub of_entry_call : Sections → Kernel → ℕ → Words → (in_use : ℕ) → ℕ → Option ℕ
of_entry_call i k t m in_use o =
    if is_inside_any k t || is_above_ceiling k t o then program_error else with_frame in_use (if is_open i m o then None else of_queue k o)

abbrev pub of_entry_at : Sections → Kernel → ℕ → Words → (in_use stack : ℕ) → ℕ → Option Subprogram → Option ℕ
of_entry_at i k t m in_use stack o None = None
of_entry_at i k t m in_use stack o (Some s) = with_words stack s (of_entry_call i k t m in_use o)

abbrev pub of_entry : Sections → Kernel → ℕ → Words → (in_use stack : ℕ) → ℕ → Option ℕ → Option ℕ
of_entry i k t m in_use stack o None = None
of_entry i k t m in_use stack o (Some n) = of_entry_at i k t m in_use stack o (called i n)

abbrev pub of_blocking : Kernel → ℕ → Option ℕ
of_blocking k t = if is_inside_any k t then program_error else None

-- so many frames are `in_use`
module _ (i : Sections) (schedule : List ScheduleLine) (k : Kernel) (t : ℕ) (m : Words) (f : Frame) (in_use : ℕ) where
  abbrev pub of_operation : Operation → Option ℕ
  of_operation Negate = of_value negation_of f.stack
  of_operation Absolute = of_value absolute_of f.stack
  of_operation Add = of_values sum_of f.stack
  of_operation Subtract = of_values difference_of f.stack
  of_operation Multiply = of_values product_of f.stack
  of_operation Divide = of_values quotient_of f.stack
  of_operation Modulo = of_values modulus_of f.stack
  of_operation Remainder = of_values remainder_of f.stack
  of_operation CheckRange = of_three (λ v least most. failure (in_bounds least most v)) f.stack
  of_operation (Call n) = of_call in_use (length f.stack) (called i n)
  of_operation (ProtectedCall n) = of_protected k t in_use (length f.stack) (called i n)
  of_operation (EntryCall o) = of_entry i k t m in_use (length f.stack) o (entry_of (slice_get i.objects o))
  of_operation Raise = of_one (exception_of (length i.exceptions)) f.stack
  of_operation CheckBlocking = of_blocking k t
  of_operation DelayUntil = of_one (λ until. of_blocking k t) f.stack
  of_operation ReadInput = of_value (input_of schedule k.now) f.stack
  of_operation operation = None

  abbrev pub of_instruction : Option Instr → Option ℕ
  of_instruction None = None
  of_instruction (Some x) = of_operation x.operation

  abbrev pub foreseen : Option ℕ → Option ℕ
  foreseen (Some x) = Some x
  foreseen None = of_instruction (slice_get i.instructions f.place)
