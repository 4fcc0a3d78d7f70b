-- What the next step of a task asks for beside the operation of an object: to wait for a time, or an input (docs/FORMATS.md, "Instructions").
use Rattle.std.specs.Prelude.{ℕ, ℤ, List, [], ◌∷◌, Option, Some, None, Ok, Err, slice_get, if◌then◌else◌}
use Rattle.base.specs.Arithmetic.{Checked}
use Rattle.base.specs.declared.schedule.ScheduleLine.{ScheduleLine}
use Rattle.kernel.specs.State.{Kernel}
use Rattle.kernel.specs.Effects.{is_inside_any}
use Rattle.image.specs.Frames.{TaskState}
use Rattle.image.specs.Scalars.{input_of}
use Rattle.image.specs.Sections.{Sections}
use Rattle.image.specs.declared.instruction.Instr.{Instr}
use Rattle.image.specs.declared.instruction.Operation.{Operation}
use Rattle.image.specs.declared.instruction.Operation.TheVariants.{DelayUntil, ReadInput}
use Rattle.task_steps.specs.declared.asking.Asking.{Asking}
use Rattle.task_steps.specs.declared.asking.Asking.TheVariants.{Waits, Reads}

-- by the operand stack: the time on it, unless an action is open, which refuses what may block
abbrev pub asked_wait : Kernel → ℕ → List ℤ → Option Asking
asked_wait k t [] = None
asked_wait k t (until ∷ stack) = if is_inside_any k t then None else Some (Waits until)

-- by the value of the channel, if there is such a channel
abbrev pub asked_value : (channel : ℤ) → Checked → Option Asking
asked_value channel (Ok value) = Some (Reads channel value)
asked_value channel (Err exception) = None

-- by the operand stack: the channel on it, and its value now
abbrev pub asked_input : List ScheduleLine → (now : ℤ) → List ℤ → Option Asking
asked_input schedule now [] = None
asked_input schedule now (channel ∷ stack) = asked_value channel (input_of schedule now channel)

abbrev pub operation_asks : List ScheduleLine → Kernel → ℕ → (stack : List ℤ) → Operation → Option Asking
operation_asks schedule k t stack DelayUntil = asked_wait k t stack
operation_asks schedule k t stack ReadInput = asked_input schedule k.now stack
operation_asks schedule k t stack operation = None

abbrev pub instruction_asks : List ScheduleLine → Kernel → ℕ → (stack : List ℤ) → Option Instr → Option Asking
instruction_asks schedule k t stack None = None
instruction_asks schedule k t stack (Some x) = operation_asks schedule k t stack x.operation

-- an exception that is still to be raised comes first
abbrev pub unless_raising : Option ℕ → Option Asking → Option Asking
unless_raising (Some x) asking = None
unless_raising None asking = asking

abbrev pub asking_ahead : Sections → List ScheduleLine → Kernel → ℕ → TaskState → Option Asking
asking_ahead i schedule k t s = unless_raising s.raising (instruction_asks schedule k t s.frame.stack (slice_get i.instructions s.frame.place))
