-- Which exception the next step of a task raises, and what refuses what it asks for (docs/FORMATS.md, "Instructions").
use Rattle.std.specs.Prelude.{ℕ, List, [], map, is_some, nat_eq, Option, Some, None, slice_get, if◌then◌else◌}
use Rattle.base.specs.Exceptions.{number_of}
use Rattle.base.specs.declared.exceptions.PredefinedException.TheVariants.{ProgramError}
use Rattle.base.specs.declared.schedule.ScheduleLine.{ScheduleLine}
use Rattle.kernel.specs.State.{Kernel}
use Rattle.kernel.specs.Effects.{Dies, Effect, Refusal, SameObject, AboveCeiling, call_refusal, is_above_ceiling, is_full, is_inside_any}
use Rattle.kernel.specs.Worlds.{Solo}
use Rattle.image.specs.Frames.{Frame, Inner, TaskState, Words}
use Rattle.image.specs.Operations.{called}
use Rattle.image.specs.Sections.{Sections}
use Rattle.image.specs.Steps.{act}
use Rattle.image.specs.declared.instruction.Instr.{Instr}
use Rattle.image.specs.declared.instruction.Operation.{Operation}
use Rattle.image.specs.declared.instruction.Operation.TheVariants.{CheckBlocking, DelayUntil, EntryCall, ProtectedCall}
use Rattle.image.specs.declared.subprograms.Kind.{Kind}
use Rattle.image.specs.declared.subprograms.Kind.TheVariants.{ProtectedFunction, ProtectedProcedure}
use Rattle.image.specs.declared.subprograms.Subprogram.{Subprogram}
use Rattle.task_steps.specs.declared.foreseeing.Cause.{Cause}
use Rattle.task_steps.specs.declared.foreseeing.Cause.TheVariants as causes
use Rattle.task_steps.specs.declared.foreseeing.Raising.{Raising}

-- Exceptions

-- the image without handlers
abbrev pub unhandled : Sections → Sections
unhandled i = record i { rows = [] }

-- a frame as one whose call has opened no action
abbrev pub unopened : Frame → Frame
unopened f = record f { role = Inner }

-- the task, where no end of an action stands in the way of an exception
abbrev pub exposed : TaskState → TaskState
exposed s = record s { frame = unopened s.frame; callers = map unopened s.callers }

abbrev pub death_of : Effect → Option ℕ
death_of (Dies x) = Some x
death_of e = None

-- the exception that the step raises, handled or not: that of which the task would die if nothing handled it and it left no action
abbrev pub raised : Sections → List ScheduleLine → Kernel → ℕ → Solo Words TaskState → Option ℕ
raised i schedule k t s = death_of (act (unhandled i) schedule k t (record s { task = exposed s.task })).effect

-- Refusals, each of which raises Program_Error

abbrev pub refused_call : ℕ → Option Refusal → Option Cause
refused_call o None = None
refused_call o (Some SameObject) = Some (causes.InsideObject o)
refused_call o (Some AboveCeiling) = Some (causes.AboveCeiling o)

abbrev pub external_cause : Kernel → ℕ → Kind → Option Cause
external_cause k t (ProtectedProcedure o) = refused_call o (call_refusal k t o)
external_cause k t (ProtectedFunction o) = refused_call o (call_refusal k t o)
external_cause k t _ = None

abbrev pub protected_cause : Kernel → ℕ → Option Subprogram → Option Cause
protected_cause k t None = None
protected_cause k t (Some s) = external_cause k t s.kind

abbrev pub entry_cause : Kernel → ℕ → ℕ → Option Cause
entry_cause k t o =
    if is_inside_any k t then Some (causes.InsideAction o)
    else if is_above_ceiling k t o then Some (causes.AboveCeiling o)
    else if is_full k o then Some (causes.QueueFull o)
    else None

abbrev pub blocking_cause : Kernel → ℕ → Option Cause
blocking_cause k t = if is_inside_any k t then Some causes.MayNotBlock else None

abbrev pub operation_cause : Sections → Kernel → ℕ → Operation → Option Cause
operation_cause i k t (ProtectedCall n) = protected_cause k t (called i n)
operation_cause i k t (EntryCall o) = entry_cause k t o
operation_cause i k t CheckBlocking = blocking_cause k t
operation_cause i k t DelayUntil = blocking_cause k t
operation_cause i k t operation = None

abbrev pub instruction_cause : Sections → Kernel → ℕ → Option Instr → Option Cause
instruction_cause i k t None = None
instruction_cause i k t (Some x) = operation_cause i k t x.operation

-- an exception that is still to be raised was raised before
abbrev pub cause_here : Sections → Kernel → ℕ → TaskState → Option ℕ → Option Cause
cause_here i k t s (Some x) = None
cause_here i k t s None = instruction_cause i k t (slice_get i.instructions s.frame.place)

abbrev pub where_refused : Option ℕ → Option Cause → Option Cause
where_refused None cause = None
where_refused (Some x) cause = if nat_eq x (number_of ProgramError) then cause else None

-- why the step raises Program_Error, where it is refused what it asks for
abbrev pub refused : Sections → List ScheduleLine → Kernel → ℕ → Solo Words TaskState → Option Cause
refused i schedule k t s = where_refused (raised i schedule k t s) (cause_here i k t s.task s.task.raising)

-- What is told of the exception: whether it was raised before, in an action that is over, and is raised again at the call (RM 9.5.3, 11.4);
-- where it is raised; and why, where something is refused

abbrev pub raising_of : Option Cause → TaskState → Option ℕ → Option Raising
raising_of cause s None = None
raising_of cause s (Some x) =
    Some (record { exception = x; is_pending = is_some s.raising; subprogram = s.frame.subprogram; place = s.frame.place; cause = cause })

abbrev pub raising_ahead : Sections → List ScheduleLine → Kernel → ℕ → Solo Words TaskState → Option Raising
raising_ahead i schedule k t s = raising_of (refused i schedule k t s) s.task (raised i schedule k t s)
