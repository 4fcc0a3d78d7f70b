-- The lines that were written have no part in what the next step raises.
use Rattle.std.proofs.Common.{◌≡◌, ℕ, List, Option, Some, None, refl, ap, ◌∙◌, slice_get}
use Rattle.base.specs.declared.schedule.ScheduleLine.{ScheduleLine}
use Rattle.kernel.specs.State as kernel
use Rattle.kernel.specs.State.{Kernel}
use Rattle.kernel.specs.Worlds.{Solo}
use Rattle.image.specs.Frames.{TaskState, Words}
use Rattle.image.specs.Operations.{called}
use Rattle.image.specs.Sections.{Sections}
use Rattle.image.specs.Steps.{Stepped}
use Rattle.image.specs.declared.instruction.Instr.{Instr}
use Rattle.image.specs.declared.instruction.Operation.{Operation}
use Rattle.image.specs.declared.instruction.Operation.TheVariants as op
use Rattle.image.specs.declared.subprograms.Kind.{Kind}
use Rattle.image.specs.declared.subprograms.Kind.TheVariants as kinds
use Rattle.image.specs.declared.subprograms.Subprogram.{Subprogram}
use Rattle.image_laws.specs.Whole.{LinesUnread}
use Rattle.task_steps.specs.Raised.{cause_here, death_of, exposed, external_cause, instruction_cause, operation_cause, protected_cause, raised, raising_ahead, raising_of, unhandled, where_refused}

module _ (i : Sections) (k : Kernel) (lines : List kernel.Line) (t : ℕ) where
  -- the kernel with these lines
  abbrev told : Kernel
  told = record k { lines = lines }

  external_same : (kind : Kind) → external_cause told t kind ≡ external_cause k t kind
  external_same (kinds.ProtectedProcedure o) = refl
  external_same (kinds.ProtectedFunction o) = refl
  external_same kinds.Plain = refl
  external_same (kinds.EntryBody o) = refl
  external_same kinds.TaskBody = refl

  protected_same : (s : Option Subprogram) → protected_cause told t s ≡ protected_cause k t s
  protected_same None = refl
  protected_same (Some s) = external_same s.kind

  operation_same : (o : Operation) → operation_cause i told t o ≡ operation_cause i k t o
  operation_same (op.ProtectedCall n) = protected_same (called i n)
  operation_same (op.EntryCall o) = refl
  operation_same op.CheckBlocking = refl
  operation_same op.DelayUntil = refl
  operation_same _ = refl

  instruction_same : (x : Option Instr) → instruction_cause i told t x ≡ instruction_cause i k t x
  instruction_same None = refl
  instruction_same (Some x) = operation_same x.operation

  cause_same : (s : TaskState) (x : Option ℕ) → cause_here i told t s x ≡ cause_here i k t s x
  cause_same s (Some x) = refl
  cause_same s None = instruction_same (slice_get i.instructions s.frame.place)

  pub ahead_same : LinesUnread → (schedule : List ScheduleLine) (s : Solo Words TaskState) → raising_ahead i schedule told t s ≡ raising_ahead i schedule k t s
  ahead_same unread schedule s =
      let raises : raised i schedule told t s ≡ raised i schedule k t s =
      ap (λ (a : Stepped). death_of a.effect) (unread (unhandled i) schedule k lines t (record s { task = exposed s.task })) in
      ap (λ x. raising_of (where_refused x (cause_here i told t s.task s.task.raising)) s.task x) raises
      ∙ ap (λ c. raising_of (where_refused (raised i schedule k t s) c) s.task (raised i schedule k t s)) (cause_same s.task s.task.raising)
