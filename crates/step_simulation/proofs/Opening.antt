-- The frames of calls of procedures, which may open an action: what refuses a call, and the frame of the body.
use Rattle.std.proofs.Common.{◌≡◌, ℕ, ◌+◌, ◌-◌, ◌<◌, ◌≤◌, ℤ, List, [], ◌∷◌, ◌++◌, length, Option, Some, None, Bool, true, false, cond, refl, ap, ◌∙◌}
use Rattle.std.specs.Prelude.{pos, replicate, reverse, slice_get, ◌||◌, if◌then◌else◌}
use Rattle.part_code.specs.ada_tree.specs.ExpressionTree.{ExprTree}
use Rattle.part_code.specs.base.specs.Exceptions.{number_of}
use Rattle.part_code.specs.base.specs.declared.exceptions.PredefinedException.TheVariants.{ProgramError, StorageError}
use Rattle.part_code.specs.base.specs.declared.limits.TheConstants.{FRAMES}
use Rattle.part_code.specs.base.specs.declared.schedule.ScheduleLine.{ScheduleLine}
use Rattle.kernel.specs.State.{Kernel}
use Rattle.kernel.specs.Effects.{Effect, Opens, Queues, Quiet, Refusal, call_refusal, is_above_ceiling, is_full, is_inside_any}
use Rattle.kernel.specs.Laws.{QuietStays}
use Rattle.part_code.specs.image.specs.Sections.{Sections, first_place, object_of}
use Rattle.part_code.specs.image.specs.Operations.{called, entry_of}
use Rattle.part_code.specs.image.specs.Frames.{Opened, Words, Frame, frames_in_use, new_frame}
use Rattle.part_code.specs.image.specs.Steps as step
use Rattle.part_code.specs.image.specs.Steps.{act, does, unwind}
use Rattle.part_code.specs.image.specs.declared.instruction.Operation.TheVariants as op
use Rattle.part_code.specs.image.specs.declared.subprograms.Kind.{Kind}
use Rattle.part_code.specs.image.specs.declared.subprograms.Kind.TheVariants.{ProtectedProcedure}
use Rattle.part_code.specs.image.specs.declared.subprograms.Subprogram.{Subprogram}
use Rattle.part_code.specs.expr_code.specs.Views.{At, in_frame, placed}
use Rattle.part_code.specs.expr_code.proofs.CallFrames as frames
use Rattle.part_code.specs.expr_code.proofs.CallFrames.{arguments_are, base_is, enough, is_less, is_not_less}
use Rattle.part_code.specs.expr_code.proofs.CallRefusals.{refusal_stays}
use Rattle.part_code.specs.expr_code.proofs.Coming.{acts}
use Rattle.part_code.specs.Statements.{procedure_kind, procedure_operation}
use Rattle.step_simulation.specs.Standing.{role_of}

-- what refuses a call through this object, or through none; and the effect of one that isn't refused
abbrev pub refusal_of : Kernel → ℕ → (through : Option ℕ) → Option Refusal
refusal_of k t None = None
refusal_of k t (Some o) = call_refusal k t o

abbrev pub effect_of : (through : Option ℕ) → Effect
effect_of None = Quiet
effect_of (Some o) = Opens o

-- it is the same in kernels that know the same of the task
pub refusal_kept : (k l : Kernel) (t : ℕ) (through : Option ℕ) → l.actions t ≡ k.actions t → l.partition ≡ k.partition
    → refusal_of l t through ≡ refusal_of k t through
refusal_kept k l t None opened ranked = refl
refusal_kept k l t (Some o) opened ranked = refusal_stays k l t o opened ranked

-- the object of a procedure's subprogram is the procedure's
pub object_is : (object : Option ℕ) (barrier : Option ExprTree) → object_of (procedure_kind object barrier) ≡ object
object_is None barrier = refl
object_is (Some o) None = refl
object_is (Some o) (Some barrier) = refl

-- a subprogram that is called through an object is a procedure of it
abbrev pub IsThrough : (through : Option ℕ) → Kind → Type 0
IsThrough None kind = Unit {0}
IsThrough (Some o) kind = kind ≡ ProtectedProcedure o

module _ (quiet : QuietStays) (i : Sections) (n : ℕ) (s : Subprogram) (there : called i n ≡ Some s) where
  -- the frame of the body
  abbrev pub body_frame : (through : Option ℕ) → (args : List ℤ) → Frame
  body_frame through args = record {
    subprogram = n;
    place = first_place i n;
    locals = args ++ replicate (s.locals - s.parameters) (pos 0);
    stack = [];
    role = role_of through;
  }

  module _ (schedule : List ScheduleLine) (k : Kernel) (t : ℕ) (m : Words) (f : Frame) (fs : List Frame) (at : ℕ) (base args : List ℤ)
      (many : length args ≡ s.parameters) where
    abbrev pub at_call : Frame
    at_call = placed f at (reverse args ++ base)

    -- ---- through an object

    module _ (o : ℕ) (kind : s.kind ≡ ProtectedProcedure o) (here : At i at (op.ProtectedCall n)) where
      abbrev enters_it : step.Stepped
      enters_it = step.enters i schedule k t m at_call fs (Opens o) (Opened o) n s

      external_is : act i schedule k t (in_frame m at_call fs)
          ≡ step.unless_refused i schedule k t m at_call fs (call_refusal k t o) (step.with_frame_left i schedule k t m at_call fs enters_it)
      external_is =
          acts quiet i at (op.ProtectedCall n) here schedule k t m f fs (reverse args ++ base)
          ∙ ap (λ q. step.protected_call i schedule k t m at_call fs n q) there
          ∙ ap (λ b. cond b (step.external_call i schedule k t m at_call fs n s s.kind) (step.breaks i schedule k t m at_call fs))
          (enough s.parameters args base many)
          ∙ ap (λ q. step.external_call i schedule k t m at_call fs n s q) kind

      unrefused : call_refusal k t o ≡ None → act i schedule k t (in_frame m at_call fs) ≡ step.with_frame_left i schedule k t m at_call fs enters_it
      unrefused none =
          external_is ∙ ap (λ r. step.unless_refused i schedule k t m at_call fs r (step.with_frame_left i schedule k t m at_call fs enters_it)) none

      enters_object : call_refusal k t o ≡ None → frames_in_use k.partition t fs < FRAMES
          → act i schedule k t (in_frame m at_call fs) ≡ does (Opens o) m (body_frame (Some o) args) (placed f at base ∷ fs) None None
      enters_object none few =
          unrefused none
          ∙ ap (λ b. cond b enters_it (step.raises i schedule k t m at_call fs StorageError)) (is_less (frames_in_use k.partition t fs) FRAMES few)
          ∙ (λ j. does (Opens o) m (new_frame i n s (arguments_are s.parameters args base many j) (Opened o))
          (placed f at (base_is s.parameters args base many j) ∷ fs) None None)

      full_object : call_refusal k t o ≡ None → FRAMES ≤ frames_in_use k.partition t fs
          → act i schedule k t (in_frame m at_call fs) ≡ unwind i m (number_of StorageError) at_call fs
      full_object none full =
          unrefused none
          ∙ ap (λ b. cond b enters_it (step.raises i schedule k t m at_call fs StorageError)) (is_not_less (frames_in_use k.partition t fs) FRAMES full)

      refused_object : (r : Refusal) → call_refusal k t o ≡ Some r
          → act i schedule k t (in_frame m at_call fs) ≡ unwind i m (number_of ProgramError) at_call fs
      refused_object r is =
          external_is ∙ ap (λ q. step.unless_refused i schedule k t m at_call fs q (step.with_frame_left i schedule k t m at_call fs enters_it)) is

    -- ---- both ways

    pub enters : (through : Option ℕ) → IsThrough through s.kind → At i at (procedure_operation through n) → refusal_of k t through ≡ None
        → frames_in_use k.partition t fs < FRAMES
        → act i schedule k t (in_frame m at_call fs) ≡ does (effect_of through) m (body_frame through args) (placed f at base ∷ fs) None None
    enters None kind here none few = frames.enters quiet i n s there schedule k t m f fs at base args here many few
    enters (Some o) kind here none few = enters_object o kind here none few

    pub full : (through : Option ℕ) → IsThrough through s.kind → At i at (procedure_operation through n) → refusal_of k t through ≡ None
        → FRAMES ≤ frames_in_use k.partition t fs
        → act i schedule k t (in_frame m at_call fs) ≡ unwind i m (number_of StorageError) at_call fs
    full None kind here none many_frames = frames.refused quiet i n s there schedule k t m f fs at base args here many many_frames
    full (Some o) kind here none many_frames = full_object o kind here none many_frames

    pub refused : (through : Option ℕ) → IsThrough through s.kind → At i at (procedure_operation through n) → (r : Refusal)
        → refusal_of k t through ≡ Some r
        → act i schedule k t (in_frame m at_call fs) ≡ unwind i m (number_of ProgramError) at_call fs
    refused None kind here r is = absurd cc
    refused (Some o) kind here r is = refused_object o kind here r is

    -- ---- an entry through its object (RM 9.5.3)

    module _ (o : ℕ) (row : entry_of (slice_get i.objects o) ≡ Some n) (here : At i at (op.EntryCall o)) where
      abbrev enters_entry : step.Stepped
      enters_entry = step.enters i schedule k t m at_call fs (Opens o) (Opened o) n s

      abbrev open_or_queue : Bool → step.Stepped
      open_or_queue b = if b then enters_entry else step.queues i schedule k t m at_call fs o

      entry_is : act i schedule k t (in_frame m at_call fs) ≡ step.entry_call_of i schedule k t m at_call fs o n s
      entry_is =
          acts quiet i at (op.EntryCall o) here schedule k t m f fs (reverse args ++ base)
          ∙ ap (λ q. step.entry_call i schedule k t m at_call fs o q) row
          ∙ ap (λ q. step.entry_call_at i schedule k t m at_call fs o n q) there
          ∙ ap (λ b. cond b (step.entry_call_of i schedule k t m at_call fs o n s) (step.breaks i schedule k t m at_call fs))
          (enough s.parameters args base many)

      -- within an action, or above the ceiling
      abbrev refused_by : (inside above : Bool) → step.Stepped
      refused_by inside above =
          if inside || above then step.raises i schedule k t m at_call fs ProgramError
          else step.with_frame_left i schedule k t m at_call fs (open_or_queue (step.is_open i m o))

      pub above_ceiling : is_inside_any k t ≡ false → is_above_ceiling k t o ≡ true
          → act i schedule k t (in_frame m at_call fs) ≡ unwind i m (number_of ProgramError) at_call fs
      above_ceiling free above = entry_is ∙ (λ j. refused_by (free j) (above j))

      passed : is_inside_any k t ≡ false → is_above_ceiling k t o ≡ false
          → act i schedule k t (in_frame m at_call fs) ≡ step.with_frame_left i schedule k t m at_call fs (open_or_queue (step.is_open i m o))
      passed free below = entry_is ∙ (λ j. refused_by (free j) (below j))

      pub no_frame : is_inside_any k t ≡ false → is_above_ceiling k t o ≡ false → FRAMES ≤ frames_in_use k.partition t fs
          → act i schedule k t (in_frame m at_call fs) ≡ unwind i m (number_of StorageError) at_call fs
      no_frame free below full =
          passed free below
          ∙ ap (λ b. cond b (open_or_queue (step.is_open i m o)) (step.raises i schedule k t m at_call fs StorageError))
          (is_not_less (frames_in_use k.partition t fs) FRAMES full)

      by_barrier : is_inside_any k t ≡ false → is_above_ceiling k t o ≡ false → frames_in_use k.partition t fs < FRAMES → (b : Bool) → step.is_open i m o ≡ b
          → act i schedule k t (in_frame m at_call fs) ≡ open_or_queue b
      by_barrier free below few b is =
          passed free below
          ∙ ap (λ b. cond b (open_or_queue (step.is_open i m o)) (step.raises i schedule k t m at_call fs StorageError))
          (is_less (frames_in_use k.partition t fs) FRAMES few)
          ∙ ap open_or_queue is

      pub opens_entry : is_inside_any k t ≡ false → is_above_ceiling k t o ≡ false → frames_in_use k.partition t fs < FRAMES → step.is_open i m o ≡ true
          → act i schedule k t (in_frame m at_call fs) ≡ does (Opens o) m (body_frame (Some o) args) (placed f at base ∷ fs) None None
      opens_entry free below few is =
          by_barrier free below few true is
          ∙ (λ j. does (Opens o) m (new_frame i n s (arguments_are s.parameters args base many j) (Opened o))
          (placed f at (base_is s.parameters args base many j) ∷ fs) None None)

      pub waits_at_entry : is_inside_any k t ≡ false → is_above_ceiling k t o ≡ false → frames_in_use k.partition t fs < FRAMES → step.is_open i m o ≡ false
          → is_full k o ≡ false
          → act i schedule k t (in_frame m at_call fs) ≡ does (Queues o) m at_call fs None None
      waits_at_entry free below few is free_queue =
          by_barrier free below few false is
          ∙ ap (λ b. if b then step.raises i schedule k t m at_call fs ProgramError else does (Queues o) m at_call fs None None) free_queue

      pub full_queue : is_inside_any k t ≡ false → is_above_ceiling k t o ≡ false → frames_in_use k.partition t fs < FRAMES → step.is_open i m o ≡ false
          → is_full k o ≡ true
          → act i schedule k t (in_frame m at_call fs) ≡ unwind i m (number_of ProgramError) at_call fs
      full_queue free below few is full =
          by_barrier free below few false is
          ∙ ap (λ b. if b then step.raises i schedule k t m at_call fs ProgramError else does (Queues o) m at_call fs None None) full
