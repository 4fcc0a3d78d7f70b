-- The frames of calls: the actual parameters leave the operand stack and are the first words of the callee's frame, unless the call is refused.
use Rattle.std.proofs.Common.{◌≡◌, ℕ, zero, suc, ◌+◌, ◌-◌, ◌<◌, ◌≤◌, ℤ, List, [], ◌∷◌, ◌++◌, length, Bool, Some, None, true, false, cond, refl, sym, ap, ◌∙◌, arith, rules}
use Rattle.std.specs.Prelude.{reverse, take, drop, replicate, pos, nat_le, nat_lt}
use Rattle.std.proofs.lemmas.List.{reverse-reverse}
use Rattle.std.proofs.lemmas.Grind.{reverse_onto}
use Rattle.base.specs.Exceptions.{number_of}
use Rattle.base.specs.declared.exceptions.PredefinedException.TheVariants.{ProgramError, StorageError}
use Rattle.base.specs.declared.limits.TheConstants.{FRAMES}
use Rattle.base.specs.declared.schedule.ScheduleLine.{ScheduleLine}
use Rattle.kernel.specs.State.{Kernel, Partition, is_task}
use Rattle.kernel.specs.Effects.{Quiet, Refusal, Views, call_refusal}
use Rattle.kernel.specs.Laws.{QuietStays}
use Rattle.image.specs.Sections.{Sections, first_place}
use Rattle.image.specs.Operations.{called}
use Rattle.image.specs.Frames.{Words, Inner, Opened, Frame, arguments, frames_counted, frames_in_use, new_frame}
use Rattle.image.specs.Steps.{act, unwind, does}
use Rattle.image.specs.Steps as step
use Rattle.image.specs.declared.instruction.Operation.TheVariants as op
use Rattle.image.specs.declared.subprograms.Kind.TheVariants.{ProtectedFunction}
use Rattle.image.specs.declared.subprograms.Subprogram.{Subprogram}
use Rattle.expr_code.specs.Views.{At, in_frame, placed}
use Rattle.expr_code.proofs.Coming.{acts}

-- ---- lists

pub take_front : (xs ys : List ℤ) → take (length xs) (xs ++ ys) ≡ xs
take_front [] ys = refl
take_front (x ∷ xs) ys = ap (λ l. x ∷ l) (take_front xs ys)

drop_front : (xs ys : List ℤ) → drop (length xs) (xs ++ ys) ≡ ys
drop_front [] ys = refl
drop_front (x ∷ xs) ys = drop_front xs ys

ends : (ys : List ℤ) (y : ℤ) → length (ys ++ (y ∷ [])) ≡ suc (length ys)
ends [] y = refl
ends (z ∷ ys) y = ap suc (ends ys y)

pub length_reverse : (xs : List ℤ) → length (reverse xs) ≡ length xs
length_reverse [] = refl
length_reverse (x ∷ xs) = ap length (reverse_onto xs x []) ∙ ends (reverse xs) x ∙ ap suc (length_reverse xs)

joined : (xs ys : List ℤ) → length (xs ++ ys) ≡ length xs + length ys
joined [] ys = omega arith
joined (x ∷ xs) ys = let h = joined xs ys in omega (arith, h)

pub below : (n m : ℕ) → n ≤ m → nat_le n m ≡ true
below n m h = search rules

pub arguments_are : (n : ℕ) (args base : List ℤ) → length args ≡ n → arguments n (reverse args ++ base) ≡ args
arguments_are n args base e = ap (λ k. reverse (take k (reverse args ++ base))) (sym e ∙ sym (length_reverse args)) ∙ ap reverse (take_front (reverse args) base) ∙ reverse-reverse args

pub base_is : (n : ℕ) (args base : List ℤ) → length args ≡ n → drop n (reverse args ++ base) ≡ base
base_is n args base e = ap (λ k. drop k (reverse args ++ base)) (sym e ∙ sym (length_reverse args)) ∙ drop_front (reverse args) base

pub enough : (n : ℕ) (args base : List ℤ) → length args ≡ n → nat_le n (length (reverse args ++ base)) ≡ true
enough n args base e = let l = length_reverse args in let j = joined (reverse args) base in below n (length (reverse args ++ base)) (omega (arith, e, l, j))

pub is_less : (n m : ℕ) → n < m → nat_lt n m ≡ true
is_less n m h = search rules

pub is_not_less : (n m : ℕ) → m ≤ n → nat_lt n m ≡ false
is_not_less n m h = search rules

pub replicated : (n : ℕ) → length (replicate n (pos 0)) ≡ n
replicated zero = refl
replicated (suc n) = ap suc (replicated n)

-- one frame more
pub frames_more : (p : Partition) (t : ℕ) (f : Frame) (fs : List Frame) → frames_in_use p t (f ∷ fs) ≡ suc (frames_in_use p t fs)
frames_more p t f fs = by_task (is_task p t)
  where
    by_task : (b : Bool) → frames_counted b (f ∷ fs) ≡ suc (frames_counted b fs)
    by_task true = omega arith
    by_task false = omega arith

-- ---- a call within an object, or of a subprogram that has none

module _ (quiet : QuietStays) (i : Sections) (g : ℕ) (s : Subprogram) (there : called i g ≡ Some s) (schedule : List ScheduleLine) (k : Kernel) (t : ℕ) (m : Words) (f : Frame) (fs : List Frame)
    (place : ℕ) (base args : List ℤ) (here : At i place (op.Call g)) (many : length args ≡ s.parameters) where
  abbrev pub at_call : Frame
  at_call = placed f place (reverse args ++ base)

  called_is : act i schedule k t (in_frame m at_call fs) ≡ step.with_frame_left i schedule k t m at_call fs (step.enters i schedule k t m at_call fs Quiet Inner g s)
  called_is =
      acts quiet i place (op.Call g) here schedule k t m f fs (reverse args ++ base)
      ∙ ap (λ o. step.call i schedule k t m at_call fs g o) there
      ∙ ap (λ b. cond b (step.with_frame_left i schedule k t m at_call fs (step.enters i schedule k t m at_call fs Quiet Inner g s)) (step.breaks i schedule k t m at_call fs)) (enough s.parameters args base many)

  -- the callee's frame, and the caller's that waits
  abbrev pub inner : Frame
  inner = record { subprogram = g; place = first_place i g; locals = args ++ replicate (s.locals - s.parameters) (pos 0); stack = []; role = Inner }

  pub enters : frames_in_use k.partition t fs < FRAMES → act i schedule k t (in_frame m at_call fs) ≡ does Quiet m inner (placed f place base ∷ fs) None None
  enters few =
      called_is
      ∙ ap (λ b. cond b (step.enters i schedule k t m at_call fs Quiet Inner g s) (step.raises i schedule k t m at_call fs StorageError)) (is_less (frames_in_use k.partition t fs) FRAMES few)
      ∙ (λ j. does Quiet m (new_frame i g s (arguments_are s.parameters args base many j) Inner) (placed f place (base_is s.parameters args base many j) ∷ fs) None None)

  pub refused : FRAMES ≤ frames_in_use k.partition t fs → act i schedule k t (in_frame m at_call fs) ≡ unwind i m (number_of StorageError) at_call fs
  refused full =
      called_is
      ∙ ap (λ b. cond b (step.enters i schedule k t m at_call fs Quiet Inner g s) (step.raises i schedule k t m at_call fs StorageError)) (is_not_less (frames_in_use k.partition t fs) FRAMES full)

-- ---- a call through the name of a protected object

module _ (quiet : QuietStays) (i : Sections) (g : ℕ) (s : Subprogram) (there : called i g ≡ Some s) (o : ℕ) (kind : s.kind ≡ ProtectedFunction o)
    (schedule : List ScheduleLine) (k : Kernel) (t : ℕ) (m : Words) (f : Frame) (fs : List Frame)
    (at : ℕ) (base args : List ℤ) (here : At i at (op.ProtectedCall g)) (many : length args ≡ s.parameters) where
  abbrev pub at_external : Frame
  at_external = placed f at (reverse args ++ base)

  abbrev enters_it : step.Stepped
  enters_it = step.enters i schedule k t m at_external fs (Views o) (Opened o) g s

  external_is : act i schedule k t (in_frame m at_external fs)
      ≡ step.unless_refused i schedule k t m at_external fs (call_refusal k t o) (step.with_frame_left i schedule k t m at_external fs enters_it)
  external_is =
      acts quiet i at (op.ProtectedCall g) here schedule k t m f fs (reverse args ++ base)
      ∙ ap (λ q. step.protected_call i schedule k t m at_external fs g q) there
      ∙ ap (λ b. cond b (step.external_call i schedule k t m at_external fs g s s.kind) (step.breaks i schedule k t m at_external fs))
      (enough s.parameters args base many)
      ∙ ap (λ q. step.external_call i schedule k t m at_external fs g s q) kind

  -- the frame of the function, which opens the action
  abbrev pub opened_frame : Frame
  opened_frame =
      record { subprogram = g; place = first_place i g; locals = args ++ replicate (s.locals - s.parameters) (pos 0); stack = []; role = Opened o }

  unrefused : call_refusal k t o ≡ None → act i schedule k t (in_frame m at_external fs) ≡ step.with_frame_left i schedule k t m at_external fs enters_it
  unrefused none =
      external_is ∙ ap (λ r. step.unless_refused i schedule k t m at_external fs r (step.with_frame_left i schedule k t m at_external fs enters_it)) none

  pub enters_object : call_refusal k t o ≡ None → frames_in_use k.partition t fs < FRAMES
      → act i schedule k t (in_frame m at_external fs) ≡ does (Views o) m opened_frame (placed f at base ∷ fs) None None
  enters_object none few =
      unrefused none
      ∙ ap (λ b. cond b enters_it (step.raises i schedule k t m at_external fs StorageError)) (is_less (frames_in_use k.partition t fs) FRAMES few)
      ∙ (λ j. does (Views o) m (new_frame i g s (arguments_are s.parameters args base many j) (Opened o))
      (placed f at (base_is s.parameters args base many j) ∷ fs) None None)

  pub full_object : call_refusal k t o ≡ None → FRAMES ≤ frames_in_use k.partition t fs
      → act i schedule k t (in_frame m at_external fs) ≡ unwind i m (number_of StorageError) at_external fs
  full_object none full =
      unrefused none
      ∙ ap (λ b. cond b enters_it (step.raises i schedule k t m at_external fs StorageError)) (is_not_less (frames_in_use k.partition t fs) FRAMES full)

  pub refused_object : (r : Refusal) → call_refusal k t o ≡ Some r
      → act i schedule k t (in_frame m at_external fs) ≡ unwind i m (number_of ProgramError) at_external fs
  refused_object r is =
      external_is ∙ ap (λ q. step.unless_refused i schedule k t m at_external fs q (step.with_frame_left i schedule k t m at_external fs enters_it)) is
