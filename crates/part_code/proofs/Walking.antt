-- Instructions of one frame, one behind another: what each does to the frame, and how steps of them are put together.
use Rattle.std.proofs.Common.{◌≡◌, ℕ, zero, suc, ◌+◌, ◌<◌, ℤ, List, [], ◌∷◌, length, None, Some, Bool, true, false, refl, ap, ◌∙◌, arith}
use Rattle.std.specs.Prelude.{int_lt, pos, slice_get, if◌then◌else◌}
use Rattle.base.specs.declared.schedule.ScheduleLine.{ScheduleLine}
use Rattle.kernel.specs.State.{Kernel}
use Rattle.kernel.specs.Effects.{Quiet}
use Rattle.kernel.specs.Calm.{Calm}
use Rattle.kernel.specs.Counting.{Spends}
use Rattle.kernel.specs.Laws.{QuietStays}
use Rattle.expr_soundness.specs.meaning.specs.MeetingLaws.{quiet_spends}
use Rattle.expr_soundness.specs.meaning.specs.SameMeaning.{frames_of}
use Rattle.image.specs.Sections.{Sections}
use Rattle.image.specs.Frames.{Words, Frame}
use Rattle.image.specs.Scalars.{are_equal, word_of}
use Rattle.image.specs.Steps.{act, behaviour, does, loaded, stored}
use Rattle.image.specs.declared.instruction.Operation.TheVariants as op
use Rattle.image.specs.declared.instruction.Region.TheVariants as regions
use Rattle.expr_code.specs.Coming.{most_steps}
use Rattle.expr_code.specs.Views.{At, in_frame, placed}
use Rattle.expr_code.proofs.Coming.{acts}
use Rattle.part_code.proofs.Words.{one_put, with_words}
use Rattle.kernel.specs.Worlds.{restarted}
use Rattle.image.specs.Code.{initial_state}

-- the place so many instructions behind another one
abbrev pub behind : ℕ → ℕ → ℕ
behind zero place = place
behind (suc n) place = suc (behind n place)

-- so many steps of one frame lead from it to another one, and nothing else changes
abbrev pub Walks : Sections → List ScheduleLine → Kernel → (t : ℕ) → Words → List Frame → (n : ℕ) → (f g : Frame) → Type 0
Walks i schedule k t m fs n f g = Spends (behaviour i schedule) t frames_of (most_steps i) (suc (length fs)) n k (in_frame m f fs) k (in_frame m g fs)

-- a step, and then others
pub then_step : (quiet : QuietStays) (i : Sections) (schedule : List ScheduleLine) (k : Kernel) (t : ℕ) (m : Words) (fs : List Frame) → Calm k t
    → (n : ℕ) (f g h : Frame)
    → act i schedule k t (in_frame m f fs) ≡ does Quiet m g fs None None → Walks i schedule k t m fs n g h → Walks i schedule k t m fs (suc n) f h
then_step quiet i schedule k t m fs calm n f g h e rest =
    quiet_spends (behaviour i schedule) t frames_of (most_steps i) quiet k calm (in_frame m f fs) (in_frame m g fs) (ap (λ y. y.effect) e)
    (ap (λ y. (restarted (initial_state i t) k t y).solo) e) refl rest

module _ (quiet : QuietStays) (i : Sections) (schedule : List ScheduleLine) (k : Kernel) (t : ℕ) (m : Words) (f : Frame) (fs : List Frame) (place : ℕ) where
  next : place + 1 ≡ suc place
  next = omega arith

  goes_on : (stack : List ℤ) → does Quiet m (placed f (place + 1) stack) fs None None ≡ does Quiet m (placed f (suc place) stack) fs None None
  goes_on stack = ap (λ n. does Quiet m (placed f n stack) fs None None) next

  -- a word on top
  pub puts : (w : ℤ) → At i place (op.Push w) → (stack : List ℤ)
      → act i schedule k t (in_frame m (placed f place stack) fs) ≡ does Quiet m (placed f (suc place) (w ∷ stack)) fs None None
  puts w here stack = acts quiet i place (op.Push w) here schedule k t m f fs stack ∙ goes_on (w ∷ stack)

  -- a copy of the word on top
  pub duplicates : At i place op.Duplicate → (w : ℤ) (stack : List ℤ)
      → act i schedule k t (in_frame m (placed f place (w ∷ stack)) fs) ≡ does Quiet m (placed f (suc place) (w ∷ w ∷ stack)) fs None None
  duplicates here w stack = acts quiet i place op.Duplicate here schedule k t m f fs (w ∷ stack) ∙ goes_on (w ∷ w ∷ stack)

  pub drops : At i place op.Drop → (w : ℤ) (stack : List ℤ)
      → act i schedule k t (in_frame m (placed f place (w ∷ stack)) fs) ≡ does Quiet m (placed f (suc place) stack) fs None None
  drops here w stack = acts quiet i place op.Drop here schedule k t m f fs (w ∷ stack) ∙ goes_on stack

  -- a word of the frame
  pub loads_local : (offset : ℕ) → At i place (op.LoadLocal offset) → (w : ℤ) (stack : List ℤ) → slice_get f.locals offset ≡ Some w
      → act i schedule k t (in_frame m (placed f place stack) fs) ≡ does Quiet m (placed f (suc place) (w ∷ stack)) fs None None
  loads_local offset here w stack is =
      acts quiet i place (op.LoadLocal offset) here schedule k t m f fs stack
      ∙ ap (λ o. loaded i schedule k t m (placed f place stack) fs o stack) is
      ∙ goes_on (w ∷ stack)

  pub stores_local : (offset : ℕ) → At i place (op.StoreLocal offset) → (w : ℤ) (stack : List ℤ) → offset < length f.locals
      → act i schedule k t (in_frame m (placed f place (w ∷ stack)) fs)
      ≡ does Quiet m (record f { place = suc place; locals = with_words offset (w ∷ []) f.locals; stack = stack }) fs None None
  stores_local offset here w stack less =
      acts quiet i place (op.StoreLocal offset) here schedule k t m f fs (w ∷ stack)
      ∙ ap (λ o. stored i schedule k t m (placed f place (w ∷ stack)) fs regions.Locals o stack) (one_put f.locals offset w (omega (arith, less)))
      ∙ ap (λ n. does Quiet m (record f { place = n; locals = with_words offset (w ∷ []) f.locals; stack = stack }) fs None None) next

  -- relations of the two words on top
  pub compares : At i place op.Equal → (x y : ℤ) (stack : List ℤ)
      → act i schedule k t (in_frame m (placed f place (y ∷ x ∷ stack)) fs)
      ≡ does Quiet m (placed f (suc place) (word_of (are_equal x y) ∷ stack)) fs None None
  compares here x y stack = acts quiet i place op.Equal here schedule k t m f fs (y ∷ x ∷ stack) ∙ goes_on (word_of (are_equal x y) ∷ stack)

  pub orders : At i place op.Less → (x y : ℤ) (stack : List ℤ)
      → act i schedule k t (in_frame m (placed f place (y ∷ x ∷ stack)) fs)
      ≡ does Quiet m (placed f (suc place) (word_of (int_lt x y) ∷ stack)) fs None None
  orders here x y stack = acts quiet i place op.Less here schedule k t m f fs (y ∷ x ∷ stack) ∙ goes_on (word_of (int_lt x y) ∷ stack)

  -- jumps
  pub jumps : (to : ℕ) → At i place (op.Jump to) → (stack : List ℤ)
      → act i schedule k t (in_frame m (placed f place stack) fs) ≡ does Quiet m (placed f to stack) fs None None
  jumps to here stack = acts quiet i place (op.Jump to) here schedule k t m f fs stack

  pub jumps_if : (to : ℕ) → At i place (op.JumpIfNotZero to) → (b : Bool) (stack : List ℤ)
      → act i schedule k t (in_frame m (placed f place (word_of b ∷ stack)) fs)
      ≡ does Quiet m (placed f (if b then to else suc place) stack) fs None None
  jumps_if to here true stack = acts quiet i place (op.JumpIfNotZero to) here schedule k t m f fs (pos 1 ∷ stack)
  jumps_if to here false stack = acts quiet i place (op.JumpIfNotZero to) here schedule k t m f fs (pos 0 ∷ stack) ∙ goes_on stack
