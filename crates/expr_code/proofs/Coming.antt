-- Coming to values: steps one behind another.
use Rattle.std.proofs.Common.{◌≡◌, ℕ, suc, ◌+◌, ◌≤◌, ℤ, List, ◌∷◌, ◌++◌, length, reverse, None, Ok, Err, refl, sym, ap, ◌∙◌, subst, arith}
use Rattle.base.specs.Arithmetic.{Checked}
use Rattle.base.specs.declared.schedule.ScheduleLine.{ScheduleLine}
use Rattle.kernel.specs.State.{Kernel}
use Rattle.kernel.specs.Effects.{Quiet}
use Rattle.kernel.specs.Calm.{Calm}
use Rattle.kernel.specs.Counting.{Spends, Done}
use Rattle.kernel.specs.Laws.{QuietStays}
use Rattle.kernel.specs.RunLaws.{spends_trans, spends_more}
use Rattle.image.specs.Sections.{Sections}
use Rattle.image.specs.Frames.{Words, Frame}
use Rattle.image.specs.Steps.{act, behaviour, does, does_operation, does_instruction, gives, unwind}
use Rattle.image.specs.declared.instruction.Operation.{Operation}
use Rattle.image.specs.declared.instruction.Operation.TheVariants as op
use Rattle.types.specs.Values.{Value}
use Rattle.types.specs.Evaluations.{Val, Gives, Raises, Meaningless, and_then}
use Rattle.expr_soundness.specs.meaning.specs.Meeting.{Last}
use Rattle.expr_soundness.specs.meaning.specs.MeetingLaws.{quiet_spends, spends_takes, takes_more}
use Rattle.expr_soundness.specs.meaning.specs.SameMeaning.{frames_of}
use Rattle.expr_code.specs.Views.{At, in_frame, placed}
use Rattle.expr_code.specs.Coming.{Comes, most_steps, on}
use Rattle.expr_code.specs.OperatorCode.{IsWordOf}
use Rattle.kernel.specs.Worlds.{restarted}
use Rattle.image.specs.Code.{initial_state}

module _ (quiet : QuietStays) (i : Sections) where
  -- what the instruction at a place does
  pub acts : (place : ℕ) (o : Operation) → At i place o → (schedule : List ScheduleLine) (k : Kernel) (t : ℕ) (m : Words) (f : Frame) (fs : List Frame) (stack : List ℤ)
      → act i schedule k t (in_frame m (placed f place stack) fs) ≡ does_operation i schedule k t m (placed f place stack) fs o
  acts place o here schedule k t m f fs stack = ap (λ x. does_instruction i schedule k t m (placed f place stack) fs x) here.1

  module _ (schedule : List ScheduleLine) (k : Kernel) (t : ℕ) (m : Words) (calm : Calm k t) where
    -- one quiet step of the frame
    pub steps : (f g : Frame) (fs : List Frame)
        → act i schedule k t (in_frame m f fs) ≡ does Quiet m g fs None None
        → Spends (behaviour i schedule) t frames_of (most_steps i) (suc (length fs)) 1 k (in_frame m f fs) k (in_frame m g fs)
    steps f g fs e =
        quiet_spends (behaviour i schedule) t frames_of (most_steps i) quiet k calm (in_frame m f fs) (in_frame m g fs) (ap (λ y. y.effect) e)
        (ap (λ y. (restarted (initial_state i t) k t y).solo) e) refl Done

    pub more : {A : Type 0} (f : Frame) (fs : List Frame) (n n' to : ℕ) (s : A → List ℤ) (v : Val A)
        → n ≤ n'
        → Comes i schedule k t m f fs n to s v
        → Comes i schedule k t m f fs n' to s v
    more f fs n n' to s (Gives a) le h = spends_more (behaviour i schedule) t frames_of (most_steps i) n' le h
    more f fs n n' to s (Raises x) le h = (h.0, h.1, h.2, takes_more (behaviour i schedule) t frames_of (most_steps i) (suc n') (omega (arith, le)) h.3, h.4, h.5, h.6)
    more f fs n n' to s Meaningless le h = tt

    -- steps, and then what comes to a value
    pub after_first : {B : Type 0} (f : Frame) (fs : List Frame) (n n' mid to : ℕ) (st : List ℤ) (s : B → List ℤ) (v : Val B)
        → f.place ≤ mid
        → Spends (behaviour i schedule) t frames_of (most_steps i) (suc (length fs)) n k (in_frame m f fs) k (in_frame m (placed f mid st) fs)
        → Comes i schedule k t m (placed f mid st) fs n' to s v
        → Comes i schedule k t m f fs (n + n') to s v
    after_first f fs n n' mid to st s (Gives b) le h g = spends_trans (behaviour i schedule) t frames_of (most_steps i) n' k (in_frame m (placed f to (s b)) fs) h g
    after_first f fs n n' mid to st s (Raises x) le h g =
        let up = g.4 in
        let all = spends_takes (behaviour i schedule) t frames_of (most_steps i) (suc n') k (record { memory = m; task = g.0 }) h g.3 in
        (g.0, g.1, g.2, takes_more (behaviour i schedule) t frames_of (most_steps i) (suc (n + n')) (omega arith) all, omega (arith, le, up), g.5, g.6)
    after_first f fs n n' mid to st s Meaningless le h g = tt

    -- a value, and then what comes to another one
    pub then_comes : {A B : Type 0} (f : Frame) (fs : List Frame) (n n' mid to : ℕ) (s : A → List ℤ) (s' : B → List ℤ) (v : Val A) (go : A → Val B)
        → f.place ≤ mid
        → mid ≤ to
        → Comes i schedule k t m f fs n mid s v
        → ((a : A) → v ≡ Gives a → Comes i schedule k t m (placed f mid (s a)) fs n' to s' (go a))
        → Comes i schedule k t m f fs (n + n') to s' (and_then v go)
    then_comes f fs n n' mid to s s' (Gives a) go le up h g = after_first f fs n n' mid to (s a) s' (go a) le h (g a refl)
    then_comes f fs n n' mid to s s' (Raises x) go le up h g =
        let below = h.5 in
        (h.0, h.1, h.2, takes_more (behaviour i schedule) t frames_of (most_steps i) (suc (n + n')) (omega arith) h.3, h.4, omega (arith, below, up), h.6)
    then_comes f fs n n' mid to s s' Meaningless go le up h g = tt

    -- an instruction whose result is checked, where the word that it computes is that of a value
    pub by_result : (place : ℕ) (f : Frame) (fs : List Frame) (stack base : List ℤ) (c : Checked) (v : Val Value)
        → ((schedule : List ScheduleLine) (k : Kernel) (t : ℕ) (m : Words) → act i schedule k t (in_frame m (placed f place stack) fs) ≡ gives i schedule k t m (placed f place stack) fs c base)
        → IsWordOf v c
        → (to : ℕ)
        → place + 1 ≡ to
        → Comes i schedule k t m (placed f place stack) fs 1 to (on base) v
    by_result place f fs stack base (Ok w) (Gives v) is word to next =
        subst (λ ws. Spends (behaviour i schedule) t frames_of (most_steps i) (suc (length fs)) 1 k (in_frame m (placed f place stack) fs) k (in_frame m (placed f to (reverse ws ++ base)) fs)) (sym word)
        (steps (placed f place stack) (placed f to (w ∷ base)) fs (is schedule k t m ∙ ap (λ n. does Quiet m (placed f n (w ∷ base)) fs None None) next))
    by_result place f fs stack base (Err x) (Gives v) is word to next = absurd word
    by_result place f fs stack base (Ok w) (Raises y) is word to next = absurd word
    by_result place f fs stack base (Err x) (Raises y) is word to next = (
      (in_frame m (placed f place stack) fs).task,
      place,
      stack,
      Last refl,
      omega arith,
      omega (arith, next),
      record { throws = λ schedule l m opened ranked. is schedule l t m ∙ ap (λ n. unwind i m n (placed f place stack) fs) (sym word) },
    )
    by_result place f fs stack base c Meaningless is word to next = tt

    -- a word is put on the stack
    pub pushes : (place : ℕ) (w : ℤ) → At i place (op.Push w) → (f : Frame) (fs : List Frame) (stack : List ℤ) (to : ℕ) → place + 1 ≡ to
        → Spends (behaviour i schedule) t frames_of (most_steps i) (suc (length fs)) 1 k (in_frame m (placed f place stack) fs) k (in_frame m (placed f to (w ∷ stack)) fs)
    pushes place w here f fs stack to next =
        steps (placed f place stack) (placed f to (w ∷ stack)) fs (acts place (op.Push w) here schedule k t m f fs stack ∙ ap (λ n. does Quiet m (placed f n (w ∷ stack)) fs None None) next)
