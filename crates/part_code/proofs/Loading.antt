-- Instructions that put words on the operand stack: a word of the frame, and the words of a value, from their place or above their address.
use Rattle.std.proofs.Common.{◌≡◌, ℕ, suc, ◌+◌, ℤ, List, ◌∷◌, ◌++◌, length, reverse, Some, None, sym, ap, ◌∙◌, subst, arith}
use Rattle.std.specs.Prelude.{pos, slice_get}
use Rattle.base.specs.declared.schedule.ScheduleLine.{ScheduleLine}
use Rattle.kernel.specs.State.{Kernel}
use Rattle.kernel.specs.Calm.{Calm}
use Rattle.kernel.specs.Counting.{Spends}
use Rattle.kernel.specs.Effects.{Quiet}
use Rattle.kernel.specs.Laws.{QuietStays}
use Rattle.image.specs.Sections.{Sections}
use Rattle.image.specs.Frames.{Words, Frame, region_words, word_at, words_at}
use Rattle.image.specs.Steps.{behaviour, block_loaded, does, loaded}
use Rattle.image.specs.declared.instruction.Operation.TheVariants as op
use Rattle.image.specs.declared.instruction.Region.{Region}
use Rattle.types.specs.Shapes.{value_words}
use Rattle.types.specs.Values.{Value}
use Rattle.expr_soundness.specs.meaning.specs.SameMeaning.{frames_of}
use Rattle.expr_code.specs.Coming.{most_steps, on}
use Rattle.expr_code.specs.Naming.{Lies}
use Rattle.expr_code.specs.Views.{At, in_frame, placed}
use Rattle.expr_code.proofs.Coming.{acts, steps}
use Rattle.expr_code.proofs.Naming.{same_words, word_there}
use Rattle.part_code.proofs.StoringCode.{one_alone}

module _ (quiet : QuietStays) (i : Sections) (schedule : List ScheduleLine) (k : Kernel) (t : ℕ) (m : Words) (calm : Calm k t) (f : Frame)
    (fs : List Frame) where
  -- in so many steps from one place and operand stack to others
  abbrev pub Goes : (n from : ℕ) → List ℤ → (to : ℕ) → List ℤ → Type 0
  Goes n from stack to left =
      Spends (behaviour i schedule) t frames_of (most_steps i) (suc (length fs)) n k (in_frame m (placed f from stack) fs) k (in_frame m (placed f to left) fs)

  -- a word of the frame: LDL
  pub loads_word : (place a : ℕ) (w : ℤ) (base : List ℤ) → At i place (op.LoadLocal a) → slice_get f.locals a ≡ Some w
      → Goes 1 place base (suc place) (w ∷ base)
  loads_word place a w base here is =
      let next : place + 1 ≡ suc place = omega arith in
      steps quiet i schedule k t m calm (placed f place base) (placed f (suc place) (w ∷ base)) fs
      (acts quiet i place (op.LoadLocal a) here schedule k t m f fs base
      ∙ ap (λ o. loaded i schedule k t m (placed f place base) fs o base) is
      ∙ ap (λ n. does Quiet m (placed f n (w ∷ base)) fs None None) next)

  -- the value that stands there, where it has a single word
  pub loads_single : (place a : ℕ) (v : Value) (base : List ℤ) → At i place (op.LoadLocal a) → Lies f.locals a v → length (value_words v) ≡ 1
      → Goes 1 place base (suc place) (on base v)
  loads_single place a v base here lies one =
      let it = one_alone (value_words v) one in
      subst (λ ws. Goes 1 place base (suc place) (reverse ws ++ base)) (sym it.1) (loads_word place a it.0 base here (word_there f.locals a v it.0 lies it.1))

  module _ (region : Region) where
    abbrev W : List ℤ
    W = region_words i region m f

    -- above its address: LDX
    pub loads_indexed : (place a : ℕ) (v : Value) (base : List ℤ) → At i place (op.LoadIndexed region) → Lies W a v → length (value_words v) ≡ 1
        → Goes 1 place (pos a ∷ base) (suc place) (on base v)
    loads_indexed place a v base here lies one =
        let next : place + 1 ≡ suc place = omega arith in
        let it = one_alone (value_words v) one in
        let st : List ℤ = pos a ∷ base in
        subst (λ ws. Goes 1 place st (suc place) (reverse ws ++ base)) (sym it.1)
        (steps quiet i schedule k t m calm (placed f place st) (placed f (suc place) (it.0 ∷ base)) fs
        (acts quiet i place (op.LoadIndexed region) here schedule k t m f fs st
        ∙ ap (λ ws. loaded i schedule k t m (placed f place st) fs (word_at ws (pos a)) base) (same_words i m region f place st)
        ∙ ap (λ o. loaded i schedule k t m (placed f place st) fs o base) (word_there W a v it.0 lies it.1)
        ∙ ap (λ n. does Quiet m (placed f n (it.0 ∷ base)) fs None None) next))

    -- ... where it has several: LDB
    pub loads_block : (place a size : ℕ) (v : Value) (base : List ℤ) → At i place (op.LoadBlock region size) → Lies W a v → length (value_words v) ≡ size
        → Goes 1 place (pos a ∷ base) (suc place) (on base v)
    loads_block place a size v base here lies many =
        let next : place + 1 ≡ suc place = omega arith in
        let st : List ℤ = pos a ∷ base in
        steps quiet i schedule k t m calm (placed f place st) (placed f (suc place) (on base v)) fs
        (acts quiet i place (op.LoadBlock region size) here schedule k t m f fs st
        ∙ ap (λ ws. block_loaded i schedule k t m (placed f place st) fs (words_at ws (pos a) size) base) (same_words i m region f place st)
        ∙ ap (λ n. block_loaded i schedule k t m (placed f place st) fs (words_at W (pos a) n) base) (sym many)
        ∙ ap (λ o. block_loaded i schedule k t m (placed f place st) fs o base) lies
        ∙ ap (λ n. does Quiet m (placed f n (on base v)) fs None None) next)

  -- a word once more: DUP
  pub doubles : (place : ℕ) (w : ℤ) (base : List ℤ) → At i place op.Duplicate → Goes 1 place (w ∷ base) (suc place) (w ∷ w ∷ base)
  doubles place w base here =
      let next : place + 1 ≡ suc place = omega arith in
      steps quiet i schedule k t m calm (placed f place (w ∷ base)) (placed f (suc place) (w ∷ w ∷ base)) fs
      (acts quiet i place op.Duplicate here schedule k t m f fs (w ∷ base) ∙ ap (λ n. does Quiet m (placed f n (w ∷ w ∷ base)) fs None None) next)
