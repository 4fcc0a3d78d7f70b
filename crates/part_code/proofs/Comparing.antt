-- The code of choices: a copy of the value's word is compared with the word of each, and the value is dropped where one of them chooses it.
use Rattle.std.proofs.Common.{◌≡◌, ℕ, suc, ◌-◌, ◌≤◌, ℤ, List, [], ◌∷◌, length, Bool, true, false, refl, sym, ap, ◌∙◌, subst, arith}
use Rattle.std.specs.Prelude.{if◌then◌else◌, int_le, pos, ◌&&◌, ◌||◌, ⊤}
use Rattle.base.specs.declared.schedule.ScheduleLine.{ScheduleLine}
use Rattle.kernel.specs.State.{Kernel}
use Rattle.kernel.specs.Calm.{Calm}
use Rattle.kernel.specs.Counting.{Spends, Done}
use Rattle.kernel.specs.Laws.{QuietStays}
use Rattle.kernel.specs.RunLaws.{spends_more}
use Rattle.expr_soundness.specs.meaning.specs.Programs.{Program}
use Rattle.expr_soundness.specs.meaning.specs.SameMeaning.{frames_of}
use Rattle.expr_soundness.specs.meaning.specs.SourceSteps.{is_chosen, some_chosen}
use Rattle.image.specs.Sections.{Sections}
use Rattle.image.specs.Frames.{Words, Frame}
use Rattle.image.specs.Scalars as scalars
use Rattle.image.specs.Scalars.{are_equal}
use Rattle.image.specs.Steps.{behaviour}
use Rattle.image.specs.declared.instruction.Operation.TheVariants as op
use Rattle.ada_tree.specs.ExpressionTree.{ExprTree}
use Rattle.ada_tree.specs.StatementTree.{OtherValues, Values}
use Rattle.types.specs.declared.entity.Value.{Value as Scalar}
use Rattle.types.specs.declared.entity.Value.TheVariants as scalar
use Rattle.types.specs.Evaluating.{val}
use Rattle.types.specs.Evaluations.{Gives}
use Rattle.types.specs.Places.{Place}
use Rattle.types.specs.Shapes.{word_of}
use Rattle.types.specs.Values.{Value, Number, Truth, Array, Record, value_of}
use Rattle.expr_code.specs.Coming.{most_steps, on}
use Rattle.expr_code.specs.Naming.{scalar_word}
use Rattle.expr_code.specs.Seeing.{Package, Sees}
use Rattle.expr_code.specs.Views.{At, View, in_frame, placed, view_of}
use Rattle.part_code.specs.Resting.{Framed}
use Rattle.part_code.specs.Statements.{IsChoice, Numbers}
use Rattle.part_code.proofs.Walking.{Walks, duplicates, drops, jumps, jumps_if, then_step, compares, puts, behind}

-- ---- values and choices

-- a number, or a truth value
abbrev pub IsSingle : Value → Type 0
IsSingle (Number z) = ⊤
IsSingle (Truth b) = ⊤
IsSingle v = ⊥

-- of one kind with a choice
abbrev pub AreAlike : Value → Scalar → Type 0
AreAlike (Number z) (scalar.Number a) = ⊤
AreAlike (Truth b) (scalar.Truth a) = ⊤
AreAlike v s = ⊥

abbrev word : Value → ℤ
word (Number z) = z
word (Truth b) = word_of b
word v = pos 0

single_on : (v : Value) → IsSingle v → on [] v ≡ word v ∷ []
single_on (Number z) h = refl
single_on (Truth b) h = refl
single_on (Array vs) h = absurd h
single_on (Record vs) h = absurd h

either_way : (a b : Bool) → (a && b) ≡ (b && a)
either_way true true = refl
either_way true false = refl
either_way false true = refl
either_way false false = refl

-- words tell whether a choice is the value
told_by_words : (v : Value) (s : Scalar) → AreAlike v s → is_chosen (Gives (value_of s)) v ≡ are_equal (word v) (scalar_word s)
told_by_words (Number z) (scalar.Number a) h = either_way (int_le a z) (int_le z a)
told_by_words (Number z) (scalar.Truth a) h = absurd h
told_by_words (Truth true) (scalar.Truth true) h = refl
told_by_words (Truth true) (scalar.Truth false) h = refl
told_by_words (Truth false) (scalar.Truth true) h = refl
told_by_words (Truth false) (scalar.Truth false) h = refl
told_by_words (Truth b) (scalar.Number a) h = absurd h
told_by_words (Array vs) s h = absurd h
told_by_words (Record vs) s h = absurd h

module _ (quiet : QuietStays) (i : Sections) (program : Program) (g : Package) (numbers : Numbers) (v : Framed) (e : ExprTree) where
  -- the expression comes to a number or a truth value
  abbrev pub IsScalar : Type 0
  IsScalar = (p : Place) (view : View) → Sees g v.names p view → (x : Value) → val p e ≡ Gives x → IsSingle x

  -- the choice is static, and of the expression's type
  pub record IsStatic (c : ExprTree) (s : Scalar) : Type 0 where
    pub told : (p : Place) (view : View) → Sees g v.names p view → val p c ≡ Gives (value_of s)
    pub alike : (p : Place) (view : View) → Sees g v.names p view → (x : Value) → val p e ≡ Gives x → AreAlike x s

  -- Each choice: a copy of the value, the choice's word, whether they are equal, and a jump where they are.
  abbrev pub AreTested : (label from to : ℕ) → List ExprTree → Type 0
  AreTested label from to [] = from ≡ to
  AreTested label from to (c ∷ cs) =
      (s : Scalar)
      × IsStatic c s
      × At i from op.Duplicate
      × At i (behind 1 from) (op.Push (scalar_word s))
      × At i (behind 2 from) op.Equal
      × At i (behind 3 from) (op.JumpIfNotZero label)
      × AreTested label (behind 4 from) to cs

  pub tested_up : (label from to : ℕ) (cs : List ExprTree) → AreTested label from to cs → from ≤ to
  tested_up label from to [] h = omega (arith, h)
  tested_up label from to (c ∷ cs) h = let k = tested_up label (behind 4 from) to cs h.6 in omega (arith, k)

  module _ (to next : ℕ) (jump : At i to (op.Jump next)) (drop : At i (suc to) op.Drop) where
    module _ (schedule : List ScheduleLine) (k : Kernel) (t : ℕ) (m : Words) (f : Frame) (fs : List Frame) (calm : Calm k t) (p : Place) (x : Value)
        (sees : Sees g v.names p (view_of i schedule k t m f fs))
        (is : val p e ≡ Gives x) where
      abbrev Goes : (n : ℕ) → (f g : Frame) → Type 0
      Goes n f g = Walks i schedule k t m fs n f g

      abbrev ended : Bool → Frame
      ended b = if b then placed f (suc (suc to)) [] else placed f next (word x ∷ [])

      tests : (from : ℕ) (cs : List ExprTree) → AreTested (suc to) from to cs
          → Goes (suc (suc to) - from) (placed f from (word x ∷ [])) (ended (some_chosen p cs x))
      tests from [] h =
          subst (λ n. Goes (suc (suc to) - n) (placed f n (word x ∷ [])) (placed f next (word x ∷ []))) (sym h)
          (spends_more (behaviour i schedule) t frames_of (most_steps i) (suc (suc to) - to) (omega arith)
          (then_step quiet i schedule k t m fs calm 0 (placed f to (word x ∷ [])) (placed f next (word x ∷ [])) (placed f next (word x ∷ []))
          (jumps quiet i schedule k t m f fs to next jump (word x ∷ [])) Done))
      tests from (c ∷ cs) h =
          spends_more (behaviour i schedule) t frames_of (most_steps i) (suc (suc to) - from)
          (let up = tested_up (suc to) (behind 4 from) to cs h.6 in omega (arith, up))
          (then_step quiet i schedule k t m fs calm (behind 3 (suc (suc to) - (behind 4 from))) (placed f from w) (placed f (behind 1 from) (word x ∷ w)) end
          (duplicates quiet i schedule k t m f fs from h.2 (word x) [])
          (then_step quiet i schedule k t m fs calm (behind 2 (suc (suc to) - (behind 4 from))) (placed f (behind 1 from) (word x ∷ w))
          (placed f (behind 2 from) (scalar_word s ∷ word x ∷ w)) end
          (puts quiet i schedule k t m f fs (behind 1 from) (scalar_word s) h.3 (word x ∷ w))
          (then_step quiet i schedule k t m fs calm (behind 1 (suc (suc to) - (behind 4 from))) (placed f (behind 2 from) (scalar_word s ∷ word x ∷ w))
          (placed f (behind 3 from) (scalars.word_of (are_equal (word x) (scalar_word s)) ∷ w)) end
          (compares quiet i schedule k t m f fs (behind 2 from) h.4 (word x) (scalar_word s) w)
          (then_step quiet i schedule k t m fs calm (suc (suc to) - (behind 4 from)) (placed f (behind 3 from) (scalars.word_of (are_equal (word x) (scalar_word s)) ∷ w))
          (placed f (if are_equal (word x) (scalar_word s) then suc to else behind 4 from) w) end
          (jumps_if quiet i schedule k t m f fs (behind 3 from) (suc to) h.5 (are_equal (word x) (scalar_word s)) w)
          (by_test (tests (behind 4 from) cs h.6) (are_equal (word x) (scalar_word s)) told)))))
        where
          s : Scalar
          s = h.0

          w : List ℤ
          w = word x ∷ []

          end : Frame
          end = ended (some_chosen p (c ∷ cs) x)

          told : is_chosen (val p c) x ≡ are_equal (word x) (scalar_word s)
          told = ap (λ y. is_chosen y x) (h.1.told p (view_of i schedule k t m f fs) sees)
              ∙ told_by_words x s (h.1.alike p (view_of i schedule k t m f fs) sees x is)

          by_test : Goes (suc (suc to) - (behind 4 from)) (placed f (behind 4 from) w) (ended (some_chosen p cs x)) → (b : Bool) → is_chosen (val p c) x ≡ b
              → Goes (suc (suc to) - (behind 4 from)) (placed f (if b then suc to else behind 4 from) w) end
          by_test rest true q =
              subst (λ b. Goes (suc (suc to) - (behind 4 from)) (placed f (suc to) w) (ended (b || some_chosen p cs x))) (sym q)
              (spends_more (behaviour i schedule) t frames_of (most_steps i) (suc (suc to) - (behind 4 from))
              (let up = tested_up (suc to) (behind 4 from) to cs h.6 in omega (arith, up))
              (then_step quiet i schedule k t m fs calm 0 (placed f (suc to) w) (placed f (suc (suc to)) []) (placed f (suc (suc to)) [])
              (drops quiet i schedule k t m f fs (suc to) drop (word x) []) Done))
          by_test rest false q =
              subst (λ b. Goes (suc (suc to) - (behind 4 from)) (placed f (behind 4 from) w) (ended (b || some_chosen p cs x))) (sym q) rest

  -- choices by their values
  pub choice_of_values : IsScalar → (from to next : ℕ) (all : List ExprTree) → AreTested (suc to) from to all → At i to (op.Jump next)
      → At i (suc to) op.Drop → suc (suc to) ≤ next → IsChoice i program g numbers v e from (suc (suc to)) next (Values all)
  choice_of_values scalar_value from to next all tested jump drop over = record { tests = goes }
    where
      goes : (schedule : List ScheduleLine) (k : Kernel) (t : ℕ) (m : Words) (f : Frame) (fs : List Frame) (p : Place) (x : Value)
          → Calm k t → Sees g v.names p (view_of i schedule k t m f fs) → val p e ≡ Gives x
          → Spends (behaviour i schedule) t frames_of (most_steps i) (suc (length fs)) (next - from) k (in_frame m (placed f from (on [] x)) fs) k
          (in_frame m (if some_chosen p all x then placed f (suc (suc to)) [] else placed f next (on [] x)) fs)
      goes schedule k t m f fs p x calm sees is =
          subst
          (λ w. Spends (behaviour i schedule) t frames_of (most_steps i) (suc (length fs)) (next - from) k (in_frame m (placed f from w) fs) k
          (in_frame m (if some_chosen p all x then placed f (suc (suc to)) [] else placed f next w) fs))
          (sym (single_on x (scalar_value p (view_of i schedule k t m f fs) sees x is)))
          (spends_more (behaviour i schedule) t frames_of (most_steps i) (next - from) (omega (arith, over))
          (tests to next jump drop schedule k t m f fs calm p x sees is from all tested))

  -- ... and `others`
  pub choice_of_others : IsScalar → (at from next : ℕ) → At i from op.Drop → suc from ≤ next
      → IsChoice i program g numbers v e from (suc from) next (OtherValues at)
  choice_of_others scalar_value at from next drop over = record { tests = goes }
    where
      goes : (schedule : List ScheduleLine) (k : Kernel) (t : ℕ) (m : Words) (f : Frame) (fs : List Frame) (p : Place) (x : Value)
          → Calm k t → Sees g v.names p (view_of i schedule k t m f fs) → val p e ≡ Gives x
          → Spends (behaviour i schedule) t frames_of (most_steps i) (suc (length fs)) (next - from) k (in_frame m (placed f from (on [] x)) fs) k
          (in_frame m (placed f (suc from) []) fs)
      goes schedule k t m f fs p x calm sees is =
          subst
          (λ w. Spends (behaviour i schedule) t frames_of (most_steps i) (suc (length fs)) (next - from) k (in_frame m (placed f from w) fs) k
          (in_frame m (placed f (suc from) []) fs))
          (sym (single_on x (scalar_value p (view_of i schedule k t m f fs) sees x is)))
          (spends_more (behaviour i schedule) t frames_of (most_steps i) (next - from) (omega (arith, over))
          (then_step quiet i schedule k t m fs calm 0 (placed f from (word x ∷ [])) (placed f (suc from) []) (placed f (suc from) [])
          (drops quiet i schedule k t m f fs from drop (word x) []) Done))
