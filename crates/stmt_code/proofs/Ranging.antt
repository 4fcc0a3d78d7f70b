-- The code of a loop over a range: its bounds and the first turn, and the end of each turn.
use Rattle.std.proofs.Common.{◌≡◌, ℕ, suc, ◌+◌, ◌-◌, ◌<◌, ◌≤◌, ℤ, pos, List, [], ◌∷◌, length, None, Some, Ok, Err, Bool, true, false, refl, sym, ap, ◌∙◌, subst, arith}
use Rattle.std.specs.Prelude.{int_lt, slice_get, if◌then◌else◌, int_le, ◌&&◌}
use Rattle.base.specs.Arithmetic.{Checked, difference_of, sum_of}
use Rattle.base.specs.declared.schedule.ScheduleLine.{ScheduleLine}
use Rattle.kernel.specs.State.{Kernel}
use Rattle.kernel.specs.Effects.{Quiet}
use Rattle.kernel.specs.Calm.{Calm}
use Rattle.kernel.specs.Counting.{Done}
use Rattle.kernel.specs.Laws.{QuietStays}
use Rattle.kernel.specs.RunLaws.{spends_more}
use Rattle.expr_soundness.specs.meaning.specs.Meeting.{Last}
use Rattle.expr_soundness.specs.meaning.specs.SameMeaning.{frames_of}
use Rattle.expr_soundness.specs.meaning.specs.SourceSteps.{number_computed}
use Rattle.expr_soundness.specs.meaning.specs.Works.{Activation}
use Rattle.image.specs.Sections.{Sections}
use Rattle.image.specs.Frames.{Words, Frame}
use Rattle.image.specs.Scalars.{are_equal, word_of}
use Rattle.image.specs.Steps.{act, behaviour, does, gives}
use Rattle.image.specs.declared.instruction.Operation.TheVariants as op
use Rattle.ada_tree.specs.StatementTree.{RangeTree}
use Rattle.types.specs.Evaluating.{call, value_with}
use Rattle.types.specs.Evaluations.{Val, Gives, Raises, Meaningless, and_then}
use Rattle.types.specs.Laws.{ValuesHaveWords}
use Rattle.types.specs.Operators.{are_same}
use Rattle.types.specs.Places.{Place}
use Rattle.types.specs.Values.{Value, is_within}
use Rattle.expr_soundness.specs.Laws.{AgreementIsKept}
use Rattle.expr_soundness.specs.SoundScopes.{SoundScope}
use Rattle.expr_code.specs.Coming.{Comes, most_steps, on}
use Rattle.expr_code.specs.Computing.{Computes, Everywhere}
use Rattle.expr_code.specs.Seeing.{library_of, Package, Sees}
use Rattle.expr_code.specs.Views.{At, in_frame, placed, view_of, View}
use Rattle.expr_code.specs.declared.visible.Slot.{Slot}
use Rattle.expr_code.proofs.Coming.{acts, after_first, more, then_comes, steps}
use Rattle.part_code.specs.Counting.{Bounds, GoesOn, IsCounted, IsTurnEnd, IsRange, bounds, in_turn, number_bounds, turn_first, turn_last, with_last, with_parameter, are_turns_inside}
use Rattle.part_code.specs.Layout.{IsLaidOut}
use Rattle.part_code.specs.Resting.{Framed, HeldWord, Knows, RestsWith, AreHeld}
use Rattle.part_code.specs.Turns.{next_operation}
use Rattle.stmt_code.proofs.Parameters.{HoldsRange, both_swapped, inside, next_rests, null_rests, parameter_fits, parameter_shows, turn_rests, with_both, with_word, word_long, turn_held}
use Rattle.part_code.proofs.Walking.{Walks, behind, compares, jumps_if, loads_local, orders, puts, stores_local, then_step}
use Rattle.types.specs.declared.entity.Subtype.{Subtype}
use Rattle.part_code.proofs.TurnNumbers.{turn_within}

-- ---- the bounds

-- both bounds on the operand stack, the last one on top
abbrev pub bounds_on : List ℤ → Bounds → List ℤ
bounds_on base b = on (on base b.first) b.last

comes_last : (i : Sections) (schedule : List ScheduleLine) (k : Kernel) (t : ℕ) (m : Words) (f : Frame) (fs : List Frame) (n to : ℕ) (base : List ℤ)
    (first : Value) (v : Val Value)
    → Comes i schedule k t m f fs n to (on (on base first)) v
    → Comes i schedule k t m f fs n to (bounds_on base) (and_then v (with_last first))
comes_last i schedule k t m f fs n to base first (Gives z) h = h
comes_last i schedule k t m f fs n to base first (Raises e) h = h
comes_last i schedule k t m f fs n to base first Meaningless h = tt

pub computes_bounds : QuietStays → (i : Sections) (g : Package) (v : Framed) (range : RangeTree) (from middle mid : ℕ) → from ≤ middle → middle ≤ mid
    → Computes i (library_of g) (Sees g v.names) from middle range.first → Computes i (library_of g) (Sees g v.names) middle mid range.last
    → Everywhere i (library_of g) (Sees g v.names) from mid bounds_on (bounds range)
computes_bounds quiet i g v range from middle mid low high first last calls left answers schedule k t m f fs p base calm sees is =
    more quiet i schedule k t m calm (placed f from base) fs ((middle - from) + (mid - middle)) (mid - from) mid (bounds_on base) (bounds range calls p)
    (omega (arith, low, high))
    (then_comes quiet i schedule k t m calm (placed f from base) fs (middle - from) (mid - middle) middle mid (on base) (bounds_on base)
    (value_with calls p range.first) (λ a. and_then (value_with calls p range.last) (with_last a)) low high
    (first calls left answers schedule k t m f fs p base calm sees is)
    (λ a e. comes_last i schedule k t m (placed f middle (on base a)) fs (mid - middle) mid base a (value_with calls p range.last)
    (last calls left answers schedule k t m f fs p (on base a) calm sees is)))

-- ---- the instructions

-- Behind the bounds: their words are stored, and the frame goes on behind the loop where the last bound lies before the first one.
pub record Begins (i : Sections) (counter limit mid to : ℕ) (reversed : Bool) : Type 0 where
  pub last : At i mid (op.StoreLocal (if reversed then counter else limit))
  pub first : At i (behind 1 mid) (op.StoreLocal (if reversed then limit else counter))
  pub last_again : At i (behind 2 mid) (op.LoadLocal (if reversed then counter else limit))
  pub first_again : At i (behind 3 mid) (op.LoadLocal (if reversed then limit else counter))
  pub less : At i (behind 4 mid) op.Less
  pub jump : At i (behind 5 mid) (op.JumpIfNotZero to)

-- Behind bounds of which the first is never greater than the last one their words are stored alone.
pub record KeepsBounds (i : Sections) (counter limit mid : ℕ) (reversed : Bool) : Type 0 where
  pub last : At i mid (op.StoreLocal (if reversed then counter else limit))
  pub first : At i (behind 1 mid) (op.StoreLocal (if reversed then limit else counter))

-- the one or the other, up to the statements of the first turn
pub data Opens (i : Sections) (counter limit mid start to : ℕ) (reversed full : Bool) : Type 0 where
  Tests : Begins i counter limit mid to reversed → start ≡ behind 6 mid → Opens i counter limit mid start to reversed full
  Keeps : KeepsBounds i counter limit mid reversed → full ≡ true → start ≡ behind 2 mid → Opens i counter limit mid start to reversed full

-- Behind the statements: the frame goes on behind the loop where the value is the last one, else the next value is computed and stored.
pub record Advances (i : Sections) (counter limit back to : ℕ) (reversed : Bool) : Type 0 where
  pub now : At i back (op.LoadLocal counter)
  pub last : At i (behind 1 back) (op.LoadLocal limit)
  pub equal : At i (behind 2 back) op.Equal
  pub jump : At i (behind 3 back) (op.JumpIfNotZero to)
  pub again : At i (behind 4 back) (op.LoadLocal counter)
  pub one : At i (behind 5 back) (op.Push (pos 1))
  pub computes : At i (behind 6 back) (next_operation reversed)
  pub store : At i (behind 7 back) (op.StoreLocal counter)

-- ---- the numbers of turns

first_inside : (t : Subtype) (x y : ℤ) → (int_le t.first x && int_le y t.last) ≡ true → int_lt y x ≡ false
    → (int_le t.first x && (int_le x y && int_le y t.last)) ≡ true
first_inside t x y h k = grind (arith, h, k)

-- ---- the loop

module _ (quiet : QuietStays) (kept : AgreementIsKept) (sized : ValuesHaveWords) (i : Sections) (g : Package) (v inner : Framed) (laid : IsLaidOut g v)
    (sound : SoundScope v.names.scope) (name : List ℕ) (t : Subtype) (slot : Slot) (limit : ℕ) (holds : HoldsRange v name t slot limit inner) where
  abbrev counter : ℕ
  counter = slot.offset

  -- the frame's words in the first turn, between these bounds
  abbrev both_words : (reversed : Bool) (x y : ℤ) → List ℤ → List ℤ
  both_words reversed x y locals =
      with_both kept sized g v inner laid sound name t slot limit holds (turn_first reversed x y) (turn_last reversed x y) locals

  module _ (schedule : List ScheduleLine) (k : Kernel) (u : ℕ) (m : Words) (f : Frame) (fs : List Frame) (calm : Calm k u) where
    abbrev Goes : (n : ℕ) → (f g : Frame) → Type 0
    Goes n f g = Walks i schedule k u m fs n f g

    -- the frame at a place, with these words of its own
    abbrev at : ℕ → List ℤ → List ℤ → Frame
    at place locals stack = record f { place = place; locals = locals; stack = stack }

    -- ---- the first turn: two words are stored
    module _ (one other mid : ℕ) (last : At i mid (op.StoreLocal one)) (first : At i (behind 1 mid) (op.StoreLocal other)) (x y : ℤ)
        (one_in : one < length f.locals) (other_in : other < length f.locals) (both : List ℤ)
        (stored : with_word other x (with_word one y f.locals) ≡ both) where
      other_in' : other < length (with_word one y f.locals)
      other_in' = let l = word_long f.locals one y one_in in omega (arith, l, other_in)

      -- ... and then the frame goes on
      both_stored : (n : ℕ) (target : Frame) → Goes n (at (behind 2 mid) both []) target → Goes (suc (suc n)) (placed f mid (y ∷ x ∷ [])) target
      both_stored n target rest =
          then_step quiet i schedule k u m fs calm (suc n) (placed f mid (y ∷ x ∷ [])) (at (behind 1 mid) (with_word one y f.locals) (x ∷ [])) target
          (stores_local quiet i schedule k u m f fs mid one last y (x ∷ []) one_in)
          (then_step quiet i schedule k u m fs calm n (at (behind 1 mid) (with_word one y f.locals) (x ∷ [])) (at (behind 2 mid) both []) target
          (stores_local quiet i schedule k u m (at (behind 1 mid) (with_word one y f.locals) (x ∷ [])) fs (behind 1 mid) other first x [] other_in'
          ∙ ap (λ l. does Quiet m (at (behind 2 mid) l []) fs None None) stored) rest)

      -- ... and compared again
      module _ (to : ℕ) (last_again : At i (behind 2 mid) (op.LoadLocal one)) (first_again : At i (behind 3 mid) (op.LoadLocal other))
          (less : At i (behind 4 mid) op.Less) (jump : At i (behind 5 mid) (op.JumpIfNotZero to)) (one_there : slice_get both one ≡ Some y)
          (other_there : slice_get both other ≡ Some x) where
        begun : Goes 6 (placed f mid (y ∷ x ∷ [])) (at (if int_lt y x then to else behind 6 mid) both [])
        begun =
            both_stored 4 end
            (then_step quiet i schedule k u m fs calm 3 (at (behind 2 mid) both []) (at (behind 3 mid) both (y ∷ [])) end
            (loads_local quiet i schedule k u m (at (behind 2 mid) both []) fs (behind 2 mid) one last_again y [] one_there)
            (then_step quiet i schedule k u m fs calm 2 (at (behind 3 mid) both (y ∷ [])) (at (behind 4 mid) both (x ∷ y ∷ [])) end
            (loads_local quiet i schedule k u m (at (behind 3 mid) both []) fs (behind 3 mid) other first_again x (y ∷ []) other_there)
            (then_step quiet i schedule k u m fs calm 1 (at (behind 4 mid) both (x ∷ y ∷ [])) (at (behind 5 mid) both (word_of (int_lt y x) ∷ [])) end
            (orders quiet i schedule k u m (at (behind 4 mid) both []) fs (behind 4 mid) less y x [])
            (then_step quiet i schedule k u m fs calm 0 (at (behind 5 mid) both (word_of (int_lt y x) ∷ [])) end end
            (jumps_if quiet i schedule k u m (at (behind 5 mid) both []) fs (behind 5 mid) to jump (int_lt y x) []) Done))))
          where
            end : Frame
            end = at (if int_lt y x then to else behind 6 mid) both []

    -- in both directions
    kept_by : (mid : ℕ) (reversed : Bool) → KeepsBounds i counter limit mid reversed → (x y : ℤ) → counter < length f.locals → limit < length f.locals
        → (a : Activation) (held : List HeldWord) → RestsWith g v held a f.locals
        → Goes 2 (placed f mid (y ∷ x ∷ []))
        (at (behind 2 mid) (with_both kept sized g v inner laid sound name t slot limit holds (turn_first reversed x y) (turn_last reversed x y) f.locals) [])
    kept_by mid false code x y first second a held rests =
        both_stored limit counter mid code.last code.first x y second first
        (with_both kept sized g v inner laid sound name t slot limit holds x y f.locals) refl 0
        (at (behind 2 mid) (with_both kept sized g v inner laid sound name t slot limit holds x y f.locals) []) Done
    kept_by mid true code x y first second a held rests =
        both_stored counter limit mid code.last code.first x y first second
        (with_both kept sized g v inner laid sound name t slot limit holds y x f.locals)
        (both_swapped kept sized g v inner laid sound name t slot limit holds a f.locals held y x rests first second) 0
        (at (behind 2 mid) (with_both kept sized g v inner laid sound name t slot limit holds y x f.locals) []) Done

    begun_by : (mid to : ℕ) (reversed : Bool) → Begins i counter limit mid to reversed → (x y : ℤ) → counter < length f.locals → limit < length f.locals
        → (a : Activation) (held : List HeldWord) → RestsWith g v held a f.locals
        → Goes 6 (placed f mid (y ∷ x ∷ []))
        (at (if int_lt y x then to else behind 6 mid)
        (with_both kept sized g v inner laid sound name t slot limit holds (turn_first reversed x y) (turn_last reversed x y) f.locals) [])
    begun_by mid to false code x y first second a held rests =
        begun limit counter mid code.last code.first x y second first (with_both kept sized g v inner laid sound name t slot limit holds x y f.locals) refl
        to code.last_again code.first_again code.less code.jump there.1.0 there.0
      where
        there : AreHeld (with_both kept sized g v inner laid sound name t slot limit holds x y f.locals) (in_turn counter limit x y held)
        there = turn_held kept sized g v inner laid sound name t slot limit holds a f.locals held x y rests first second
    begun_by mid to true code x y first second a held rests =
        begun counter limit mid code.last code.first x y first second (with_both kept sized g v inner laid sound name t slot limit holds y x f.locals)
        (both_swapped kept sized g v inner laid sound name t slot limit holds a f.locals held y x rests first second)
        to code.last_again code.first_again code.less code.jump there.0 there.1.0
      where
        there : AreHeld (with_both kept sized g v inner laid sound name t slot limit holds y x f.locals) (in_turn counter limit y x held)
        there = turn_held kept sized g v inner laid sound name t slot limit holds a f.locals held y x rests first second

    -- ---- the end of a turn
    module _ (back to : ℕ) (reversed : Bool) (code : Advances i counter limit back to reversed) (now last : ℤ) (now_there : slice_get f.locals counter ≡ Some now)
        (last_there : slice_get f.locals limit ≡ Some last) where
      tested : Goes 4 (placed f back []) (placed f (if are_equal now last then to else behind 4 back) [])
      tested =
          then_step quiet i schedule k u m fs calm 3 (placed f back []) (placed f (behind 1 back) (now ∷ [])) end
          (loads_local quiet i schedule k u m f fs back counter code.now now [] now_there)
          (then_step quiet i schedule k u m fs calm 2 (placed f (behind 1 back) (now ∷ [])) (placed f (behind 2 back) (last ∷ now ∷ [])) end
          (loads_local quiet i schedule k u m f fs (behind 1 back) limit code.last last (now ∷ []) last_there)
          (then_step quiet i schedule k u m fs calm 1 (placed f (behind 2 back) (last ∷ now ∷ [])) (placed f (behind 3 back) (word_of (are_equal now last) ∷ [])) end
          (compares quiet i schedule k u m f fs (behind 2 back) code.equal now last [])
          (then_step quiet i schedule k u m fs calm 0 (placed f (behind 3 back) (word_of (are_equal now last) ∷ [])) end end
          (jumps_if quiet i schedule k u m f fs (behind 3 back) to code.jump (are_equal now last) []) Done)))
        where
          end : Frame
          end = placed f (if are_equal now last then to else behind 4 back) []

      loaded_again : Goes 2 (placed f (behind 4 back) []) (placed f (behind 6 back) (pos 1 ∷ now ∷ []))
      loaded_again =
          then_step quiet i schedule k u m fs calm 1 (placed f (behind 4 back) []) (placed f (behind 5 back) (now ∷ [])) (placed f (behind 6 back) (pos 1 ∷ now ∷ []))
          (loads_local quiet i schedule k u m f fs (behind 4 back) counter code.again now [] now_there)
          (then_step quiet i schedule k u m fs calm 0 (placed f (behind 5 back) (now ∷ [])) (placed f (behind 6 back) (pos 1 ∷ now ∷ []))
          (placed f (behind 6 back) (pos 1 ∷ now ∷ []))
          (puts quiet i schedule k u m f fs (behind 5 back) (pos 1) code.one (now ∷ [])) Done)

      abbrev one_more : Bool → Checked
      one_more r = if r then difference_of now (pos 1) else sum_of now (pos 1)

      number_acts : (r : Bool) → At i (behind 6 back) (next_operation r) → (schedule : List ScheduleLine) (k : Kernel) (u : ℕ) (m : Words)
          → act i schedule k u (in_frame m (placed f (behind 6 back) (pos 1 ∷ now ∷ [])) fs)
          ≡ gives i schedule k u m (placed f (behind 6 back) (pos 1 ∷ now ∷ [])) fs (one_more r) []
      number_acts true here schedule k u m = acts quiet i (behind 6 back) op.Subtract here schedule k u m f fs (pos 1 ∷ now ∷ [])
      number_acts false here schedule k u m = acts quiet i (behind 6 back) op.Add here schedule k u m f fs (pos 1 ∷ now ∷ [])

      number_comes : (c : Checked)
          → ((schedule : List ScheduleLine) (k : Kernel) (u : ℕ) (m : Words) → act i schedule k u (in_frame m (placed f (behind 6 back) (pos 1 ∷ now ∷ [])) fs)
          ≡ gives i schedule k u m (placed f (behind 6 back) (pos 1 ∷ now ∷ [])) fs c [])
          → Comes i schedule k u m (placed f (behind 6 back) (pos 1 ∷ now ∷ [])) fs 1 (behind 7 back) (λ z. z ∷ []) (number_computed c)
      number_comes (Ok z) is =
          steps quiet i schedule k u m calm (placed f (behind 6 back) (pos 1 ∷ now ∷ [])) (placed f (behind 7 back) (z ∷ [])) fs
          (is schedule k u m ∙ ap (λ q. does Quiet m (placed f q (z ∷ [])) fs None None) up)
        where
          up : (behind 6 back) + 1 ≡ behind 7 back
          up = omega arith
      number_comes (Err x) is = (
        (in_frame m (placed f (behind 6 back) (pos 1 ∷ now ∷ [])) fs).task,
        behind 6 back,
        pos 1 ∷ now ∷ [],
        Last refl,
        omega arith,
        omega arith,
        record { throws = λ schedule l m opened ranked. is schedule l u m },
      )

      counted : are_equal now last ≡ false → Comes i schedule k u m (placed f back []) fs ((behind 7 back) - back) (behind 7 back) (λ z. z ∷ [])
          (number_computed (one_more reversed))
      counted other =
          more quiet i schedule k u m calm (placed f back []) fs (4 + (2 + 1)) ((behind 7 back) - back) (behind 7 back) (λ z. z ∷ []) (number_computed (one_more reversed))
          (omega arith)
          (after_first quiet i schedule k u m calm (placed f back []) fs 4 (2 + 1) (behind 4 back) (behind 7 back) [] (λ z. z ∷ [])
          (number_computed (one_more reversed))
          (omega arith)
          (subst (λ b. Goes 4 (placed f back []) (placed f (if b then to else behind 4 back) [])) other tested)
          (after_first quiet i schedule k u m calm (placed f (behind 4 back) []) fs 2 1 (behind 6 back) (behind 7 back) (pos 1 ∷ now ∷ []) (λ z. z ∷ [])
          (number_computed (one_more reversed))
          (omega arith) loaded_again
          (number_comes (one_more reversed) (number_acts reversed code.computes))))

      advanced : (next : ℤ) → Goes 1 (placed f (behind 7 back) (next ∷ [])) (at (behind 8 back) (with_word counter next f.locals) [])
      advanced next =
          then_step quiet i schedule k u m fs calm 0 (placed f (behind 7 back) (next ∷ [])) (at (behind 8 back) (with_word counter next f.locals) [])
          (at (behind 8 back) (with_word counter next f.locals) [])
          (stores_local quiet i schedule k u m f fs (behind 7 back) counter code.store next [] (inside f.locals counter now now_there)) Done

  -- ---- the parts of the loop

  -- the bounds and the first turn
  turns_inside : (r : Bool) (x y : ℤ) → (int_le t.first x && int_le y t.last) ≡ true → int_lt y x ≡ false
      → are_turns_inside t r (turn_first r x y) (turn_last r x y) ≡ true
  turns_inside true x y h k = first_inside t x y h k
  turns_inside false x y h k = first_inside t x y h k

  counter_in : (p : Place) (f : Frame) (schedule : List ScheduleLine) (k : Kernel) (u : ℕ) (m : Words) (fs : List Frame)
      → Knows g v p (view_of i schedule k u m f fs) → counter < length f.locals
  counter_in p f schedule k u m fs knows =
      let r = knows.room in let h = parameter_fits kept sized g v inner laid sound name t slot limit holds in omega (arith, r, h)

  limit_in : (p : Place) (f : Frame) (schedule : List ScheduleLine) (k : Kernel) (u : ℕ) (m : Words) (fs : List Frame)
      → Knows g v p (view_of i schedule k u m f fs) → limit < length f.locals
  limit_in p f schedule k u m fs knows = let r = knows.room in let h = holds.room in omega (arith, r, h)

  module _ (range : RangeTree) (reversed : Bool) (from middle mid to : ℕ) (low : from ≤ middle) (high : middle ≤ mid)
      (first : Computes i (library_of g) (Sees g v.names) from middle range.first)
      (last : Computes i (library_of g) (Sees g v.names) middle mid range.last)
      (fitted : (p : Place) (view : View) (x y : ℤ) → Knows g v p view → bounds range (call p.frames_left) p ≡ Gives (number_bounds x y)
      → (int_le t.first x && int_le y t.last) ≡ true) where
    tested_range : Begins i counter limit mid to reversed → IsRange i g v inner counter limit from (behind 6 mid) to name reversed range t
    tested_range code = record {
      inside = λ p view x y knows gives full. turns_inside reversed x y (fitted p view x y knows gives) full;
      mid = mid;
      up = omega (arith, low, high);
      over = omega arith;
      stack = bounds_on;
      computes = computes_bounds quiet i g v range from middle mid low high first last;
      null = null;
      begins = begins;
    }
      where
        null : (schedule : List ScheduleLine) (k : Kernel) (u : ℕ) (m : Words) (f : Frame) (fs : List Frame) (held : List HeldWord) (a : Activation)
            (p : Place)
            (x y : ℤ)
            → Calm k u → p.locals ≡ a.locals → Knows g v p (view_of i schedule k u m f fs) → RestsWith g v held a f.locals
            → bounds range (call p.frames_left) p ≡ Gives (number_bounds x y) → int_lt y x ≡ true
            → GoesOn i g schedule k u m (placed f mid (bounds_on [] (number_bounds x y))) fs ((behind 6 mid) - mid) to v held a
        null schedule k u m f fs held a p x y calm objects knows rests gives before =
            let c = counter_in p f schedule k u m fs knows in
            let l = limit_in p f schedule k u m fs knows in
            record {
              locals = both_words reversed x y f.locals;
              spends = spends_more (behaviour i schedule) u frames_of (most_steps i) ((behind 6 mid) - mid) (omega arith)
                  (subst (λ b. Walks i schedule k u m fs 6 (placed f mid (y ∷ x ∷ []))
                  (record f { place = if b then to else behind 6 mid; locals = both_words reversed x y f.locals; stack = [] })) before
                  (begun_by schedule k u m f fs calm mid to reversed code x y c l a held rests));
              rests = null_rests kept sized g v inner laid sound name t slot limit holds a f.locals held (turn_first reversed x y) (turn_last reversed x y)
                  rests c l;
            }

        begins : (schedule : List ScheduleLine) (k : Kernel) (u : ℕ) (m : Words) (f : Frame) (fs : List Frame) (held : List HeldWord) (a : Activation)
            (p : Place)
            (x y : ℤ)
            → Calm k u → p.locals ≡ a.locals → Knows g v p (view_of i schedule k u m f fs) → RestsWith g v held a f.locals
            → bounds range (call p.frames_left) p ≡ Gives (number_bounds x y) → int_lt y x ≡ false
            → GoesOn i g schedule k u m (placed f mid (bounds_on [] (number_bounds x y))) fs ((behind 6 mid) - mid) (behind 6 mid) inner
            (in_turn counter limit (turn_first reversed x y) (turn_last reversed x y) held) (with_parameter name (turn_first reversed x y) a)
        begins schedule k u m f fs held a p x y calm objects knows rests gives before =
            let c = counter_in p f schedule k u m fs knows in
            let l = limit_in p f schedule k u m fs knows in
            record {
              locals = both_words reversed x y f.locals;
              spends = spends_more (behaviour i schedule) u frames_of (most_steps i) ((behind 6 mid) - mid) (omega arith)
                  (subst (λ b. Walks i schedule k u m fs 6 (placed f mid (y ∷ x ∷ []))
                  (record f { place = if b then to else behind 6 mid; locals = both_words reversed x y f.locals; stack = [] })) before
                  (begun_by schedule k u m f fs calm mid to reversed code x y c l a held rests));
              rests = turn_rests kept sized g v inner laid sound name t slot limit holds a f.locals held (turn_first reversed x y) (turn_last reversed x y)
                  rests c l (turn_within t reversed (turn_first reversed x y) (turn_last reversed x y)
                  (turns_inside reversed x y (fitted p (view_of i schedule k u m f fs) x y knows gives) before));
            }

    -- the range is never null
    kept_range : ((p : Place) (view : View) (x y : ℤ) → Knows g v p view → bounds range (call p.frames_left) p ≡ Gives (number_bounds x y)
        → int_lt y x ≡ false)
        → KeepsBounds i counter limit mid reversed → IsRange i g v inner counter limit from (behind 2 mid) to name reversed range t
    kept_range never code = record {
      inside = λ p view x y knows gives full. turns_inside reversed x y (fitted p view x y knows gives) full;
      mid = mid;
      up = omega (arith, low, high);
      over = omega arith;
      stack = bounds_on;
      computes = computes_bounds quiet i g v range from middle mid low high first last;
      null = λ schedule k u m f fs held a p x y calm objects knows rests gives before.
          absurd (let not_so = sym before ∙ never p (view_of i schedule k u m f fs) x y knows gives in cc);
      begins = begins;
    }
      where
        begins : (schedule : List ScheduleLine) (k : Kernel) (u : ℕ) (m : Words) (f : Frame) (fs : List Frame) (held : List HeldWord) (a : Activation)
            (p : Place)
            (x y : ℤ)
            → Calm k u → p.locals ≡ a.locals → Knows g v p (view_of i schedule k u m f fs) → RestsWith g v held a f.locals
            → bounds range (call p.frames_left) p ≡ Gives (number_bounds x y) → int_lt y x ≡ false
            → GoesOn i g schedule k u m (placed f mid (bounds_on [] (number_bounds x y))) fs ((behind 2 mid) - mid) (behind 2 mid) inner
            (in_turn counter limit (turn_first reversed x y) (turn_last reversed x y) held) (with_parameter name (turn_first reversed x y) a)
        begins schedule k u m f fs held a p x y calm objects knows rests gives before =
            let c = counter_in p f schedule k u m fs knows in
            let l = limit_in p f schedule k u m fs knows in
            record {
              locals = both_words reversed x y f.locals;
              spends = spends_more (behaviour i schedule) u frames_of (most_steps i) ((behind 2 mid) - mid) (omega arith)
                  (kept_by schedule k u m f fs calm mid reversed code x y c l a held rests);
              rests = turn_rests kept sized g v inner laid sound name t slot limit holds a f.locals held (turn_first reversed x y) (turn_last reversed x y)
                  rests c l (turn_within t reversed (turn_first reversed x y) (turn_last reversed x y)
                  (turns_inside reversed x y (fitted p (view_of i schedule k u m f fs) x y knows gives) before));
            }

    pub is_range : (full : Bool) (start : ℕ)
        → (full ≡ true → (p : Place) (view : View) (x y : ℤ) → Knows g v p view → bounds range (call p.frames_left) p ≡ Gives (number_bounds x y)
        → int_lt y x ≡ false)
        → Opens i counter limit mid start to reversed full → IsRange i g v inner counter limit from start to name reversed range t
    is_range full start never (Tests code at) =
        subst (λ n. IsRange i g v inner counter limit from n to name reversed range t) (sym at) (tested_range code)
    is_range full start never (Keeps code is at) =
        subst (λ n. IsRange i g v inner counter limit from n to name reversed range t) (sym at) (kept_range (never is) code)

  -- the end of a turn
  pub is_next : (reversed : Bool) (back to : ℕ) → Advances i counter limit back to reversed → IsTurnEnd i g inner counter limit back (behind 8 back) to name reversed t
  is_next reversed back to code = record {
    ends = ends;
    mid = behind 7 back;
    up = omega arith;
    over = omega arith;
    stack = λ z. z ∷ [];
    counts = λ schedule k u m f fs held a now last calm rests other.
        counted schedule k u m f fs calm back to reversed code now last rests.held.0 rests.held.1.0 other;
    goes = goes;
  }
    where
      ends : (schedule : List ScheduleLine) (k : Kernel) (u : ℕ) (m : Words) (f : Frame) (fs : List Frame) (held : List HeldWord) (a : Activation) (now last : ℤ)
          → Calm k u → RestsWith g inner (in_turn counter limit now last held) a f.locals → are_same now last ≡ true
          → GoesOn i g schedule k u m (placed f back []) fs ((behind 8 back) - back) to inner (in_turn counter limit now last held) a
      ends schedule k u m f fs held a now last calm rests same = record {
        locals = f.locals;
        spends = spends_more (behaviour i schedule) u frames_of (most_steps i) ((behind 8 back) - back) (omega arith)
            (subst (λ b. Walks i schedule k u m fs 4 (placed f back []) (placed f (if b then to else behind 4 back) [])) same
            (tested schedule k u m f fs calm back to reversed code now last rests.held.0 rests.held.1.0));
        rests = rests;
      }

      goes : (schedule : List ScheduleLine) (k : Kernel) (u : ℕ) (m : Words) (f : Frame) (fs : List Frame) (held : List HeldWord) (a : Activation)
          (now last next : ℤ)
          → Calm k u → RestsWith g inner (in_turn counter limit now last held) a f.locals → is_within t.first t.last next ≡ true
          → GoesOn i g schedule k u m (placed f (behind 7 back) (next ∷ [])) fs ((behind 8 back) - (behind 7 back)) (behind 8 back) inner
          (in_turn counter limit next last held) (with_parameter name next a)
      goes schedule k u m f fs held a now last next calm rests ranged = record {
        locals = with_word counter next f.locals;
        spends = spends_more (behaviour i schedule) u frames_of (most_steps i) ((behind 8 back) - (behind 7 back)) (omega arith)
            (advanced schedule k u m f fs calm back to reversed code now last rests.held.0 rests.held.1.0 next);
        rests = next_rests kept sized g v inner laid sound name t slot limit holds a f.locals held now last next ranged rests;
      }

  -- the whole loop around its statements
  abbrev pub is_counted : (reversed : Bool) (from start back to : ℕ) → from ≤ start → start ≤ back → to ≡ suc (behind 8 back)
      → Advances i counter limit back to reversed → At i (behind 8 back) (op.Jump start)
      → IsCounted i g v from to name reversed
  is_counted reversed from start back to up over end code jump = record {
    counter = counter;
    limit = limit;
    inner = inner;
    subtype = t;
    start = start;
    back = back;
    turn = behind 8 back;
    up = up;
    over = over;
    on = omega arith;
    end = end;
    next = is_next reversed back to code;
    jump = jump;
    shows = parameter_shows kept sized g v inner laid sound name t slot limit holds;
    reserved = holds.reserved;
  }
