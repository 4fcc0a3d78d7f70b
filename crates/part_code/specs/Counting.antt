-- Which code is that of a loop over a range (RM 5.5): the words of its parameter and of its last value are held as long as its statements are worked.
use Rattle.std.specs.Prelude.{◌≡◌, ◌≤◌, ◌-◌, ℕ, suc, ℤ, pos, Bool, true, false, List, [], ◌∷◌, length, int_le, int_lt, ◌&&◌, if◌then◌else◌}
use Rattle.base.specs.declared.schedule.ScheduleLine.{ScheduleLine}
use Rattle.kernel.specs.State.{Kernel}
use Rattle.kernel.specs.Calm.{Calm}
use Rattle.kernel.specs.Counting.{Spends}
use Rattle.ada_tree.specs.StatementTree.{RangeTree}
use Rattle.image.specs.Sections.{Sections}
use Rattle.image.specs.Frames.{Frame, Words}
use Rattle.image.specs.Steps.{behaviour}
use Rattle.image.specs.declared.instruction.Operation.TheVariants as op
use Rattle.types.specs.Evaluations.{Val, Gives, and_then}
use Rattle.types.specs.Evaluating.{Calls, call, value_with}
use Rattle.types.specs.Operators.{are_same}
use Rattle.types.specs.Places.{Place}
use Rattle.types.specs.declared.entity.Subtype.{Subtype}
use Rattle.types.specs.Values.{Value, Number, is_within}
use Rattle.expr_soundness.specs.meaning.specs.SameMeaning.{frames_of}
use Rattle.expr_soundness.specs.meaning.specs.SourceSteps.{number_computed}
use Rattle.expr_soundness.specs.meaning.specs.Works.{Activation, turn_subtype}
use Rattle.base.specs.Arithmetic.{difference_of, sum_of}
use Rattle.expr_code.specs.Views.{At, in_frame, placed, View, view_of}
use Rattle.expr_code.specs.Coming.{Comes, most_steps}
use Rattle.expr_code.specs.Computing.{Everywhere}
use Rattle.expr_code.specs.Seeing.{library_of, Package, Sees}
use Rattle.part_code.specs.Resting.{Framed, HeldWord, Knows, RestsWith, Shows}

-- the bounds of the range, the first one before the last one
pub record Bounds : Type 0 where
  pub first : Value
  pub last : Value

abbrev pub with_last : Value → Value → Val Bounds
with_last first last = Gives (record { first = first; last = last })

abbrev pub bounds : RangeTree → Calls → Place → Val Bounds
bounds range calls p = and_then (value_with calls p range.first) (λ a. and_then (value_with calls p range.last) (with_last a))

abbrev pub number_bounds : (first last : ℤ) → Bounds
number_bounds first last = record { first = Number first; last = Number last }

-- the words that are held in a turn
abbrev pub in_turn : (counter limit : ℕ) (now last : ℤ) → List HeldWord → List HeldWord
in_turn counter limit now last held = record { offset = counter; word = now } ∷ record { offset = limit; word = last } ∷ held

-- the activation with the parameter's value in a turn
abbrev pub with_parameter : (parameter : List ℕ) (now : ℤ) → Activation → Activation
with_parameter parameter now a = record a { locals = record { name = parameter; subtype = turn_subtype now; value = Number now } ∷ a.locals }

-- the values of the first turn and of the last one
abbrev pub turn_first : (reversed : Bool) (first last : ℤ) → ℤ
turn_first reversed first last = if reversed then last else first

abbrev pub turn_last : (reversed : Bool) (first last : ℤ) → ℤ
turn_last reversed first last = if reversed then first else last

-- the turns from this one to the last one have numbers of the subtype
abbrev pub are_turns_inside : Subtype → (reversed : Bool) → (now last : ℤ) → Bool
are_turns_inside t reversed now last =
    if reversed then int_le t.first last && (int_le last now && int_le now t.last) else int_le t.first now && (int_le now last && int_le last t.last)

module _ (i : Sections) (g : Package) where
  -- The frame goes on at a place with an empty operand stack, after at most n steps of its own: its locals stand for the activation, and hold these words.
  pub record GoesOn (schedule : List ScheduleLine) (k : Kernel) (t : ℕ) (m : Words) (f : Frame) (fs : List Frame) (n to : ℕ) (later : Framed)
      (held : List HeldWord)
      (a : Activation) : Type 0 where
    pub locals : List ℤ
    pub spends : Spends (behaviour i schedule) t frames_of (most_steps i) (suc (length fs)) n k (in_frame m f fs) k
        (in_frame m (record f { place = to; locals = locals; stack = [] }) fs)
    pub rests : RestsWith g later held a locals

  -- The bounds are computed; then the frame goes on behind the loop where the range is null, else at the statements of the first turn. All turns have numbers
  -- of the parameter's subtype.
  pub record IsRange (v inner : Framed) (counter limit from start to : ℕ) (parameter : List ℕ) (reversed : Bool) (range : RangeTree)
      (subtype : Subtype) : Type 0 where
    pub mid : ℕ
    pub up : from ≤ mid
    pub over : mid ≤ start
    pub stack : List ℤ → Bounds → List ℤ
    pub computes : Everywhere i (library_of g) (Sees g v.names) from mid stack (bounds range)
    pub inside : (p : Place) (view : View) (x y : ℤ) → Knows g v p view → bounds range (call p.frames_left) p ≡ Gives (number_bounds x y)
        → int_lt y x ≡ false → are_turns_inside subtype reversed (turn_first reversed x y) (turn_last reversed x y) ≡ true
    pub null : (schedule : List ScheduleLine) (k : Kernel) (t : ℕ) (m : Words) (f : Frame) (fs : List Frame) (held : List HeldWord) (a : Activation) (p : Place)
        (x y : ℤ)
        → Calm k t
        → p.locals ≡ a.locals
        → Knows g v p (view_of i schedule k t m f fs)
        → RestsWith g v held a f.locals
        → bounds range (call p.frames_left) p ≡ Gives (number_bounds x y)
        → int_lt y x ≡ true
        → GoesOn schedule k t m (placed f mid (stack [] (number_bounds x y))) fs (start - mid) to v held a
    pub begins : (schedule : List ScheduleLine) (k : Kernel) (t : ℕ) (m : Words) (f : Frame) (fs : List Frame) (held : List HeldWord) (a : Activation)
        (p : Place)
        (x y : ℤ)
        → Calm k t
        → p.locals ≡ a.locals
        → Knows g v p (view_of i schedule k t m f fs)
        → RestsWith g v held a f.locals
        → bounds range (call p.frames_left) p ≡ Gives (number_bounds x y)
        → int_lt y x ≡ false
        → GoesOn schedule k t m (placed f mid (stack [] (number_bounds x y))) fs (start - mid) start inner
        (in_turn counter limit (turn_first reversed x y) (turn_last reversed x y) held)
        (with_parameter parameter (turn_first reversed x y) a)

  -- The end of a turn: behind the loop after the last one; else its value is the next one, and the frame comes to the jump back.
  pub record IsTurnEnd (inner : Framed) (counter limit from turn to : ℕ) (parameter : List ℕ) (reversed : Bool) (subtype : Subtype) : Type 0 where
    pub ends : (schedule : List ScheduleLine) (k : Kernel) (t : ℕ) (m : Words) (f : Frame) (fs : List Frame) (held : List HeldWord) (a : Activation)
        (now last : ℤ)
        → Calm k t
        → RestsWith g inner (in_turn counter limit now last held) a f.locals
        → are_same now last ≡ true
        → GoesOn schedule k t m (placed f from []) fs (turn - from) to inner (in_turn counter limit now last held) a
    -- the sum or the difference is computed, or it raises
    pub mid : ℕ
    pub up : from ≤ mid
    pub over : mid ≤ turn
    pub stack : ℤ → List ℤ
    pub counts : (schedule : List ScheduleLine) (k : Kernel) (t : ℕ) (m : Words) (f : Frame) (fs : List Frame) (held : List HeldWord) (a : Activation)
        (now last : ℤ)
        → Calm k t
        → RestsWith g inner (in_turn counter limit now last held) a f.locals
        → are_same now last ≡ false
        → Comes i schedule k t m (placed f from []) fs (mid - from) mid stack
        (number_computed (if reversed then difference_of now (pos 1) else sum_of now (pos 1)))
    pub goes : (schedule : List ScheduleLine) (k : Kernel) (t : ℕ) (m : Words) (f : Frame) (fs : List Frame) (held : List HeldWord) (a : Activation)
        (now last next : ℤ)
        → Calm k t
        → RestsWith g inner (in_turn counter limit now last held) a f.locals
        → is_within subtype.first subtype.last next ≡ true
        → GoesOn schedule k t m (placed f mid (stack next)) fs (turn - mid) turn inner (in_turn counter limit next last held) (with_parameter parameter next a)

  -- the bounds, the statements of a turn, its end, and a jump back to the statements
  pub record IsCounted (v : Framed) (from to : ℕ) (parameter : List ℕ) (reversed : Bool) : Type 0 where
    pub counter : ℕ
    pub limit : ℕ
    pub inner : Framed
    -- that of the parameter
    pub subtype : Subtype
    pub start : ℕ
    pub back : ℕ
    pub turn : ℕ
    pub up : from ≤ start
    pub over : start ≤ back
    pub on : back ≤ turn
    pub end : to ≡ suc turn
    pub next : IsTurnEnd inner counter limit back turn to parameter reversed subtype
    pub jump : At i turn (op.Jump start)
    pub shows : Shows g inner v
    pub reserved : inner.reserved ≡ counter ∷ limit ∷ v.reserved
