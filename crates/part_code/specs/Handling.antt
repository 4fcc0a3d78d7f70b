-- Where exceptions go on that code raises, and how the code of a handler begins (RM 11.4; docs/CODEGEN.md).
use Rattle.std.specs.Prelude.{◌≡◌, ◌≤◌, ◌<◌, ℕ, suc, ℤ, pos, List, [], ◌∷◌, length, Option, Some, None, All}
use Rattle.base.specs.declared.schedule.ScheduleLine.{ScheduleLine}
use Rattle.kernel.specs.State.{Kernel}
use Rattle.kernel.specs.Effects.{Quiet}
use Rattle.handlers.specs.declared.rows.Row.{Row}
use Rattle.handlers.specs.Innermost.{handler_of}
use Rattle.image.specs.Sections.{Sections}
use Rattle.image.specs.Frames.{Frame, Words}
use Rattle.image.specs.Steps.{act, does}
use Rattle.expr_soundness.specs.meaning.specs.Works.{Activation}
use Rattle.expr_code.specs.Seeing.{Package}
use Rattle.expr_code.specs.Views.{in_frame, placed}
use Rattle.part_code.specs.Resting.{Framed, HeldWord, RestsWith, Shows}

-- where each exception goes on in the same subprogram, if it does
abbrev pub Handling : Type 0
Handling = ℕ → Option ℕ

abbrev pub unhandled : Handling
unhandled x = None

-- so goes on what these places raise, by the rows of the image
abbrev pub GoesBy : Sections → Handling → (from to : ℕ) → Type 0
GoesBy i r from to = (place x : ℕ) → from ≤ place → place < to → handler_of i.rows place x ≡ r x

-- the one answer, or else the other
abbrev pub or_answer : Option ℕ → Option ℕ → Option ℕ
or_answer (Some target) other = Some target
or_answer None other = other

-- where rows were added for the code between these places, an exception goes where they say, and else where the rows around it say
abbrev pub GoesByRows : Sections → List Row → Handling → (from to : ℕ) → Type 0
GoesByRows i added r from to =
    (place x : ℕ) → from ≤ place → place < to → handler_of i.rows place x ≡ or_answer (handler_of added place x) (r x)

-- rows of code between these places, and rows that cover just these places
abbrev pub LieWithin : (from to : ℕ) → List Row → Type 0
LieWithin from to rows = All (λ q. (from ≤ q.start) × (q.end_ ≤ to)) rows

abbrev pub CoverJust : (from to : ℕ) → List Row → Type 0
CoverJust from to rows = All (λ q. (q.start ≡ from) × (q.end_ ≡ to)) rows

-- the word of a frame that holds an exception
abbrev pub exception_in : (word x : ℕ) → HeldWord
exception_in word x = record { offset = word; word = pos x }

module _ (i : Sections) (g : Package) where
  -- The instruction takes the exception off the operand stack into a word of the frame, which is held from there on.
  pub record IsKept (inner : Framed) (word place : ℕ) (f : Frame) (held : List HeldWord) (a : Activation) (x : ℕ) : Type 0 where
    pub locals : List ℤ
    pub acts : (schedule : List ScheduleLine) (k : Kernel) (t : ℕ) (m : Words) (fs : List Frame)
        → act i schedule k t (in_frame m (placed f place (pos x ∷ [])) fs)
        ≡ does Quiet m (record f { place = suc place; locals = locals; stack = [] }) fs None None
    pub rests : RestsWith g inner (exception_in word x ∷ held) a locals

  -- the exception is kept in this word, in each frame and for each exception
  pub record KeepsException (v inner : Framed) (word place : ℕ) : Type 0 where
    pub shows : Shows g inner v
    pub reserved : inner.reserved ≡ word ∷ v.reserved
    pub keeps : (f : Frame) (held : List HeldWord) (a : Activation) (x : ℕ) → v.room ≤ length f.locals → RestsWith g v held a f.locals
        → IsKept inner word place f held a x
