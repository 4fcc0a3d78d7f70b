-- What it is that code comes to a value (RM 4): the frame comes from its place to another one with the value on its operand stack, or to an instruction that
-- raises.
use Rattle.std.specs.Prelude.{◌≡◌, ℕ, suc, ◌+◌, ◌-◌, ◌≤◌, ◌<◌, ℤ, List, [], ◌∷◌, ◌++◌, length, reverse}
use Rattle.base.specs.declared.schedule.ScheduleLine.{ScheduleLine}
use Rattle.kernel.specs.State.{Kernel}
use Rattle.kernel.specs.Counting.{Spends}
use Rattle.image.specs.Sections.{Sections, first_place, end_of}
use Rattle.image.specs.Operations.{called}
use Rattle.image.specs.Frames.{Words, Frame, TaskState}
use Rattle.image.specs.Steps.{act, behaviour, unwind}
use Rattle.types.specs.Values.{Value}
use Rattle.types.specs.Shapes.{value_words}
use Rattle.types.specs.Evaluations.{Val, Gives, Raises, Meaningless}
use Rattle.expr_soundness.specs.meaning.specs.Meeting.{Takes}
use Rattle.expr_soundness.specs.meaning.specs.SameMeaning.{frames_of}
use Rattle.expr_code.specs.Views.{in_frame, placed}

-- the words of a value on an operand stack, the last one on top
abbrev pub on : List ℤ → Value → List ℤ
on base v = reverse (value_words v) ++ base

abbrev pub all_words : List Value → List ℤ
all_words [] = []
all_words (v ∷ vs) = value_words v ++ all_words vs

-- the words of values, those of the last one on top
abbrev pub all_on : List ℤ → List Value → List ℤ
all_on base vs = reverse (all_words vs) ++ base

module _ (i : Sections) where
  abbrev pub size_of : ℕ → ℕ
  size_of n = end_of (called i n) - first_place i n

  -- the most steps that a frame takes within one step of the source: twice the instructions of its subprogram, and one. Code goes forward up to a turn of a
  -- loop, and forward again
  abbrev pub most_steps : TaskState → ℕ
  most_steps s = suc (size_of s.frame.subprogram + size_of s.frame.subprogram)

  -- The next step of the task raises the exception from this frame on, whatever the words are, in each kernel in which the task has the same actions open, and
  -- priorities and ceilings are the same: by these a call may be refused.
  pub record Throws (k : Kernel) (t : ℕ) (x : ℕ) (c : TaskState) (f : Frame) (fs : List Frame) : Type 0 where
    pub throws : (schedule : List ScheduleLine) (l : Kernel) (m : Words) → l.actions t ≡ k.actions t → l.partition ≡ k.partition
        → act i schedule l t (record { memory = m; task = c }) ≡ unwind i m x f fs

  module _ (schedule : List ScheduleLine) (k : Kernel) (t : ℕ) (m : Words) where
    -- In at most n steps of its own the frame comes to the place `to` with this stack, or to a step that raises at an instruction before `to`, and takes at
    -- most n + 1 with this one: what a function of a protected object raises comes to its caller in a step of its own, once the action has ended. The step
    -- that raises may be one of a frame above. Every task, word and line stays. Of what has no meaning nothing is said: legal programs have none.
    abbrev pub Comes : {A : Type 0} → Frame → List Frame → (n to : ℕ) → (stack : A → List ℤ) → Val A → Type 0
    Comes f fs n to stack (Gives a) = Spends (behaviour i schedule) t frames_of most_steps (suc (length fs)) n k (in_frame m f fs) k
        (in_frame m (placed f to (stack a)) fs)
    Comes f fs n to stack (Raises x) =
        (c : TaskState) × (place : ℕ) × (left : List ℤ)
        × Takes (behaviour i schedule) t frames_of most_steps (suc (length fs)) (suc n) k (in_frame m f fs) k (record { memory = m; task = c })
        × (f.place ≤ place)
        × (place < to)
        × Throws k t x c (placed f place left) fs
    Comes f fs n to stack Meaningless = Unit {0}
