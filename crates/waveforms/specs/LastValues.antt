-- Which values were written last after some instants; contracts within the crate name it.
use Rattle.std.specs.Prelude.{ℕ, ℤ, List, [], ◌∷◌, int_lt, unsigned_abs, Option, Some, None, Bool, true, false, if◌then◌else◌}
use Rattle.std.specs.Int.{cast_unsigned, w64}
use Rattle.base.specs.declared.schedule.ScheduleLine.{ScheduleLine}
use Rattle.kernel.specs.State.{Line}
use Rattle.image.specs.Code.{CodeWorld}
use Rattle.image.specs.Sections.{Sections}
use Rattle.waveforms.specs.Instants.{world_before}
use Rattle.waveforms.specs.Lines.{TaskLabel, is_under}
use Rattle.waveforms.specs.Signals.{Shown, known_values, values}
use Rattle.waveforms.specs.Scopes.{Scopes}
use Rattle.waveforms.specs.TimeWaves.{instant_text}

abbrev pub dumped_after : Scopes → List ScheduleLine → List TaskLabel → Option Shown → List CodeWorld → Option Shown
dumped_after scopes schedule labels dumped [] = dumped
dumped_after scopes schedule labels dumped (w ∷ ws) = dumped_after scopes schedule labels (Some (values scopes schedule labels w)) ws

-- these values, if they were written
abbrev pub written_values : Bool → Shown → Option Shown
written_values true vs = Some vs
written_values false vs = None

-- the labels of an image's run, the values of their last lines that were written last, and those of their last lines so far
pub record HeldLines : Type 0 where
  pub image : Sections
  pub labels : List TaskLabel
  pub written : List (Option ℕ)
  pub current : List (Option ℕ)

-- the value of a label with this line
abbrev pub value_with : Line → TaskLabel → Option ℕ → Option ℕ
value_with l p before = if is_under p l then Some (cast_unsigned w64 l.value) else before

-- the values of these labels with it
abbrev pub noted : Line → List TaskLabel → List (Option ℕ) → List (Option ℕ)
noted l (p ∷ ps) (v ∷ vs) = value_with l p v ∷ noted l ps vs
noted l _ _ = []

-- with the line of a step, if it has written one
abbrev pub noted_all : List Line → List TaskLabel → List (Option ℕ) → List (Option ℕ)
noted_all [] ps vs = vs
noted_all (l ∷ ls) ps vs = noted_all ls ps (noted l ps vs)

-- what memory that was made before the run holds between steps: places for so many values beside those of inputs and lines, the schedule by which inputs are
-- read, the values that were written last, if any were, those of lines, and a text
pub record HeldRows : Type 0 where
  pub room : ℕ
  pub schedule : List ScheduleLine
  pub is_written : Bool
  pub last : List ℕ
  pub lines : HeldLines
  pub text : List ℕ

abbrev pub last_shown : HeldRows → Shown
last_shown r = record { known = r.last; lines = r.lines.written }

abbrev pub last_values : HeldRows → Option Shown
last_values r = written_values r.is_written (last_shown r)

-- what is to be shown of this world
abbrev pub shown_by : Scopes → HeldRows → CodeWorld → Shown
shown_by scopes r w = record { known = known_values scopes r.schedule w; lines = r.lines.current }

-- what is written, and which values were written last, where a step was taken at this time and leads to this world: it ends the instant or doesn't

abbrev pub ended_text : Scopes → HeldRows → (time : ℤ) → CodeWorld → List ℕ
ended_text scopes r time w = if int_lt time w.kernel.now then instant_text (unsigned_abs time) (last_values r) (shown_by scopes r (world_before time w)) else []

abbrev pub ended_values : Scopes → HeldRows → (time : ℤ) → CodeWorld → Option Shown
ended_values scopes r time w = if int_lt time w.kernel.now then Some (shown_by scopes r (world_before time w)) else last_values r
