-- When the machine stands for a world of code, and what a step of it shows.
use Rattle.std.specs.Prelude.{◌≡◌, ℤ, [], ◌∷◌, ◌++◌, Option, Some, None}
use Rattle.kernel.specs.State as kernel
use Rattle.kernel.specs.State.{Kernel}
use Rattle.kernel.specs.Text.{line_text}
use Rattle.image.specs.Sections.{Sections}
use Rattle.image.specs.Code.{CodeWorld}
use Rattle.image.specs.Texts.{names_of}
use Rattle.execution.specs.Held.{HeldWorld, world_with}
use Rattle.machine.specs.Outcomes.{ending_of, time_of}
use Rattle.machine.specs.declared.reports.Event.{Event}
use Rattle.machine.specs.declared.reports.Event.TheVariants as events
use Rattle.machine.specs.declared.reports.Outcome.{Outcome}

-- what the machine holds is what the world has, beside the lines that were written
abbrev pub HoldsWorld : HeldWorld → CodeWorld → Type 0
HoldsWorld h w = w ≡ world_with w.kernel.lines h

abbrev pub kernel_outcome : Option Outcome → Option kernel.Outcome
kernel_outcome None = None
kernel_outcome (Some o) = ending_of o

-- an outcome at this time is one that code has: not the limit on steps
abbrev pub IsLast : ℤ → Option Outcome → Type 0
IsLast time None = Unit {0}
IsLast time (Some o) = (e : kernel.Outcome) × (ending_of o ≡ Some e) × (time_of o ≡ time)

-- an outcome that code has: not the limit on steps
abbrev pub IsEnding : Outcome → Type 0
IsEnding o = (e : kernel.Outcome) × (ending_of o ≡ Some e)

-- between two kernels: nothing was written and there is no outcome; this line was written; or this is the outcome
abbrev pub ShowsText : Sections → Kernel → Kernel → Event → Type 0
ShowsText i k l events.Quiet = (l.lines ≡ k.lines) × (l.outcome ≡ None)
ShowsText i k l (events.Line text) = (line : kernel.Line) × (l.lines ≡ k.lines ++ line ∷ []) × (text.items ≡ line_text (names_of i) line) × (l.outcome ≡ None)
ShowsText i k l (events.Done o) = (l.lines ≡ k.lines) × (l.outcome ≡ ending_of o) × (l.now ≡ time_of o) × IsEnding o

-- the world's outcome and time; the limit on steps only where the world has no outcome
pub record EndsBy (o : Outcome) (w : CodeWorld) : Type 0 where
  pub outcome : w.kernel.outcome ≡ ending_of o
  pub time : w.kernel.now ≡ time_of o
