-- What is made of a line and of an outcome, as the machine has them.
use Rattle.std.specs.Prelude.{◌≡◌, ℤ, ◌≤ℤ◌, Bool, true, false, Option, Some, None}
use Rattle.kernel.specs.State.{Line}
use Rattle.execution.specs.Held.{line_of}
use Rattle.execution.specs.declared.line.Line.{Line as HeldLine}
use Rattle.image.specs.Sections.{Sections}
use Rattle.tasking.specs.Held.{outcome_of}
use Rattle.tasking.specs.declared.reports.Outcome.{Outcome as End}
use Rattle.kernel.specs.State as kernel
use Rattle.searching.specs.Sights.{IsWanted, Sighting, Stopped, Waiting, Written, sight_of}
use Rattle.searching.specs.declared.one.Answer.{Answer}
use Rattle.searching.specs.declared.one.Answer.TheVariants as answers
use Rattle.searching.specs.declared.sight.Wanted.{Wanted}

-- whether a line is wanted, not later than this time
abbrev pub FoundLine : Bool → Sections → Wanted → (until : ℤ) → Line → Type 0
FoundLine true i wanted until line = IsWanted wanted (Written line) × (line.time ≤ℤ until)
FoundLine false i wanted until line = IsWanted wanted (Written line) → line.time ≤ℤ until → ⊥

abbrev pub AreSame : {X : Type 0} → Bool → X → X → Type 0
AreSame true x y = x ≡ y
AreSame false x y = x ≡ y → ⊥

-- the line that a step wrote is wanted and found, or it wrote none that is
abbrev pub FoundIn : Sections → Wanted → (until : ℤ) → (told found : Option HeldLine) → Type 0
FoundIn i wanted until told (Some line) = (told ≡ Some line) × FoundLine true i wanted until (line_of i line)
FoundIn i wanted until told None = (line : HeldLine) → told ≡ Some line → FoundLine false i wanted until (line_of i line)

-- what an outcome at a time shows
abbrev pub ShownBy : kernel.Outcome → ℤ → Sighting → Type 0
ShownBy o time (Stopped x t at) = (o ≡ kernel.Unhandled x t) × (at ≡ time)
ShownBy o time (Waiting at) = (o ≡ kernel.WaitsForever) × (at ≡ time)
ShownBy o time (Written line) = ⊥

abbrev pub JudgedOutcome : Wanted → End → ℤ → Answer → Type 0
JudgedOutcome wanted outcome time (answers.Found finding) =
    (i : Sections) → IsWanted wanted (sight_of i finding) × ShownBy (outcome_of outcome) time (sight_of i finding)
JudgedOutcome wanted outcome time answers.Nothing = (sight : Sighting) → IsWanted wanted sight → ShownBy (outcome_of outcome) time sight → ⊥
JudgedOutcome wanted outcome time (answers.TooLong at) = ⊥
