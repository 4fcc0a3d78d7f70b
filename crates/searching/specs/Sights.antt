-- What a search looks for, and when a run shows it (docs/FORMATS.md, "Search"): of sources and of code, whose kernels are alike.
use Rattle.std.specs.Prelude.{◌≡◌, ℕ, ℤ, ◌≤ℤ◌, List, ◌∷◌, ◌++◌, Some}
use Rattle.image.specs.Sections.{Sections}
use Rattle.kernel.specs.State.{Kernel, Line, Unhandled, WaitsForever}
use Rattle.execution.specs.Held.{line_of}
use Rattle.searching.specs.declared.sight.Finding.{Finding}
use Rattle.searching.specs.declared.sight.Finding.TheVariants as findings
use Rattle.searching.specs.declared.sight.Wanted.{Wanted}
use Rattle.searching.specs.declared.sight.Wanted.TheVariants as wanted

-- an exception that nothing handles has left a task, all wait forever, each at a time; or a line
pub data Sighting : Type 0 where
  Stopped : (exception task : ℕ) (time : ℤ) → Sighting
  Waiting : (time : ℤ) → Sighting
  Written : Line → Sighting

-- the line is among those that were written
abbrev pub HasLine : List Line → Line → Type 0
HasLine lines line = (before behind : List Line) × (lines ≡ before ++ line ∷ behind)

-- a kernel shows it, not later than this time
abbrev pub ShowsSight : (until : ℤ) → Sighting → Kernel → Type 0
ShowsSight until (Stopped x t time) k = (k.outcome ≡ Some (Unhandled x t)) × (k.now ≡ time) × (time ≤ℤ until)
ShowsSight until (Waiting time) k = (k.outcome ≡ Some WaitsForever) × (k.now ≡ time) × (time ≤ℤ until)
ShowsSight until (Written line) k = HasLine k.lines line × (line.time ≤ℤ until)

-- it is what is looked for
abbrev pub IsWanted : Wanted → Sighting → Type 0
IsWanted wanted.UnhandledOrWaits (Stopped x t time) = Unit {0}
IsWanted wanted.UnhandledOrWaits (Waiting time) = Unit {0}
IsWanted wanted.UnhandledOrWaits (Written line) = ⊥
IsWanted wanted.Unhandled (Stopped x t time) = Unit {0}
IsWanted wanted.Unhandled (Waiting time) = ⊥
IsWanted wanted.Unhandled (Written line) = ⊥
IsWanted wanted.WaitsForever (Stopped x t time) = ⊥
IsWanted wanted.WaitsForever (Waiting time) = Unit {0}
IsWanted wanted.WaitsForever (Written line) = ⊥
IsWanted (wanted.Line label) (Stopped x t time) = ⊥
IsWanted (wanted.Line label) (Waiting time) = ⊥
IsWanted (wanted.Line label) (Written line) = line.label ≡ label.now

-- what the machine has found of an image's run, with the bytes of a line's label in place of its number
abbrev pub sight_of : Sections → Finding → Sighting
sight_of i (findings.Unhandled x t time) = Stopped x t time
sight_of i (findings.WaitsForever time) = Waiting time
sight_of i (findings.Line l) = Written (line_of i l)
