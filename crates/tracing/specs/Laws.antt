-- What is proved of traces, as statements for contracts.
use Rattle.std.specs.Prelude.{◌≡◌, ℕ, List}
use Rattle.base.specs.declared.schedule.ScheduleLine.{ScheduleLine}
use Rattle.image.specs.Code.{code}
use Rattle.image.specs.Sections.{Sections}
use Rattle.tracing.specs.Traces.{lines_told, rows}

-- the lines that the rows of n steps tell are those of the run, all of them in their order; each stands word for word in its row
abbrev pub TellsAllLines : Type 0
TellsAllLines = (i : Sections) (schedule : List ScheduleLine) (n : ℕ) → lines_told (rows i schedule n) ≡ (code i schedule n).kernel.lines
