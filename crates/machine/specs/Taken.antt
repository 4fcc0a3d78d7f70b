-- How many steps of a run are taken.
use Rattle.std.specs.Prelude.{ℕ, zero, suc, ◌+◌, List, Option, Some, None}
use Rattle.base.specs.declared.schedule.ScheduleLine.{ScheduleLine}
use Rattle.kernel.specs.State.{Outcome}
use Rattle.image.specs.Code.{code}
use Rattle.image.specs.Sections.{Sections}

abbrev pub one_without : Option Outcome → ℕ
one_without None = 1
one_without (Some o) = 0

-- how many of n steps are taken: those of worlds without outcome
abbrev pub steps_taken : Sections → List ScheduleLine → ℕ → ℕ
steps_taken i schedule zero = 0
steps_taken i schedule (suc n) = steps_taken i schedule n + one_without (code i schedule n).kernel.outcome
