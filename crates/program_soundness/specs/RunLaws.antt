-- That a run whose start is sound never comes to a step without meaning.
use Rattle.std.specs.Prelude.{◌≢◌, ℕ, List, Some}
use Rattle.expr_soundness.specs.base.specs.declared.schedule.ScheduleLine.{ScheduleLine}
use Rattle.kernel.specs.State.{Unhandled}
use Rattle.expr_soundness.specs.meaning.specs.Programs.{Program}
use Rattle.expr_soundness.specs.meaning.specs.Source.{run_of}
use Rattle.step_soundness.specs.Starting.{IsSoundStart}
use Rattle.program_soundness.specs.SoundWorlds.{IsSoundWorld}

abbrev pub RunsAreSound : Type 0
RunsAreSound = (program : Program) (schedule : List ScheduleLine) (n : ℕ) → IsSoundStart program → IsSoundWorld program (run_of program schedule n)

-- exceptions have numbers from 1 on: only a step without meaning ends the run by 0
abbrev pub RunsHaveMeaning : Type 0
RunsHaveMeaning = (program : Program) (schedule : List ScheduleLine) (n u : ℕ) → IsSoundStart program
    → (run_of program schedule n).kernel.outcome ≢ Some (Unhandled 0 u)
