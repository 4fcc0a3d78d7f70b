-- That no run of an accepted program comes to a step without meaning.
use Rattle.std.specs.Prelude.{◌≢◌, ℕ, List, Some}
use Rattle.expr_soundness.specs.base.specs.declared.schedule.ScheduleLine.{ScheduleLine}
use Rattle.kernel.specs.State.{Unhandled}
use Rattle.expr_soundness.specs.ada_tree.specs.ProgramTree.{ProgramTree}
use Rattle.legality.specs.ProgramRules.{IsLegal}
use Rattle.ravenscar.specs.ProgramRules.{IsRestricted}
use Rattle.expr_soundness.specs.meaning.specs.Programs.{program_of}
use Rattle.expr_soundness.specs.meaning.specs.Source.{source}
use Rattle.step_soundness.specs.Starting.{IsSoundStart}

abbrev pub StartsAreSound : Type 0
StartsAreSound = (t : ProgramTree) → IsLegal t → IsRestricted t → IsSoundStart (program_of t)

-- exceptions have numbers from 1 on: only a step without meaning ends a run by 0
abbrev pub ProgramsHaveMeaning : Type 0
ProgramsHaveMeaning = (t : ProgramTree) (schedule : List ScheduleLine) (n u : ℕ) → IsLegal t → IsRestricted t
    → (source t schedule n).kernel.outcome ≢ Some (Unhandled 0 u)
