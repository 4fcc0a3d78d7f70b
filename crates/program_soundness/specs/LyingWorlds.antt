-- That every value lies in its subtype, part by part, in each world that a run of an accepted program comes to (RM 3.2).
use Rattle.std.specs.Prelude.{ℕ, List}
use Rattle.expr_soundness.specs.base.specs.declared.schedule.ScheduleLine.{ScheduleLine}
use Rattle.expr_soundness.specs.ada_tree.specs.ProgramTree.{ProgramTree}
use Rattle.legality.specs.ProgramRules.{IsLegal}
use Rattle.ravenscar.specs.ProgramRules.{IsRestricted}
use Rattle.expr_soundness.specs.meaning.specs.Programs.{Program, program_of}
use Rattle.expr_soundness.specs.meaning.specs.Source.{SourceWorld, run_of, source}
use Rattle.step_soundness.specs.InSubtypes.{IsBegun, StoreLies, TaskLies}
use Rattle.step_soundness.specs.Objects.{first_store}
use Rattle.step_soundness.specs.Starting.{IsSoundStart}

-- every variable, every component of a protected object, and every object of each activation of a task
pub record WorldLies (program : Program) (w : SourceWorld) : Type 0 where
  pub store : StoreLies program.scope w.rest.memory
  pub tasks : (u : ℕ) → TaskLies program.scope (w.rest.tasks u)

-- what the start of such a run has
pub record StartLies (program : Program) : Type 0 where
  pub begun : IsBegun program
  pub store : StoreLies program.scope (first_store program)

abbrev pub RunsKeepSubtypes : Type 0
RunsKeepSubtypes = (program : Program) (schedule : List ScheduleLine) (n : ℕ) → IsSoundStart program → StartLies program
    → WorldLies program (run_of program schedule n)

abbrev pub StartsLie : Type 0
StartsLie = (t : ProgramTree) → IsLegal t → IsRestricted t → StartLies (program_of t)

-- In each world that a run of an accepted program comes to, every object's value lies in its declared subtype, and each part of it in its own.
abbrev pub ProgramsKeepSubtypes : Type 0
ProgramsKeepSubtypes = (t : ProgramTree) (schedule : List ScheduleLine) (n : ℕ) → IsLegal t → IsRestricted t → WorldLies (program_of t) (source t schedule n)
