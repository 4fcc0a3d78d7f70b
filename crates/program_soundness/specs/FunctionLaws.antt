-- What legality says of the functions of an accepted program, as a statement; it is the contract of a public function.
use Rattle.expr_soundness.specs.ada_tree.specs.ProgramTree.{ProgramTree}
use Rattle.types.specs.Places.{Place}
use Rattle.legality.specs.ProgramRules.{IsLegal}
use Rattle.ravenscar.specs.ProgramRules.{IsRestricted}
use Rattle.expr_soundness.specs.Answers.{FunctionsAreSound}
use Rattle.expr_soundness.specs.meaning.specs.Programs.{program_of}
use Rattle.expr_soundness.specs.meaning.specs.Works.{Store}
use Rattle.step_soundness.specs.Holding.{seen}
use Rattle.program_soundness.specs.BodyLaws.{IsSoundMemory}

-- The functions of the package and those of its protected objects are sound wherever an expression is evaluated, as long as the store has a value of its type
-- for each object.
abbrev pub ProgramFunctionsAreSound : Type 0
ProgramFunctionsAreSound = (t : ProgramTree) (m : Store) → IsLegal t → IsRestricted t → IsSoundMemory (program_of t) m
    → (p : Place) → FunctionsAreSound (seen (program_of t) m p)
