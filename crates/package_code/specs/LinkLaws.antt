-- What is proved of linked images, as statements; each is the contract of a public function.
use Rattle.ada_tree.specs.ProgramTree.{ProgramTree}
use Rattle.image.specs.Rules.{IsWellFormed}
use Rattle.image.specs.Sections.{Sections}
use Rattle.program_soundness.specs.legality.specs.ProgramRules.{IsLegal}
use Rattle.ravenscar.specs.ProgramRules.{IsRestricted}
use Rattle.expr_soundness.specs.meaning.specs.SameMeaning.{KeepsCount, SameMeaning}
use Rattle.expr_code.specs.Coming.{most_steps}
use Rattle.expr_code.specs.Seeing.{Package}
use Rattle.step_simulation.specs.part_code.specs.Statements.{Numbers}
use Rattle.package_code.specs.Linked.{IsLinkedProgram}

-- a well-formed image that has the code of an accepted program has its meaning
abbrev pub LinkedMeansTheSame : Type 0
LinkedMeansTheSame = (p : ProgramTree) (i : Sections) (g : Package) (numbers : Numbers) → IsWellFormed i → IsLegal p → IsRestricted p
    → IsLinkedProgram p i g numbers
    → SameMeaning p i

-- and it keeps the count: for one step of the program, or one call within it, each frame takes at most twice as many steps as its subprogram has instructions,
-- and one
abbrev pub LinkedKeepsCount : Type 0
LinkedKeepsCount = (p : ProgramTree) (i : Sections) (g : Package) (numbers : Numbers) → IsWellFormed i → IsLegal p → IsRestricted p
    → IsLinkedProgram p i g numbers
    → KeepsCount p i (most_steps i)
