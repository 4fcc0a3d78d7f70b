-- What is proved of code that is put together from a program, as statements; each is the contract of a public function.
use Rattle.std.specs.Prelude.{◌≡◌, ◌+◌, ◌≤◌, ℕ, suc, [], length, true, false, None, Some, is_some, slice_get}
use Rattle.base.specs.declared.limits.TheConstants.{EXCEPTIONS, LABELS, OBJECTS, SUBPROGRAMS, TASKS, WORDS}
use Rattle.ada_tree.specs.ProgramTree.{BodyItemTree, ProgramTree}
use Rattle.types.specs.Scopes.{number_of}
use Rattle.image.specs.Rules.{IsWellFormed}
use Rattle.image.specs.Sections.{Sections}
use Rattle.program_soundness.specs.legality.specs.ProgramRules.{IsLegal}
use Rattle.ravenscar.specs.ProgramRules.{IsRestricted}
use Rattle.expr_soundness.specs.meaning.specs.Programs.{package_items, program_of}
use Rattle.expr_soundness.specs.meaning.specs.SameMeaning.{KeepsCount, SameMeaning}
use Rattle.expr_soundness.specs.SoundScopes.{SoundScope}
use Rattle.program_soundness.specs.Fronts.{declared_in, front}
use Rattle.expr_code.specs.Coming.{most_steps, size_of}
use Rattle.step_simulation.specs.part_code.specs.Needs.{are_unknown}
use Rattle.stmt_code.specs.Subprograms.{CallsProcedures}
use Rattle.package_code.specs.Bodies.{Coded, bodies_among, bodies_before, coded_at, number_in}
use Rattle.package_code.specs.Counts.{instructions_bound}
use Rattle.package_code.specs.Globals.{are_placed}
use Rattle.package_code.specs.Program.{HasProgram, KeepsTables}
use Rattle.package_code.specs.Refusing.{program_labels, program_words, seen_at}
use Rattle.package_code.specs.Tasks.{AreKnownTasks}

-- the names of an accepted program are sound
abbrev pub NamesAreSound : Type 0
NamesAreSound = (t : ProgramTree) → IsLegal t → SoundScope (program_of t).scope

-- main calls procedures of the package without parameters
abbrev pub MainMayBeAdded : Type 0
MainMayBeAdded = (t : ProgramTree) → IsLegal t → IsRestricted t → CallsProcedures (front t (length (declared_in t.package_))) t.main.statements

-- no two bodies of an accepted program have one name, outside of protected objects or within one: each has the number of its name; that of a subprogram or task
-- is visible behind the package
abbrev pub BodiesAreNumbered : Type 0
BodiesAreNumbered = (t : ProgramTree) → IsLegal t → IsRestricted t → (place : ℕ) (item : BodyItemTree) (k : ℕ) (c : Coded)
    → slice_get (declared_in t.package_) place ≡ Some item → slice_get (coded_at t place item) k ≡ Some c
    → (number_in t c.owner c.head.name.name ≡ Some (bodies_before t place + k))
    × (c.owner ≡ None → is_some (number_of (program_of t).scope c.head.name.name) ≡ true)

-- each task that is declared in an accepted program has one body
abbrev pub TasksHaveBodies : Type 0
TasksHaveBodies = (t : ProgramTree) → IsLegal t → IsRestricted t → AreKnownTasks t (package_items t.package_)

-- no two variables of an accepted program have one name: each has a place of its own
abbrev pub VariablesArePlaced : Type 0
VariablesArePlaced = (t : ProgramTree) → IsLegal t → IsRestricted t → are_placed (program_of t).scope [] (package_items t.package_) ≡ true

-- a program has no more labels, subprograms and tasks, main's among them, exceptions and protected objects, and its variables and components no more words,
-- than an image
pub record HasFew (t : ProgramTree) : Type 0 where
  pub labels : length (program_labels t) ≤ LABELS
  pub words : program_words t ≤ WORDS
  pub subprograms : suc (bodies_among (declared_in t.package_)) ≤ SUBPROGRAMS
  pub exceptions : length (program_of t).exceptions ≤ EXCEPTIONS
  pub tasks : length (program_of t).tasks ≤ TASKS
  pub objects : (program_of t).objects ≤ OBJECTS

-- that is so of accepted ones
abbrev pub TablesAreSmall : Type 0
TablesAreSmall = (t : ProgramTree) → IsLegal t → IsRestricted t → HasFew t

-- each procedure that main calls has a body, and so a number
abbrev pub MainIsKnown : Type 0
MainIsKnown = (t : ProgramTree) → IsLegal t → IsRestricted t → are_unknown (seen_at t (length (declared_in t.package_))) t.main.statements ≡ false

-- a well-formed image that was put together from an accepted program has its meaning, and keeps the count: for one step of the program, or one call within it,
-- each frame takes at most twice as many steps as its subprogram has instructions, and one
abbrev pub SectionsMeanTheSame : Type 0
SectionsMeanTheSame = (t : ProgramTree) (i : Sections) → IsLegal t → IsRestricted t → IsWellFormed i → HasProgram t i
    → SameMeaning t i × KeepsCount t i (most_steps i)

-- the code of each subprogram has at most as many instructions as its text tells
abbrev pub SectionsAreBounded : Type 0
SectionsAreBounded = (t : ProgramTree) (i : Sections) → HasProgram t i → (number : ℕ) → size_of i number ≤ instructions_bound t number

-- what was put together from an accepted program, with such tables, is well-formed
abbrev pub SectionsAreWellFormed : Type 0
SectionsAreWellFormed = (t : ProgramTree) (i : Sections) → IsLegal t → IsRestricted t → HasProgram t i → KeepsTables i → IsWellFormed i
