-- What a table of places tells of an image that was put together from a program: which code is that of which statement or declaration (docs/CODEGEN.md).
use Rattle.std.specs.List.{All}
use Rattle.std.specs.Prelude.{◌≡◌, ◌⊎◌, ℕ, List, [], ◌∷◌, ◌++◌, None, Option, Some, slice_get}
use Rattle.ada_tree.specs.declared.expression.Identifier.{Identifier}
use Rattle.ada_tree.specs.ProgramTree.{ProgramTree}
use Rattle.ada_tree.specs.StatementTree.{StmtTree}
use Rattle.image.specs.Rules.{IsWellFormed}
use Rattle.image.specs.Operations.{called}
use Rattle.image.specs.Sections.{Sections, first_place}
use Rattle.image.specs.declared.subprograms.Subprogram.{Subprogram}
use Rattle.program_soundness.specs.legality.specs.ProgramRules.{IsLegal}
use Rattle.ravenscar.specs.ProgramRules.{IsRestricted}
use Rattle.expr_soundness.specs.meaning.specs.Programs.{Program, program_of}
use Rattle.expr_code.specs.Seeing.{Package}
use Rattle.step_simulation.specs.part_code.specs.Statements.{Numbers}
use Rattle.stmt_code.specs.Emitting.{TellPlaces, TellsPlace}
use Rattle.stmt_code.specs.Placing.{AreInnermostFirst, Construct, OfStatement, StandsBetween, body_within, stmt_place}
use Rattle.stmt_code.specs.declared.tables.PlaceRow.{PlaceRow}
use Rattle.package_code.specs.Bodies.{Coded, bodies_of}
use Rattle.package_code.specs.Linked.{IsLinkedProgram}
use Rattle.package_code.specs.Program.{HasProgram}

-- The declarations of objects and the statements of a body that has code of its own, in the order in which they end; a function has its return alone.
abbrev pub constructs_of : Coded → List Construct
constructs_of c = body_within c.body.declarations c.body.statements c.body.handlers

-- The row is that of the return of a function: its instructions are those of the subprogram with the number of the function's body.
pub record TellsReturn (i : Sections) (number : ℕ) (q : PlaceRow) (x : Construct) : Type 0 where
  pub statement : StmtTree
  pub is : x ≡ OfStatement statement
  pub place : q.place ≡ stmt_place statement
  pub s : Subprogram
  pub there : called i number ≡ Some s
  pub first : q.first ≡ first_place i number
  pub behind : q.behind ≡ s.end_

-- the row is that of a declaration, or of a statement other than the return of a function, or of such a return
abbrev pub TellsConstruct : Sections → Program → Package → Numbers → ℕ → PlaceRow → Construct → Type 0
TellsConstruct i program g numbers number q x = TellsPlace i program g numbers q x ⊎ TellsReturn i number q x

-- the instructions of the row are those of the subprogram with this number
pub record LiesInSubprogram (i : Sections) (number : ℕ) (q : PlaceRow) : Type 0 where
  pub s : Subprogram
  pub there : called i number ≡ Some s
  pub within : StandsBetween (first_place i number) s.end_ q

-- the row is that of a statement or a declaration in the program's body with this number, and lies within its subprogram
pub record TellsOfBody (t : ProgramTree) (i : Sections) (g : Package) (numbers : Numbers) (q : PlaceRow) : Type 0 where
  pub number : ℕ
  pub body : Coded
  pub there : slice_get (bodies_of t) number ≡ Some body
  pub lies : LiesInSubprogram i number q
  pub index : ℕ
  pub construct : Construct
  pub among : slice_get (constructs_of body) index ≡ Some construct
  pub tells : TellsConstruct i (program_of t) g numbers number q construct

-- As many rows as declarations and statements, in the same order, each that of its own; a function has the one row of its return.
abbrev pub TellsBody : Sections → Program → Package → Numbers → ℕ → Option Identifier → List PlaceRow → List Construct → Type 0
TellsBody i program g numbers number None rows all = TellPlaces i program g numbers rows all
TellsBody i program g numbers number (Some result) rows all =
    (q : PlaceRow) × (x : Construct) × (rows ≡ q ∷ []) × (slice_get all 0 ≡ Some x) × TellsReturn i number q x

-- The rows of the body with this number stand together in the table, lie within its subprogram, and are those of its declarations and statements in the order
-- in which these end.
pub record HasBodyRows (i : Sections) (program : Program) (g : Package) (numbers : Numbers) (table : List PlaceRow) (number : ℕ) (c : Coded) : Type 0 where
  pub before : List PlaceRow
  pub rows : List PlaceRow
  pub after : List PlaceRow
  pub together : table ≡ before ++ (rows ++ after)
  pub lie : All (LiesInSubprogram i number) rows
  pub tell : TellsBody i program g numbers number c.head.result rows (constructs_of c)

-- The image has the code of the program. Each row of the table is that of a statement in one of its bodies or of the declaration of an object in front of
-- statements: the instructions of the row are the code of that statement or declaration, or those of the function that the statement returns from. The rows of
-- a body stand together, within its subprogram, one for each declaration and each statement in the order in which they end, of a function one for its return.
-- Inner ones come first, so the first row that covers an instruction is that of the innermost one whose code it is; and two with the same code can't exchange
-- their rows, since of two rows of which neither lies within the other the first in the table is the first in the code.
pub record PlacesTell (t : ProgramTree) (i : Sections) (table : List PlaceRow) : Type 0 where
  pub g : Package
  pub numbers : Numbers
  pub linked : IsLinkedProgram t i g numbers
  pub each : (index : ℕ) (q : PlaceRow) → slice_get table index ≡ Some q → TellsOfBody t i g numbers q
  pub bodies : (number : ℕ) (c : Coded) → slice_get (bodies_of t) number ≡ Some c → HasBodyRows i (program_of t) g numbers table number c
  pub innermost : AreInnermostFirst table

-- the sections have what the program needs, and these are the places of its statements and declarations
pub record HasPlaces (t : ProgramTree) (i : Sections) (table : List PlaceRow) : Type 0 where
  pub program : HasProgram t i
  pub placed : table ≡ program.draft.rows.places

-- the contract of a public function
abbrev pub PlacesAreTold : Type 0
PlacesAreTold = (t : ProgramTree) (i : Sections) (table : List PlaceRow) → IsLegal t → IsRestricted t → IsWellFormed i → HasPlaces t i table
    → PlacesTell t i table
