-- Which limit of images the code of an accepted program may pass, and with which of its bodies; or that all of it is made.
use Rattle.std.specs.Prelude.{◌≡◌, ◌⊎◌, ◌<◌, ◌+◌, ℕ, length, Option, Some, None, ⊤}
use Rattle.base.specs.declared.limits.TheConstants.{INSTRUCTIONS}
use Rattle.ada_tree.specs.ProgramTree.{ProgramTree}
use Rattle.program_soundness.specs.Fronts.{declared_in}
use Rattle.expr_code.specs.Code.{here}
use Rattle.step_simulation.specs.part_code.specs.Bounds.{main_bound}
use Rattle.stmt_code.specs.Subprograms.{AddsMain}
use Rattle.stmt_code.specs.declared.draft.Draft.{Draft}
use Rattle.stmt_code.specs.declared.subprogram.SubprogramWords.{SubprogramWords}
use Rattle.package_code.specs.Stopping.{StopsByFrame, StopsByInstructions, StopsInRows}
use Rattle.package_code.specs.Walking.{IsWalked}
use Rattle.package_code.specs.declared.directory.Directory.{Directory}
use Rattle.package_code.specs.declared.stopping.Halt.{Halt}
use Rattle.package_code.specs.declared.stopping.Halt.TheVariants as halt
use Rattle.package_code.specs.declared.stopping.Stop.{Stop}
use Rattle.package_code.specs.declared.stopping.Stop.TheVariants as stop
use Rattle.package_code.specs.declared.walk.Walk.{Walk}

-- Behind all bodies, whose code is made and has so many instructions, that of main may have more than are left.
pub record StopsAtMain (t : ProgramTree) (place before : ℕ) : Type 0 where
  pub directory : Directory
  pub walk : Walk
  pub walked : IsWalked t directory walk
  pub whole : walk.place ≡ length (declared_in t.package_)
  pub place_is : place ≡ t.main.name.place
  pub before_is : before ≡ here walk.draft.code
  pub many : INSTRUCTIONS < before + main_bound t.main.statements

-- all bodies have their code, and behind them main
pub record MakesAll (t : ProgramTree) : Type 0 where
  pub directory : Directory
  pub walk : Walk
  pub walked : IsWalked t directory walk
  pub whole : walk.place ≡ length (declared_in t.package_)
  pub words : SubprogramWords
  pub draft : Draft
  pub main : AddsMain walk.visible walk.draft t.main.statements words draft

abbrev pub IsFirstStop : ProgramTree → Option Stop → Type 0
IsFirstStop t None = MakesAll t
IsFirstStop t (Some (stop.Instructions place before)) = StopsByInstructions t place before ⊎ StopsAtMain t place before
IsFirstStop t (Some (stop.Frame place)) = StopsByFrame t place
IsFirstStop t (Some (stop.Rows place rows)) = StopsInRows t place rows

-- why not all of it is made: where it stops, or for want of memory
abbrev pub IsFirstHalt : ProgramTree → Halt → Type 0
IsFirstHalt t (halt.Stopped found) = IsFirstStop t (Some found)
IsFirstHalt t (halt.Refused why) = ⊤
