-- What is told of a text whose code passes a limit of images, behind what is explained of that fault.
use Rattle.std.specs.Prelude.{◌≡◌, ◌≢◌, ◌⊎◌, ℕ, List, [], Option, Some, None}
use Rattle.base.specs.declared.faults.TheConstants.{LIMIT_PASSED}
use Rattle.lexer.specs.declared.fault.Fault.{Fault}
use Rattle.lexer.specs.declared.token.Token.{Token}
use Rattle.compiler.specs.ada_tree.specs.ProgramTree.{ProgramTree}
use Rattle.compiler.specs.expr_rules.specs.Faults.{IsLeast}
use Rattle.legality.specs.ProgramRules.{program_faults}
use Rattle.ravenscar.specs.ProgramRules.{restriction_faults}
use Rattle.compiler.specs.package_code.specs.declared.stopping.Stop.{Stop}
use Rattle.compiler.specs.package_code.specs.declared.stopping.Stop.TheVariants as stop
use Rattle.compiler.specs.Stopped.{IsFirstStop, MakesAll}
use Rattle.diagnostics.specs.hints.Stopped.{frame_line, instructions_line, rows_line}
use Rattle.diagnostics.specs.hints.Notes.{HasNone, IsUnspelled}
use Rattle.adarun.specs.Accepted.{IsAccepted, IsTreeOf}

abbrev pub stop_line : (text : List ℕ) → List Token → Stop → List ℕ
stop_line text tokens (stop.Instructions place before) = instructions_line text tokens place before
stop_line text tokens (stop.Frame place) = frame_line text tokens place
stop_line text tokens (stop.Rows place rows) = rows_line text tokens place rows

-- told is where the code of the program first passes a limit, by the tokens of its text
pub record TellsStop (tree : ProgramTree) (text : List ℕ) (tokens : List Token) (told : List ℕ) : Type 0 where
  pub found : Stop
  pub is_first : IsFirstStop tree (Some found)
  pub told_is : told ≡ stop_line text tokens found

-- told is where the code of the program first passes a limit; or nothing, where all its code is made
abbrev pub TellsStopOrNone : ProgramTree → (text : List ℕ) → List Token → (told : List ℕ) → Type 0
TellsStopOrNone tree text tokens told = TellsStop tree text tokens told ⊎ ((told ≡ []) × MakesAll tree)

-- the text is accepted
pub record TellsOfCode (text told : List ℕ) : Type 0 where
  pub tree : ProgramTree
  pub accepted : IsAccepted tree text
  pub tells : TellsStopOrNone tree text accepted.is_tree.tokens told

-- its tree breaks a rule from 10 to 39
pub record IsUnaccepted (text : List ℕ) : Type 0 where
  pub tree : ProgramTree
  pub is_tree : IsTreeOf tree text
  pub fault : Fault
  pub least : IsLeast (program_faults tree) fault ⊎ IsLeast (restriction_faults tree) fault

-- of an accepted text where its code passes a limit, of another one nothing
abbrev pub TellsCode : List ℕ → List ℕ → Type 0
TellsCode text told = TellsOfCode text told ⊎ ((told ≡ []) × (IsUnspelled text ⊎ (HasNone text ⊎ IsUnaccepted text)))

-- by the number of the text's fault, and whether it is one of the text
abbrev pub IsCodeTold : (number : ℕ) → Option ℕ → (text told : List ℕ) → Type 0
IsCodeTold number None text told = told ≡ []
IsCodeTold number (Some place) text told = ((number ≡ LIMIT_PASSED) × TellsCode text told) ⊎ ((number ≢ LIMIT_PASSED) × (told ≡ []))
