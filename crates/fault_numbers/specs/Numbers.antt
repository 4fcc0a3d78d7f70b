-- Which numbers the faults of each layer have (docs/LANGUAGE.md, "Faults"), as statements; each law is the contract of a public function.
use Rattle.std.specs.Prelude.{◌≤◌, ◌⊎◌, ℕ, List}
use Rattle.std.specs.List.{All}
use Rattle.base.specs.declared.faults.TheConstants.{HANDLER_CEILING, HANDLER_PROFILE, LIMIT_PASSED, LOCAL_TASKING, NAME_NOT_VISIBLE, TEXT_TOO_LONG, TOO_MANY_LEVELS, UNEXPECTED_TOKEN, WRONG_LABEL, WRONG_PRAGMAS}
use Rattle.lexer.specs.Spelling.{IsBroken}
use Rattle.lexer.specs.declared.fault.Fault.{Fault}
use Rattle.lexer.specs.declared.token.Token.{Token}
use Rattle.parser.specs.Parsing.{IsFaulty}
use Rattle.ada_tree.specs.ProgramTree.{ProgramTree}
use Rattle.expr_rules.specs.Faults.{Faults}
use Rattle.legality.specs.ProgramRules.{program_faults}
use Rattle.ravenscar.specs.ProgramRules.{restriction_faults}

-- the fault's number is one of those from the first to the last
abbrev pub IsNumbered : (first last : ℕ) → Fault → Type 0
IsNumbered first last fault = (first ≤ fault.number) × (fault.number ≤ last)

-- so is that of each fault
abbrev pub AreNumberedWithin : (first last : ℕ) → Faults → Type 0
AreNumberedWithin first last faults = All (IsNumbered first last) faults

-- a text that no tokens spell: 1 to 5
abbrev pub SpellingNumbers : Type 0
SpellingNumbers = (text : List ℕ) (fault : Fault) → IsBroken text fault → IsNumbered TEXT_TOO_LONG WRONG_LABEL fault

-- tokens without a tree: 6 and 7
abbrev pub GrammarNumbers : Type 0
GrammarNumbers = (tokens : List Token) (fault : Fault) → IsFaulty tokens fault → IsNumbered UNEXPECTED_TOKEN TOO_MANY_LEVELS fault

-- what a program breaks: 10 to 23
abbrev pub LegalityNumbers : Type 0
LegalityNumbers = (tree : ProgramTree) → AreNumberedWithin NAME_NOT_VISIBLE LIMIT_PASSED (program_faults tree)

-- the restrictions of the profile, 30 to 39, and those of handlers of interrupts, 70 to 73
abbrev pub IsRestrictionNumbered : Fault → Type 0
IsRestrictionNumbered fault = IsNumbered LOCAL_TASKING WRONG_PRAGMAS fault ⊎ IsNumbered HANDLER_PROFILE HANDLER_CEILING fault

abbrev pub RestrictionNumbers : Type 0
RestrictionNumbers = (tree : ProgramTree) → All IsRestrictionNumbered (restriction_faults tree)
