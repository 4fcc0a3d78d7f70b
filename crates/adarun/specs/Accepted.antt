-- Which texts are programs, which of these are accepted, and which are compiled.
use Rattle.std.specs.Prelude.{◌≡◌, ◌⊎◌, ◌<◌, ◌≤◌, ℕ, List, Result, Ok, Err}
use Rattle.base.specs.declared.faults.TheConstants.{LIMIT_PASSED, MEMORY_REFUSED}
use Rattle.lexer.specs.Fault.{memory_fault}
use Rattle.lexer.specs.Spelling.{Spells, IsBroken}
use Rattle.lexer.specs.declared.fault.Fault.{Fault}
use Rattle.lexer.specs.declared.token.Token.{Token}
use Rattle.parser.specs.Parsing.{Derives, IsFaulty}
use Rattle.image.specs.Sections.{Sections}
use Rattle.image.specs.Rules.{IsWellFormed}
use Rattle.image.specs.declared.building.Image.{Image}
use Rattle.compiler.specs.ada_tree.specs.ProgramTree.{ProgramTree}
use Rattle.compiler.specs.expr_rules.specs.Faults.{IsLeast}
use Rattle.legality.specs.ProgramRules.{IsLegal, program_faults}
use Rattle.ravenscar.specs.ProgramRules.{IsRestricted, restriction_faults}
use Rattle.compiler.specs.meaning.specs.SameMeaning.{KeepsCount, SameMeaning}
use Rattle.compiler.specs.expr_code.specs.Coming.{most_steps}
use Rattle.compiler.specs.Compiled.{IsBounded, IsWithinTokens}
use Rattle.source_laws.specs.Limits.{MayPassLimits}
use Rattle.source_laws.specs.Small.{IsSmall}

-- the tree is what the text spells
pub record IsTreeOf (tree : ProgramTree) (text : List ℕ) : Type 0 where
  pub tokens : List Token
  pub spells : Spells text tokens
  pub derives : Derives tree tokens

-- An accepted text: it has at most as many bytes as a text may have and tokens spell it, a tree with at most as many levels as may be open at once derives
-- these, and the tree breaks no rule from 10 to 39 or 70 to 73.
pub record IsAccepted (tree : ProgramTree) (text : List ℕ) : Type 0 where
  pub is_tree : IsTreeOf tree text
  pub legal : IsLegal tree
  pub restricted : IsRestricted tree

-- a small text: it has few tokens, few levels are open at once in its tree, and its bodies have few words (docs/LANGUAGE.md, "Limits")
pub record IsSmallText (tree : ProgramTree) (text : List ℕ) : Type 0 where
  pub is_tree : IsTreeOf tree text
  pub small : IsSmall tree is_tree.tokens

-- the code of a program passes a limit of images
abbrev pub too_large : ProgramTree → Fault
too_large tree = record { number = LIMIT_PASSED; place = tree.main.place }

-- why an accepted program is not compiled: memory was refused, or, as its tree tells, its code may pass a limit of images
abbrev pub RefusesTree : ProgramTree → Fault → Type 0
RefusesTree tree fault = (fault ≡ memory_fault) ⊎ ((fault ≡ too_large tree) × MayPassLimits tree)

-- Why an accepted text is not compiled: memory was refused; or, as its tree tells, its code may pass a limit of images, which that of no small text does.
abbrev pub RefusesAccepted : List ℕ → ProgramTree → Fault → Type 0
RefusesAccepted text tree fault = (fault ≡ memory_fault) ⊎ ((fault ≡ too_large tree) × (MayPassLimits tree × (IsSmallText tree text → ⊥)))

-- A well-formed image that means the same as the text's tree, keeps the count of steps, and has no more instructions than the text tells. By the tokens of each
-- body it is counted too: how many instructions, rows of handlers and steps for one step of the source each has at most.
pub record Compiles (text : List ℕ) (image : Sections) : Type 0 where
  pub tree : ProgramTree
  pub accepted : IsAccepted tree text
  pub means : SameMeaning tree image
  pub counted : KeepsCount tree image (most_steps image)
  pub bounded : IsBounded tree image
  pub within : IsWithinTokens tree accepted.is_tree.tokens image
  pub well_formed : IsWellFormed image

-- the text breaks this rule from 1 to 5, and no other one at this place or in front of it: so no tokens spell it
pub record IsMisspelled (text : List ℕ) (fault : Fault) : Type 0 where
  pub broken : IsBroken text fault
  pub first : (other : Fault) → IsBroken text other → (fault.place < other.place) ⊎ (fault ≡ other)

-- the tokens that spell the text have no tree
pub record HasNoTree (text : List ℕ) (fault : Fault) : Type 0 where
  pub tokens : List Token
  pub spells : Spells text tokens
  pub faulty : IsFaulty tokens fault

-- its tree breaks this rule from 10 to 23, and none before it
pub record HasIllegalTree (text : List ℕ) (fault : Fault) : Type 0 where
  pub tree : ProgramTree
  pub is_tree : IsTreeOf tree text
  pub least : IsLeast (program_faults tree) fault

-- its tree is legal, and breaks this rule from 30 to 39 or 70 to 73, and none before it
pub record HasUnrestrictedTree (text : List ℕ) (fault : Fault) : Type 0 where
  pub tree : ProgramTree
  pub is_tree : IsTreeOf tree text
  pub legal : IsLegal tree
  pub least : IsLeast (restriction_faults tree) fault

-- the text is accepted, and not compiled
pub record HasRefusedTree (text : List ℕ) (fault : Fault) : Type 0 where
  pub tree : ProgramTree
  pub accepted : IsAccepted tree text
  pub refused : RefusesAccepted text tree fault

-- memory was refused; the text breaks a rule of spelling, and this is the first; its tokens have no tree; the tree is illegal; it is legal and breaks a
-- restriction; or the text is accepted and not compiled
abbrev pub RefusesText : List ℕ → Fault → Type 0
RefusesText text fault =
    (fault ≡ memory_fault)
    ⊎ (IsMisspelled text fault ⊎ (HasNoTree text fault ⊎ (HasIllegalTree text fault ⊎ (HasUnrestrictedTree text fault ⊎ HasRefusedTree text fault))))

-- the number of a rule that a text may break, or that of refused memory (docs/FAULTS.md)
abbrev pub IsTextFault : ℕ → Type 0
IsTextFault n = ((1 ≤ n) × (n ≤ 7)) ⊎ (((10 ≤ n) × (n ≤ 23)) ⊎ (((30 ≤ n) × (n ≤ 39)) ⊎ (((70 ≤ n) × (n ≤ 73)) ⊎ (n ≡ MEMORY_REFUSED))))

-- The tree of this text breaks no rule; or the text is refused for want of memory, by the least rule from 10 to 23 that it breaks, where it is legal by the
-- least one from 30 to 39 or 70 to 73, and where it breaks none of these as an accepted one is.
abbrev pub IsJudged : List ℕ → ProgramTree → Result Image Fault → Type 0
IsJudged text tree (Ok image) = IsLegal tree × IsRestricted tree
IsJudged text tree (Err fault) =
    (fault ≡ memory_fault)
    ⊎ (IsLeast (program_faults tree) fault
    ⊎ ((IsLegal tree × IsLeast (restriction_faults tree) fault)
    ⊎ (IsLegal tree × (IsRestricted tree × RefusesAccepted text tree fault))))

-- an accepted text is compiled, and refused for these reasons alone
abbrev pub CompilesAccepted : List ℕ → ProgramTree → Result Image Fault → Type 0
CompilesAccepted text tree (Ok image) = SameMeaning tree image
CompilesAccepted text tree (Err fault) = RefusesAccepted text tree fault
