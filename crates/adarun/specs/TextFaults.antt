-- Every fault of a text, as `check` reports them (docs/FORMATS.md, "Commands").
use Rattle.std.specs.Prelude.{◌≡◌, ◌≢◌, ◌⊎◌, ℕ, List, [], ◌∷◌}
use Rattle.lexer.specs.declared.fault.Fault.{Fault}
use Rattle.compiler.specs.ada_tree.specs.ProgramTree.{ProgramTree}
use Rattle.compiler.specs.expr_rules.specs.Faults.{Faults}
use Rattle.ravenscar.specs.BrokenRules.{ListsBrokenRules}
use Rattle.source_laws.specs.Limits.{MayPassLimits}
use Rattle.adarun.specs.Accepted.{HasNoTree, IsAccepted, IsMisspelled, IsSmallText, IsTreeOf, too_large}
use Rattle.adarun.specs.Stopping.{HasImage}

-- the faults of an accepted text: none where it compiles; else, as its tree tells, its code may pass a limit of images, which that of no small text does
abbrev pub AreFaultsOfCode : List ℕ → ProgramTree → Faults → Type 0
AreFaultsOfCode text tree [] = HasImage text
AreFaultsOfCode text tree (fault ∷ faults) = (faults ≡ []) × ((fault ≡ too_large tree) × (MayPassLimits tree × (IsSmallText tree text → ⊥)))

-- The faults of a text with this tree: each rule from 10 to 39 and from 70 to 73 that the tree breaks, once, in the order of places; where it breaks none,
-- those of its code.
abbrev pub AreFaultsOfTree : List ℕ → ProgramTree → Faults → Type 0
AreFaultsOfTree text tree faults = ((faults ≢ []) × ListsBrokenRules tree faults) ⊎ (IsAccepted tree text × AreFaultsOfCode text tree faults)

-- the first rule of spelling that the text breaks, or where its tokens have no tree, and no other fault
pub record HasFirstFault (text : List ℕ) (faults : Faults) : Type 0 where
  pub fault : Fault
  pub is_first : IsMisspelled text fault ⊎ HasNoTree text fault
  pub alone : faults ≡ fault ∷ []

pub record HasTreeFaults (text : List ℕ) (faults : Faults) : Type 0 where
  pub tree : ProgramTree
  pub is_tree : IsTreeOf tree text
  pub are_faults : AreFaultsOfTree text tree faults

-- every fault of a text
abbrev pub AreTextFaults : List ℕ → Faults → Type 0
AreTextFaults text faults = HasFirstFault text faults ⊎ HasTreeFaults text faults
