-- All broken rules of a program, each once and in the order of places (docs/LANGUAGE.md, the faults from 10 to 39 and from 70 to 73). The restrictions of the
-- profile are asked of programs that aren't legal too.
use Rattle.std.specs.Prelude.{◌≡◌, ◌<◌, ◌⊎◌, [], ◌∷◌, ◌++◌, ⊤}
use Rattle.std.specs.List.{Contains}
use Rattle.lexer.specs.declared.fault.Fault.{Fault}
use Rattle.ada_tree.specs.ProgramTree.{ProgramTree}
use Rattle.expr_rules.specs.Faults.{Faults}
use Rattle.legality.specs.ProgramRules.{ComesFirst, IsLegal, program_faults}
use Rattle.ravenscar.specs.ProgramRules.{IsRestricted, restriction_faults}

-- each rule from 10 to 39 and from 70 to 73 that is broken, with its place
abbrev pub broken_rules : ProgramTree → Faults
broken_rules t = program_faults t ++ restriction_faults t

-- at a lesser place, or at the same place with a lesser number
abbrev pub Precedes : (a b : Fault) → Type 0
Precedes a b = (a.place < b.place) ⊎ ((a.place ≡ b.place) × (a.number < b.number))

-- each is before the next
abbrev pub AreInOrderOfPlaces : Faults → Type 0
AreInOrderOfPlaces [] = ⊤
AreInOrderOfPlaces (f ∷ []) = ⊤
AreInOrderOfPlaces (f ∷ g ∷ rest) = Precedes f g × AreInOrderOfPlaces (g ∷ rest)

-- the broken rules, each once, in the order of places
pub record ListsBrokenRules (t : ProgramTree) (faults : Faults) : Type 0 where
  pub ordered : AreInOrderOfPlaces faults
  pub broken : (f : Fault) → Contains faults f → Contains (broken_rules t) f
  pub complete : (f : Fault) → Contains (broken_rules t) f → Contains faults f

-- ---- the law of such lists, as a statement; it is the contract of a public function

-- the list is empty just where the program is legal and restricted; otherwise no broken rule comes before its first
pub record ListShowsAcceptance : Type 0 where
  pub accepted : (t : ProgramTree) (faults : Faults) → ListsBrokenRules t faults → IsLegal t → IsRestricted t → faults ≡ []
  pub legal : (t : ProgramTree) → ListsBrokenRules t [] → IsLegal t
  pub restricted : (t : ProgramTree) → ListsBrokenRules t [] → IsRestricted t
  pub first : (t : ProgramTree) (f : Fault) (rest : Faults) → ListsBrokenRules t (f ∷ rest) → (g : Fault) → Contains (broken_rules t) g → ComesFirst f g
