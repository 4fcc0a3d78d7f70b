-- What is said of all conflicts of a program, in one list by the numbers of the rules that are broken and by places.
use Rattle.std.specs.Prelude.{◌≡◌, ◌&&◌, ℕ, List, [], ◌∷◌, Option, Some, None, if◌then◌else◌, nat_eq}
use Rattle.ada_tree.specs.ProgramTree.{PackageTree, ProgramTree}
use Rattle.types.specs.Scopes.{Scope}
use Rattle.mismatches.specs.declared.listed.PlacedRemark.{PlacedRemark}
use Rattle.mismatches.specs.declared.remark.Remark.{Remark}
use Rattle.mismatches.specs.Conflicts.{Mismatches, rule_of}
use Rattle.mismatches.specs.Remarks.{conflict_remark, package_remark, remark_at}

abbrev pub listed_remarks : Scope → PackageTree → Mismatches → List PlacedRemark
listed_remarks s p [] = []
listed_remarks s p (m ∷ ms) = record { number = rule_of m.conflict; place = m.place; remark = conflict_remark s p (Some m.conflict) } ∷ listed_remarks s p ms

-- the first one of a rule at a place
abbrev pub remark_in : List PlacedRemark → (number place : ℕ) → Option Remark
remark_in [] number place = None
remark_in (r ∷ rs) number place = if nat_eq r.number number && nat_eq r.place place then r.remark else remark_in rs number place

-- of each rule at each place of a package the list has what is said there
abbrev pub AreRemarksIn : PackageTree → List PlacedRemark → Type 0
AreRemarksIn p rs = (number place : ℕ) → remark_in rs number place ≡ package_remark p number place

-- of each rule at each place of a program
abbrev pub AreRemarksOf : ProgramTree → List PlacedRemark → Type 0
AreRemarksOf t rs = (number place : ℕ) → remark_in rs number place ≡ remark_at t number place
