-- The list has at each place what is said of the first types there.
use Rattle.std.proofs.Common.{◌≡◌, ◌∙◌, ℕ, Bool, true, false, List, [], ◌∷◌, Option, Some, ap, refl, sym}
use Rattle.std.specs.Prelude.{◌&&◌, if◌then◌else◌, nat_eq}
use Rattle.ada_tree.specs.ProgramTree.{PackageTree}
use Rattle.types.specs.Scopes.{Scope, standard}
use Rattle.declaration_rules.specs.PackageNames.{package_scope}
use Rattle.mismatches.specs.declared.conflict.Mismatch.{Mismatch}
use Rattle.mismatches.specs.declared.listed.PlacedRemark.{PlacedRemark}
use Rattle.mismatches.specs.BodyMismatches.{package_mismatches}
use Rattle.mismatches.specs.Conflicts.{Mismatches, first_at, rule_of}
use Rattle.mismatches.specs.Listed.{AreRemarksIn, listed_remarks, remark_in}
use Rattle.mismatches.specs.Remarks.{conflict_remark, optional_remark}

by_place : (s : Scope) (p : PackageTree) (m : Mismatch) (ms : Mismatches) (number place : ℕ) (b : Bool)
    → remark_in (listed_remarks s p ms) number place ≡ conflict_remark s p (first_at number place ms)
    → (if b then conflict_remark s p (Some m.conflict) else remark_in (listed_remarks s p ms) number place)
    ≡ conflict_remark s p (if b then Some m.conflict else first_at number place ms)
by_place s p m ms number place true rest = refl
by_place s p m ms number place false rest = rest

pub listed_first : (s : Scope) (p : PackageTree) (ms : Mismatches) (number place : ℕ)
    → remark_in (listed_remarks s p ms) number place ≡ conflict_remark s p (first_at number place ms)
listed_first s p [] number place = refl
listed_first s p (m ∷ ms) number place =
    by_place s p m ms number place (nat_eq (rule_of m.conflict) number && nat_eq m.place place) (listed_first s p ms number place)

pub package_listed : (p : PackageTree) (rs : List PlacedRemark) → rs ≡ listed_remarks (package_scope standard p) p (package_mismatches p) → AreRemarksIn p rs
package_listed p rs is number place =
    ap (λ (l : List PlacedRemark). remark_in l number place) is ∙ listed_first (package_scope standard p) p (package_mismatches p) number place

pub of_program : (o : Option PackageTree) (p : PackageTree) (rs : List PlacedRemark) → o ≡ Some p → AreRemarksIn p rs
    → (number place : ℕ) → remark_in rs number place ≡ optional_remark o number place
of_program o p rs is in_package number place = in_package number place ∙ ap (λ (q : Option PackageTree). optional_remark q number place) (sym is)
