-- Where something is said of a rule at a place, that rule is broken there; as statements, of which each is the contract of a public function.
use Rattle.std.specs.Prelude.{◌≡◌, ℕ, Some}
use Rattle.std.specs.List.{Contains}
use Rattle.ada_tree.specs.ExpressionTree.{ExprTree}
use Rattle.ada_tree.specs.ProgramTree.{PackageTree}
use Rattle.types.specs.Scopes.{Scope, standard}
use Rattle.expr_rules.specs.declared.own.Wanted.{Wanted}
use Rattle.expr_rules.specs.ExpressionRules.{faults_of}
use Rattle.expr_rules.specs.Faults.{Faults}
use Rattle.unit_rules.specs.PackageRules.{package_faults}
use Rattle.mismatches.specs.declared.conflict.Mismatch.{Mismatch}
use Rattle.mismatches.specs.declared.remark.Remark.{Remark}
use Rattle.mismatches.specs.Conflicts.{Mismatches, fault_at}
use Rattle.mismatches.specs.ExpressionMismatches.{mismatches_of}
use Rattle.mismatches.specs.Remarks.{package_remark}

-- the rule that each breaks at its place is among these broken ones
pub record AreFaults (ms : Mismatches) (fs : Faults) : Type 0 where
  pub each : (m : Mismatch) → Contains ms m → Contains fs (fault_at m)

pub record RemarksAreFaults : Type 0 where
  pub expressions : (s : Scope) (wanted : Wanted) (e : ExprTree) → AreFaults (mismatches_of s wanted e) (faults_of s wanted e)
  pub packages : (p : PackageTree) (number place : ℕ) (r : Remark) → package_remark p number place ≡ Some r
      → Contains (package_faults standard p) (record { number = number; place = place })
