-- What the check finds of a program, in the order of its walks: the rules of ProgramRules, of which rule 11 between the declarations of protected objects and
-- their bodies is asked in one walk (OpenParts).
use Rattle.std.specs.Prelude.{[], ◌++◌, Option, Some, None}
use Rattle.std.specs.List.{Contains}
use Rattle.lexer.specs.declared.fault.Fault.{Fault}
use Rattle.ada_tree.specs.ProgramTree.{PackageTree, ProgramTree}
use Rattle.types.specs.Scopes.{Scope, standard}
use Rattle.expr_rules.specs.Faults.{Faults}
use Rattle.unit_rules.specs.PackageRules.{package_faults}
use Rattle.unit_rules.specs.MainRules.{main_faults}
use Rattle.size_rules.specs.ProgramSizes.{size_faults}
use Rattle.legality.specs.OpenParts.{open_parts_faults}
use Rattle.legality.specs.ProgramRules.{program_faults}

abbrev pub found_in_package : Scope → Option PackageTree → Faults
found_in_package s (Some p) = package_faults s p ++ open_parts_faults p
found_in_package s None = []

abbrev pub found_faults : ProgramTree → Faults
found_faults t = found_in_package standard t.package_ ++ main_faults t.package_ t.main ++ size_faults t

-- what is found is broken, and what is broken is found
pub record FindsWhatIsBroken : Type 0 where
  pub found : (t : ProgramTree) (f : Fault) → Contains (found_faults t) f → Contains (program_faults t) f
  pub broken : (t : ProgramTree) (f : Fault) → Contains (program_faults t) f → Contains (found_faults t) f
