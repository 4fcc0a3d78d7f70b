-- The pragmas of a program (RM D.13, H.6; docs/LANGUAGE.md, "Rules of the profile"): `Profile (Ravenscar)`, then at most
-- `Partition_Elaboration_Policy (Sequential)`. 39 stands at the first token that is another one.
use Rattle.std.specs.Prelude.{ℕ, true, not, List, [], ◌∷◌, Option, Some, None, bytes_eq, codes, if◌then◌else◌}
use Rattle.base.specs.declared.faults.TheConstants.{WRONG_PRAGMAS}
use Rattle.ada_tree.specs.declared.program.Pragma.{Pragma}
use Rattle.ada_tree.specs.declared.program.UnitClause.{UnitClause}
use Rattle.ada_tree.specs.ProgramTree.{PackageTree, ProgramTree}
use Rattle.expr_rules.specs.Faults.{Faults, rule}

-- the first identifier of a pragma that is not the one that is asked for
abbrev pub difference : (name argument : List ℕ) → Pragma → Option ℕ
difference name argument p =
    if not (bytes_eq p.name.name name) then Some p.name.place else (if not (bytes_eq p.argument.name argument) then Some p.argument.place else None)

abbrev pub or_behind : Option ℕ → Option ℕ → Option ℕ
or_behind (Some place) behind = Some place
or_behind None behind = behind

-- behind the policy stands no further pragma
abbrev pub third_difference : List Pragma → Option ℕ
third_difference [] = None
third_difference (p ∷ ps) = Some p.place

-- behind the profile stands the policy, or no further pragma
abbrev pub second_difference : List Pragma → Option ℕ
second_difference [] = None
second_difference (p ∷ ps) = or_behind (difference (codes "PARTITION_ELABORATION_POLICY") (codes "SEQUENTIAL") p) (third_difference ps)

-- first stands the profile; where no pragma does, what stands behind them is in its place
abbrev pub first_difference : (behind : ℕ) → List Pragma → Option ℕ
first_difference behind [] = Some behind
first_difference behind (p ∷ ps) = or_behind (difference (codes "PROFILE") (codes "RAVENSCAR") p) (second_difference ps)

-- the first token behind the pragmas: that of the package with its clauses, or of main
abbrev pub package_start : List UnitClause → (specification : ℕ) → ℕ
package_start [] specification = specification
package_start (c ∷ cs) specification = c.place

abbrev pub start_behind : Option PackageTree → (main : ℕ) → ℕ
start_behind (Some p) main = package_start p.clauses p.declaration.place
start_behind None main = main

abbrev pub pragma_rule : Option ℕ → Faults
pragma_rule (Some place) = rule WRONG_PRAGMAS place true
pragma_rule None = []

abbrev pub pragma_faults : ProgramTree → Faults
pragma_faults t = pragma_rule (first_difference (start_behind t.package_ t.main.place) t.pragmas)
