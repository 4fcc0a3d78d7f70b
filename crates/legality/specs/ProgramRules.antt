-- The rules from 10 to 23 of a whole program (docs/LANGUAGE.md): which are broken where, what a legal program is, and which broken rule is told.
use Rattle.std.specs.Prelude.{◌≡◌, ◌≤◌, ◌<◌, ◌⊎◌, ℕ, [], ◌++◌, Option, Some, None}
use Rattle.std.specs.List.{Contains}
use Rattle.lexer.specs.Fault.{memory_fault}
use Rattle.lexer.specs.declared.fault.Fault.{Fault}
use Rattle.ada_tree.specs.ProgramTree.{PackageTree, ProgramTree}
use Rattle.types.specs.Scopes.{Scope, standard}
use Rattle.expr_rules.specs.Faults.{Faults, IsLeast, order_of}
use Rattle.unit_rules.specs.PackageRules.{package_faults}
use Rattle.unit_rules.specs.MainRules.{main_faults}
use Rattle.size_rules.specs.ProgramSizes.{size_faults}
use Rattle.legality.specs.LikeNames.{like_name_faults}

-- in front of the package these names are visible; the limits aside
abbrev pub package_part_faults : Scope → Option PackageTree → Faults
package_part_faults s (Some p) = package_faults s p ++ like_name_faults p
package_part_faults s None = []

-- each rule that is broken, with its place
abbrev pub program_faults : ProgramTree → Faults
program_faults t = package_part_faults standard t.package_ ++ main_faults t.package_ t.main ++ size_faults t

-- the rule with this number is broken at this place
abbrev pub IsRuleBroken : (number place : ℕ) → ProgramTree → Type 0
IsRuleBroken number place t = Contains (program_faults t) (record { number = number; place = place })

-- no rule is broken
abbrev pub IsLegal : ProgramTree → Type 0
IsLegal t = program_faults t ≡ []

-- memory was refused, or the rule is broken at its place and none before it
abbrev pub RefusesProgram : ProgramTree → Fault → Type 0
RefusesProgram t fault = (fault ≡ memory_fault) ⊎ IsLeast (program_faults t) fault

-- ---- the order in which faults are told

-- at a lesser place, or with a number that is not greater at the same place
abbrev pub ComesFirst : (a b : Fault) → Type 0
ComesFirst a b = (a.place < b.place) ⊎ ((a.place ≡ b.place) × (a.number ≤ b.number))

-- numbers of rules are below 256
abbrev pub OrderIsByPlaceAndNumber : Type 0
OrderIsByPlaceAndNumber = (a b : Fault) → a.number < 256 → b.number < 256 → order_of a ≤ order_of b → ComesFirst a b
