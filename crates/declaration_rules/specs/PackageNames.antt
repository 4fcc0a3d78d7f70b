-- What is visible in a package, behind it and in its library units (RM 8.3, 10.1.2, 10.1.6; docs/LANGUAGE.md, "Rules of programs").
use Rattle.std.specs.Prelude.{ℕ, Bool, true, false, ◌&&◌, List, [], ◌∷◌, Option, Some, None, bytes_eq, codes}
use Rattle.ada_tree.specs.declared.expression.Identifier.{Identifier}
use Rattle.ada_tree.specs.declared.program.UnitClause.{UnitClause}
use Rattle.ada_tree.specs.declared.program.UnitName.{UnitName}
use Rattle.ada_tree.specs.ProgramTree.{BodyItemTree, OfItem, SubprogramBody, PackageTree, ProgramTree}
use Rattle.types.specs.Entities.{LibraryUnit}
use Rattle.types.specs.Scopes.{Scope, standard, with_control_io, with_name, with_real_time}
use Rattle.type_rules.specs.ProfileRules.{subprogram_scope}
use Rattle.declaration_rules.specs.ItemRules.{item_scope, items_scope}

-- ---- library units, and what their clauses make visible

abbrev pub is_named : Identifier → List ℕ → Bool
is_named i name = bytes_eq i.name name

abbrev pub is_second : Option Identifier → List ℕ → Bool
is_second (Some i) name = is_named i name
is_second None name = false

abbrev pub is_bare : Option Identifier → Bool
is_bare None = true
is_bare (Some i) = false

abbrev pub is_real_time : UnitName → Bool
is_real_time u = is_named u.first (codes "ADA") && is_second u.second (codes "REAL_TIME")

abbrev pub is_control_io : UnitName → Bool
is_control_io u = is_named u.first (codes "CONTROL_IO") && is_bare u.second

abbrev pub clause_scope : Scope → UnitClause → Scope
clause_scope s c = elim (is_real_time c.unit) [ true ↦ with_real_time s | false ↦ elim (is_control_io c.unit) [ true ↦ with_control_io s | false ↦ s ] ]

abbrev pub clauses_scope : Scope → List UnitClause → Scope
clauses_scope s [] = s
clauses_scope s (c ∷ cs) = clauses_scope (clause_scope s c) cs

-- ---- behind the declarations and bodies in the body of a package; a body of a task or a protected object declares nothing

abbrev pub body_item_scope : Scope → BodyItemTree → Scope
body_item_scope s (OfItem d) = item_scope s d
body_item_scope s (SubprogramBody d b) = subprogram_scope s d
body_item_scope s other = s

abbrev pub body_items_scope : Scope → List BodyItemTree → Scope
body_items_scope s [] = s
body_items_scope s (i ∷ is) = body_items_scope (body_item_scope s i) is

-- ---- what is visible: in the package its own name, behind the specification what it declares, behind the package all declarations of its body too; in front
-- of it these names

abbrev pub units_scope : Scope → PackageTree → Scope
units_scope s p = clauses_scope s p.clauses

abbrev pub inside_scope : Scope → PackageTree → Scope
inside_scope s p = with_name (units_scope s p) p.declaration.name.name LibraryUnit

abbrev pub specified_scope : Scope → PackageTree → Scope
specified_scope s p = items_scope (inside_scope s p) p.declaration.items

abbrev pub package_scope : Scope → PackageTree → Scope
package_scope s p = body_items_scope (specified_scope s p) p.body.items

-- the names that are visible behind the package: where there is none, those of Standard, which stand in front of it
abbrev pub optional_scope : Scope → Option PackageTree → Scope
optional_scope s (Some p) = package_scope s p
optional_scope s None = s

abbrev pub program_scope : ProgramTree → Scope
program_scope t = optional_scope standard t.package_
