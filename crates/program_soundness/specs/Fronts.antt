-- The declarations and bodies of the package as one list, in the order of the text, and what is visible in front of each (RM 7.1, 7.2, 8.2).
use Rattle.std.specs.Prelude.{ℕ, List, [], ◌++◌, map, take, Option, Some, None}
use Rattle.expr_soundness.specs.ada_tree.specs.ProgramTree.{BodyItemTree, OfItem, PackageTree, ProgramTree}
use Rattle.types.specs.Scopes.{Scope, standard}
use Rattle.declaration_rules.specs.PackageNames.{body_items_scope, inside_scope}

abbrev pub declared_in : Option PackageTree → List BodyItemTree
declared_in (Some p) = map OfItem p.declaration.items ++ p.body.items
declared_in None = []

-- in front of the first of them
abbrev pub start_in : Option PackageTree → Scope
start_in (Some p) = inside_scope standard p
start_in None = standard

-- in front of the one at this place
abbrev pub scope_at : Scope → List BodyItemTree → (place : ℕ) → Scope
scope_at s all place = body_items_scope s (take place all)

abbrev pub front : ProgramTree → (place : ℕ) → Scope
front t place = scope_at (start_in t.package_) (declared_in t.package_) place
