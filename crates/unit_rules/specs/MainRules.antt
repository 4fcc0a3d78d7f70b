-- The main procedure (RM 10.2; docs/LANGUAGE.md, "Rules of programs"), which sees the package by its name alone.
use Rattle.std.specs.Prelude.{ℕ, slice_get, Bool, true, false, ◌||◌, List, [], ◌∷◌, ◌++◌, Option, Some, None, is_some}
use Rattle.base.specs.declared.faults.TheConstants.{NAME_NOT_VISIBLE, DECLARED_TWICE, NO_MEANING, WRONG_ARGUMENT_COUNT}
use Rattle.ada_tree.specs.declared.expression.Identifier.{Identifier}
use Rattle.ada_tree.specs.declared.declaration.Formal.{Formal}
use Rattle.ada_tree.specs.declared.program.MainStatement.{MainStatement}
use Rattle.ada_tree.specs.declared.program.MainStatement.TheVariants as main_statement
use Rattle.ada_tree.specs.declared.declaration.Item.{Item}
use Rattle.ada_tree.specs.ProgramTree.{ItemTree, OfType, OfObject, OfException, OfTask, OfProtected, PackageTree, MainTree, item_tree}
use Rattle.ada_tree.specs.ProgramTree.{OfSubprogram as OfDeclared}
use Rattle.types.specs.Entities.{LibraryUnit}
use Rattle.types.specs.Scopes.{Scope, is_visible, standard, with_name}
use Rattle.expr_rules.specs.Faults.{Faults, rule}
use Rattle.type_rules.specs.SubtypeNames.{end_rule}
use Rattle.declaration_rules.specs.TaskRules.{aspect_faults}
use Rattle.conformance.specs.MatchingRules.{any_declared, same_name}
use Rattle.unit_rules.specs.declared.main_procedure.Meaning.{Meaning}
use Rattle.unit_rules.specs.declared.main_procedure.Meaning.TheVariants as meaning

-- a task of this name
abbrev pub is_task_named : Identifier → ItemTree → Bool
is_task_named name (OfTask d) = same_name d.name name
is_task_named name d = false

abbrev pub main_scope : Option PackageTree → Scope
main_scope (Some p) = with_name standard p.declaration.name.name LibraryUnit
main_scope None = standard

abbrev pub is_task_of : Option PackageTree → Identifier → Bool
is_task_of (Some p) name = any_declared (is_task_named name) p.declaration.items p.body.items
is_task_of None name = false

-- 11: named like what it sees, or like a task, whose name stands in lines as main's does
abbrev pub main_name_faults : Scope → Option PackageTree → Identifier → Faults
main_name_faults s package_ name = rule DECLARED_TWICE name.place (is_visible s name.name || is_task_of package_ name)

-- what the specification declares by a name
abbrev pub meaning_of : (is_function : Bool) → (has_no_formals : Bool) → Meaning
meaning_of true has_no_formals = meaning.Other
meaning_of false true = meaning.Procedure
meaning_of false false = meaning.WithFormals

abbrev pub has_no_formals : List Formal → Bool
has_no_formals [] = true
has_no_formals formals = false

abbrev pub item_name : ItemTree → Identifier
item_name (OfType d) = d.name
item_name (OfObject d) = d.name
item_name (OfException name) = name
item_name (OfDeclared d) = d.name
item_name (OfTask d) = d.name
item_name (OfProtected d) = d.name

abbrev pub item_meaning : ItemTree → Meaning
item_meaning (OfDeclared d) = meaning_of (is_some d.result) (has_no_formals d.formals)
item_meaning d = meaning.Other

abbrev pub declared_meaning : List ItemTree → Identifier → Meaning
declared_meaning [] name = meaning.Nothing
declared_meaning (d ∷ ds) name = elim (same_name (item_name d) name) [ true ↦ item_meaning d | false ↦ declared_meaning ds name ]

-- the name that an item of the specification declares, by the place where it is first
abbrev pub item_bytes : Item → List ℕ
item_bytes i = (item_name (item_tree i)).name

abbrev pub meaning_or_nothing : Option Item → Meaning
meaning_or_nothing (Some i) = item_meaning (item_tree i)
meaning_or_nothing None = meaning.Nothing

abbrev pub meaning_at : List Item → Option ℕ → Meaning
meaning_at items (Some place) = meaning_or_nothing (slice_get items place)
meaning_at items None = meaning.Nothing

-- 10, at the procedure: not in the specification; at the package's name 12: no procedure, 16: it has formals
abbrev pub called_rule : (first second : Identifier) → Meaning → Faults
called_rule first second meaning.Procedure = []
called_rule first second meaning.WithFormals = rule WRONG_ARGUMENT_COUNT first.place true
called_rule first second meaning.Other = rule NO_MEANING first.place true
called_rule first second meaning.Nothing = rule NAME_NOT_VISIBLE second.place true

-- 10: not visible; 12: visible and no package
abbrev pub no_package_rule : (is_visible : Bool) → Identifier → Faults
no_package_rule true first = rule NO_MEANING first.place true
no_package_rule false first = rule NAME_NOT_VISIBLE first.place true

abbrev pub package_call_faults : Scope → PackageTree → (first second : Identifier) → Faults
package_call_faults s p first second =
    elim (same_name p.declaration.name first) [
      | true ↦ called_rule first second (declared_meaning p.declaration.items second)
      | false ↦ no_package_rule (is_visible s first.name) first
    ]

abbrev pub main_call_faults : Scope → Option PackageTree → (first second : Identifier) → Faults
main_call_faults s (Some p) first second = package_call_faults s p first second
main_call_faults s None first second = no_package_rule (is_visible s first.name) first

abbrev pub main_statement_faults : Scope → Option PackageTree → MainStatement → Faults
main_statement_faults s package_ (main_statement.Null place) = []
main_statement_faults s package_ (main_statement.Call first second) = main_call_faults s package_ first second

abbrev pub main_statements_faults : Scope → Option PackageTree → List MainStatement → Faults
main_statements_faults s package_ [] = []
main_statements_faults s package_ (x ∷ xs) = main_statement_faults s package_ x ++ main_statements_faults s package_ xs

-- main's own name is visible in its statements
abbrev pub main_faults : Option PackageTree → MainTree → Faults
main_faults package_ m =
    main_name_faults (main_scope package_) package_ m.name
    ++ aspect_faults (main_scope package_) m.aspect
    ++ main_statements_faults (with_name (main_scope package_) m.name.name LibraryUnit) package_ m.statements
    ++ end_rule m.name m.end_name
