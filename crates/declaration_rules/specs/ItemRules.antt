-- The declarations of a package, each by its kind (RM 7.1; docs/LANGUAGE.md, "Rules of declarations").
use Rattle.std.specs.Prelude.{List, [], ◌∷◌, ◌++◌}
use Rattle.ada_tree.specs.ProgramTree.{ItemTree, OfType, OfObject, OfException, OfSubprogram, OfTask, OfProtected}
use Rattle.types.specs.Scopes.{Scope}
use Rattle.expr_rules.specs.Faults.{Faults}
use Rattle.type_rules.specs.ObjectRules.{fixed_object_faults, package_object_scope}
use Rattle.type_rules.specs.ProfileRules.{subprogram_faults, subprogram_scope}
use Rattle.declaration_rules.specs.ProtectedRules.{protected_faults, protected_scope}
use Rattle.type_rules.specs.SubtypeNames.{declared_twice}
use Rattle.declaration_rules.specs.TaskRules.{exception_scope, task_faults, task_scope}
use Rattle.type_rules.specs.TypeRules.{type_faults, type_scope}

abbrev pub item_faults : Scope → ItemTree → Faults
item_faults s (OfType d) = type_faults s d
item_faults s (OfObject d) = fixed_object_faults s d
item_faults s (OfException name) = declared_twice s name
item_faults s (OfSubprogram d) = subprogram_faults s d
item_faults s (OfTask d) = task_faults s d
item_faults s (OfProtected d) = protected_faults s d

abbrev pub item_scope : Scope → ItemTree → Scope
item_scope s (OfType d) = type_scope s d
item_scope s (OfObject d) = package_object_scope s d
item_scope s (OfException name) = exception_scope s name
item_scope s (OfSubprogram d) = subprogram_scope s d
item_scope s (OfTask d) = task_scope s d
item_scope s (OfProtected d) = protected_scope s d

-- in order: each is visible from its end on
abbrev pub items_faults : Scope → List ItemTree → Faults
items_faults s [] = []
items_faults s (d ∷ ds) = item_faults s d ++ items_faults (item_scope s d) ds

abbrev pub items_scope : Scope → List ItemTree → Scope
items_scope s [] = s
items_scope s (d ∷ ds) = items_scope (item_scope s d) ds
