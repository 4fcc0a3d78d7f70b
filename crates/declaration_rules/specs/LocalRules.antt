-- The declarations of a body or block (RM 3.11; docs/LANGUAGE.md, "Rules of declarations"), in order: each is visible from its end on.
use Rattle.std.specs.Prelude.{List, [], ◌∷◌, ◌++◌}
use Rattle.ada_tree.specs.StatementTree.{DeclarationTree, LocalObject, LocalTask, LocalProtected}
use Rattle.types.specs.Scopes.{Scope}
use Rattle.expr_rules.specs.Faults.{Faults}
use Rattle.type_rules.specs.ObjectRules.{fixed_object_faults, local_object_faults, local_object_scope}
use Rattle.declaration_rules.specs.ProtectedRules.{protected_faults, protected_scope}
use Rattle.declaration_rules.specs.TaskRules.{task_faults, task_scope}

-- tasks and protected objects among them are judged like those of the package; that they stand here is refused for itself, behind all other rules
abbrev pub local_faults : Scope → DeclarationTree → Faults
local_faults s (LocalObject d) = local_object_faults s d
local_faults s (LocalTask d) = task_faults s d
local_faults s (LocalProtected d) = protected_faults s d

abbrev pub fixed_local_faults : Scope → DeclarationTree → Faults
fixed_local_faults s (LocalObject d) = fixed_object_faults s d
fixed_local_faults s (LocalTask d) = task_faults s d
fixed_local_faults s (LocalProtected d) = protected_faults s d

abbrev pub local_scope : Scope → DeclarationTree → Scope
local_scope s (LocalObject d) = local_object_scope s d
local_scope s (LocalTask d) = task_scope s d
local_scope s (LocalProtected d) = protected_scope s d

abbrev pub locals_faults : Scope → List DeclarationTree → Faults
locals_faults s [] = []
locals_faults s (d ∷ ds) = local_faults s d ++ locals_faults (local_scope s d) ds

-- the faults of the declarations of a task body, where initial values are static
abbrev pub fixed_locals_faults : Scope → List DeclarationTree → Faults
fixed_locals_faults s [] = []
fixed_locals_faults s (d ∷ ds) = fixed_local_faults s d ++ fixed_locals_faults (local_scope s d) ds

abbrev pub locals_scope : Scope → List DeclarationTree → Scope
locals_scope s [] = s
locals_scope s (d ∷ ds) = locals_scope (local_scope s d) ds
