-- The bodies in the body of a package, among its declarations (RM 7.2; docs/LANGUAGE.md, "Rules of bodies").
use Rattle.std.specs.Prelude.{List, [], ◌∷◌, ◌++◌}
use Rattle.ada_tree.specs.ProgramTree.{BodyItemTree, OfItem, SubprogramBody, TaskBody, ProtectedBody}
use Rattle.types.specs.Scopes.{Scope}
use Rattle.expr_rules.specs.Faults.{Faults}
use Rattle.declaration_rules.specs.ItemRules.{item_faults}
use Rattle.declaration_rules.specs.PackageNames.{body_item_scope}
use Rattle.unit_rules.specs.BodyRules.{subprogram_body_faults, task_body_faults}
use Rattle.unit_rules.specs.ProtectedBodyRules.{protected_body_faults}

abbrev pub body_item_faults : Scope → BodyItemTree → Faults
body_item_faults s (OfItem d) = item_faults s d
body_item_faults s (SubprogramBody d b) = subprogram_body_faults s d b
body_item_faults s (TaskBody name b) = task_body_faults s name b
body_item_faults s (ProtectedBody name items end_name) = protected_body_faults s name items end_name

abbrev pub body_items_faults : Scope → List BodyItemTree → Faults
body_items_faults s [] = []
body_items_faults s (i ∷ is) = body_item_faults s i ++ body_items_faults (body_item_scope s i) is
