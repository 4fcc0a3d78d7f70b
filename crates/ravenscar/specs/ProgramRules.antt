-- The rules from 30 to 39 and from 70 to 73 of a whole program (docs/LANGUAGE.md, "Rules of the profile"): which are broken where, what a restricted
-- program is, and which broken rule is told. Names mean what they do for the rules from 10 to 23.
use Rattle.std.specs.Prelude.{◌≡◌, ◌⊎◌, ℕ, Bool, List, [], ◌∷◌, ◌++◌, Option, Some, None}
use Rattle.std.specs.List.{Contains}
use Rattle.base.specs.declared.limits.TheConstants.{TASK_PRIORITY}
use Rattle.lexer.specs.Fault.{memory_fault}
use Rattle.lexer.specs.declared.fault.Fault.{Fault}
use Rattle.ada_tree.specs.declared.expression.Identifier.{Identifier}
use Rattle.ada_tree.specs.ProgramTree.{ItemTree, OfTask, OfProtected, BodyItemTree, OfItem, SubprogramBody, TaskBody, ProtectedBody, PackageTree, ProgramTree}
use Rattle.types.specs.declared.entity.RecordComponent.{RecordComponent}
use Rattle.types.specs.Entities.{Entity, Protected}
use Rattle.types.specs.Scopes.{Scope, standard}
use Rattle.expr_rules.specs.Faults.{Faults, IsLeast}
use Rattle.declaration_rules.specs.ItemRules.{item_scope}
use Rattle.type_rules.specs.SubtypeNames.{named_entity}
use Rattle.unit_rules.specs.MainRules.{main_scope}
use Rattle.declaration_rules.specs.PackageNames.{body_item_scope, inside_scope, specified_scope}
use Rattle.ravenscar.specs.PragmaRules.{pragma_faults}
use Rattle.ravenscar.specs.HandlerRules.{none_taken, taken_by_all}
use Rattle.ravenscar.specs.TaskingRules.{aspect_faults, protected_faults, task_faults}
use Rattle.body_restrictions.specs.BodyRules.{body_faults, operations_faults}

-- ---- the package, in the order of its declarations and bodies

-- `taken` are the channels that have handlers before
abbrev pub item_faults : Scope → (taken : List Bool) → ItemTree → Faults
item_faults s taken (OfTask d) = task_faults s d
item_faults s taken (OfProtected d) = protected_faults s taken d
item_faults s taken d = []

abbrev pub taken_by_item : Scope → (taken : List Bool) → ItemTree → List Bool
taken_by_item s taken (OfProtected d) = taken_by_all s taken d.operations
taken_by_item s taken d = taken

abbrev pub items_faults : Scope → (taken : List Bool) → List ItemTree → Faults
items_faults s taken [] = []
items_faults s taken (d ∷ ds) = item_faults s taken d ++ items_faults (item_scope s d) (taken_by_item s taken d) ds

abbrev pub taken_by_items : Scope → (taken : List Bool) → List ItemTree → List Bool
taken_by_items s taken [] = taken
taken_by_items s taken (d ∷ ds) = taken_by_items (item_scope s d) (taken_by_item s taken d) ds

-- the components of the protected object of this name; none, where it is not known
abbrev pub components_in : Option Entity → List RecordComponent
components_in (Some (Protected p)) = p.components
components_in e = []

abbrev pub components_named : Scope → Identifier → List RecordComponent
components_named s name = components_in (named_entity s name)

abbrev pub body_item_faults : Scope → (taken : List Bool) → BodyItemTree → Faults
body_item_faults s taken (OfItem d) = item_faults s taken d
body_item_faults s taken (SubprogramBody d b) = body_faults b
body_item_faults s taken (TaskBody name b) = body_faults b
body_item_faults s taken (ProtectedBody name items end_name) = operations_faults (components_named s name) items

abbrev pub taken_by_body_item : Scope → (taken : List Bool) → BodyItemTree → List Bool
taken_by_body_item s taken (OfItem d) = taken_by_item s taken d
taken_by_body_item s taken i = taken

abbrev pub body_items_faults : Scope → (taken : List Bool) → List BodyItemTree → Faults
body_items_faults s taken [] = []
body_items_faults s taken (i ∷ is) = body_item_faults s taken i ++ body_items_faults (body_item_scope s i) (taken_by_body_item s taken i) is

abbrev pub package_faults : PackageTree → Faults
package_faults p =
    let inside = inside_scope standard p in
    items_faults inside none_taken p.declaration.items
    ++ body_items_faults (specified_scope standard p) (taken_by_items inside none_taken p.declaration.items) p.body.items

abbrev pub package_part_faults : Option PackageTree → Faults
package_part_faults (Some p) = package_faults p
package_part_faults None = []

-- ---- the program

-- each rule from 30 to 39, and from 70 to 73, that is broken, with its place
abbrev pub restriction_faults : ProgramTree → Faults
restriction_faults t = pragma_faults t ++ package_part_faults t.package_ ++ aspect_faults (main_scope t.package_) TASK_PRIORITY t.main.aspect

-- the rule with this number is broken at this place
abbrev pub IsRestrictionBroken : (number place : ℕ) → ProgramTree → Type 0
IsRestrictionBroken number place t = Contains (restriction_faults t) (record { number = number; place = place })

-- no rule is broken
abbrev pub IsRestricted : ProgramTree → Type 0
IsRestricted t = restriction_faults t ≡ []

-- memory was refused, or the rule is broken at its place and none before it
abbrev pub RefusesUnrestricted : ProgramTree → Fault → Type 0
RefusesUnrestricted t fault = (fault ≡ memory_fault) ⊎ IsLeast (restriction_faults t) fault
