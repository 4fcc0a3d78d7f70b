-- Tasks and protected objects of the package, and priorities (RM D.1, D.3, D.7; docs/LANGUAGE.md, "Rules of the profile").
use Rattle.std.specs.Prelude.{ℕ, pos, Bool, true, false, not, ◌&&◌, List, [], ◌∷◌, ◌++◌, Option, Some, None, nat_le}
use Rattle.base.specs.declared.faults.TheConstants.{SECOND_ENTRY, TASK_ENTRY, WRONG_ASPECT}
use Rattle.base.specs.declared.limits.TheConstants.{CEILING, TASK_PRIORITY}
use Rattle.ada_tree.specs.declared.declaration.TaskEntry.{TaskEntry}
use Rattle.ada_tree.specs.StatementTree.{AspectTree, OperationTree, OfSubprogram, OfEntry, ProtectedTree, TaskDefinitionTree, TaskTree}
use Rattle.types.specs.Scopes.{Scope, integer_type}
use Rattle.types.specs.Values.{Value, Number}
use Rattle.expr_rules.specs.declared.own.Wanted.TheVariants as wanted
use Rattle.expr_rules.specs.Faults.{Faults, rule}
use Rattle.expr_rules.specs.StaticRules.{static_scalar}
use Rattle.declaration_rules.specs.TaskRules.{is_priority}
use Rattle.ravenscar.specs.HandlerRules.{ceiling_faults, operations_aspects_faults}

-- ---- priorities and ceilings (RM D.1, D.3): a static Integer from 0 to the highest priority of a task, or to the highest ceiling

abbrev pub is_priority_value : (highest : ℕ) → Option Value → Bool
is_priority_value highest (Some (Number (pos n))) = nat_le n highest
is_priority_value highest value = false

-- 38, at the aspect's `with`: it is another one than Priority, or gives none
abbrev pub gives_priority : Scope → (highest : ℕ) → AspectTree → Bool
gives_priority s highest a = is_priority a && is_priority_value highest (static_scalar s (wanted.OfType integer_type) None a.value)

abbrev pub aspect_faults : Scope → (highest : ℕ) → Option AspectTree → Faults
aspect_faults s highest (Some a) = rule WRONG_ASPECT a.place (not (gives_priority s highest a))
aspect_faults s highest None = []

-- ---- tasks (RM D.7, Max_Task_Entries): 32, at each entry

abbrev pub task_entries_faults : List TaskEntry → Faults
task_entries_faults [] = []
task_entries_faults (e ∷ es) = rule TASK_ENTRY e.place true ++ task_entries_faults es

abbrev pub definition_faults : Option TaskDefinitionTree → Faults
definition_faults (Some d) = task_entries_faults d.entries
definition_faults None = []

abbrev pub task_faults : Scope → TaskTree → Faults
task_faults s d = aspect_faults s TASK_PRIORITY d.aspect ++ definition_faults d.definition

-- ---- protected objects (RM D.7, Max_Protected_Entries): 31, at each entry behind the first

abbrev pub entries_faults : (has_entry : Bool) → List OperationTree → Faults
entries_faults has_entry [] = []
entries_faults has_entry (OfSubprogram d a ∷ os) = entries_faults has_entry os
entries_faults has_entry (OfEntry d ∷ os) = rule SECOND_ENTRY d.place has_entry ++ entries_faults true os

-- `taken` are the channels to which handlers before it are attached
abbrev pub protected_faults : Scope → (taken : List Bool) → ProtectedTree → Faults
protected_faults s taken d =
    aspect_faults s CEILING d.aspect ++ ceiling_faults s d.operations d.aspect ++ entries_faults false d.operations
    ++ operations_aspects_faults s taken d.operations
