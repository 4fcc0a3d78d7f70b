-- Exceptions, tasks and priorities (RM 11.1, 9.1, D.1; docs/LANGUAGE.md, "Rules of declarations").
use Rattle.std.specs.Prelude.{ℕ, pos, Bool, true, false, Option, Some, None, ◌++◌, [], bytes_eq, codes, nat_le}
use Rattle.base.specs.declared.limits.TheConstants.{TASK_PRIORITY}
use Rattle.ada_tree.specs.declared.expression.Identifier.{Identifier}
use Rattle.ada_tree.specs.StatementTree.{AspectTree, TaskDefinitionTree, TaskTree}
use Rattle.types.specs.Entities.{Exception, Task}
use Rattle.types.specs.Scopes.{Scope, integer_type, with_name}
use Rattle.types.specs.Values.{Value, Number}
use Rattle.expr_rules.specs.declared.own.Wanted.{Wanted}
use Rattle.expr_rules.specs.declared.own.Wanted.TheVariants as wanted
use Rattle.expr_rules.specs.Faults.{Faults}
use Rattle.expr_rules.specs.ExpressionRules.{faults_of}
use Rattle.expr_rules.specs.StaticRules.{static_scalar}
use Rattle.type_rules.specs.SubtypeNames.{declared_twice, end_rule}

-- ---- exceptions

abbrev pub exception_scope : Scope → Identifier → Scope
exception_scope s name = with_name s name.name Exception

-- ---- aspects: the expression of a Priority, or of an operation's Attach_Handler, is an Integer; one of another aspect, which is refused for itself (38),
-- has at least a meaning

abbrev pub aspect_wanted : Bool → Wanted
aspect_wanted true = wanted.OfType integer_type
aspect_wanted false = wanted.Anything

abbrev pub is_priority : AspectTree → Bool
is_priority a = bytes_eq a.name.name (codes "PRIORITY")

abbrev pub aspect_faults : Scope → Option AspectTree → Faults
aspect_faults s (Some a) = faults_of s (aspect_wanted (is_priority a)) a.value
aspect_faults s None = []

-- the aspect that attaches a procedure to a channel, an Integer (RM C.3.1)
abbrev pub is_attachment : AspectTree → Bool
is_attachment a = bytes_eq a.name.name (codes "ATTACH_HANDLER")

abbrev pub operation_aspect_faults : Scope → Option AspectTree → Faults
operation_aspect_faults s (Some a) = faults_of s (aspect_wanted (is_attachment a)) a.value
operation_aspect_faults s None = []

-- the priority that an aspect gives, or this one; where it is not static, or not one up to the highest, it is refused for itself (38)
abbrev pub priority_within : (highest other : ℕ) → Option Value → ℕ
priority_within highest other (Some (Number (pos n))) = elim (nat_le n highest) [ true ↦ n | false ↦ other ]
priority_within highest other v = other

abbrev pub priority_of : Scope → (highest other : ℕ) → Option AspectTree → ℕ
priority_of s highest other (Some a) = priority_within highest other (static_scalar s (wanted.OfType integer_type) None a.value)
priority_of s highest other None = other

-- ---- tasks, whose entries declare no names

abbrev pub default_priority : ℕ
default_priority = 15

abbrev pub task_end_faults : (name : Identifier) → Option TaskDefinitionTree → Faults
task_end_faults name (Some d) = end_rule name d.end_name
task_end_faults name None = []

abbrev pub task_faults : Scope → TaskTree → Faults
task_faults s d = aspect_faults s d.aspect ++ task_end_faults d.name d.definition ++ declared_twice s d.name

abbrev pub task_scope : Scope → TaskTree → Scope
task_scope s d = with_name s d.name.name (Task (priority_of s TASK_PRIORITY default_priority d.aspect))
