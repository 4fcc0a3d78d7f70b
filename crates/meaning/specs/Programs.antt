-- What a program declares, as its runs need it (RM 3, 6, 7, 9, 11): visible names, subprograms, objects with their initial values, tasks, exceptions.
use Rattle.std.specs.Prelude.{ℕ, suc, List, [], ◌∷◌, ◌++◌, length, map, Option, Some, None, bytes_eq, nat_eq, option_map, position, slice_get, if◌then◌else◌}
use Rattle.base.specs.Names.{predefined}
use Rattle.base.specs.declared.limits.TheConstants.{CEILING, TASK_PRIORITY}
use Rattle.base.specs.declared.schedule.ScheduleLine.{ScheduleLine}
use Rattle.kernel.specs.State.{Interrupt, Partition}
use Rattle.kernel.specs.Interrupts.{interrupts_of, names_of_all}
use Rattle.kernel.specs.Text.{Names}
use Rattle.image.specs.Texts.{text_at, text_from_one}
use Rattle.ada_tree.specs.declared.expression.Identifier.{Identifier}
use Rattle.ada_tree.specs.declared.declaration.Formal.{Formal}
use Rattle.ada_tree.specs.declared.declaration.Mode.{Mode}
use Rattle.ada_tree.specs.declared.program.MainStatement.{MainStatement}
use Rattle.ada_tree.specs.ExpressionTree.{ExprTree}
use Rattle.ada_tree.specs.StatementTree.{AspectTree, ObjectTree, SubprogramTree, TaskTree, OperationTree, OfSubprogram, OfEntry, ProtectedComponentTree, StmtTrees, NoStmts, MoreStmts, Return}
use Rattle.ada_tree.specs.ProgramTree.{ProgramTree, PackageTree, BodyTree, ItemTree, OfObject, OfException, OfTask, OfProtected, BodyItemTree, OfItem, SubprogramBody, TaskBody, ProtectedBody, ProtectedItemTree, OperationBody, EntryBody}
use Rattle.types.specs.declared.entity.Subtype.{Subtype}
use Rattle.types.specs.Scopes.{Scope, integer, protected_of}
use Rattle.types.specs.Shapes.{initial}
use Rattle.types.specs.Values as values
use Rattle.types.specs.Evaluations.{Val, Gives}
use Rattle.types.specs.Places.{Object, Function, ceiling_of}
use Rattle.types.specs.Places as places
use Rattle.types.specs.Statics.{static_place}
use Rattle.types.specs.Evaluating.{val}
use Rattle.declaration_rules.specs.ProtectedRules.{protected_count}
use Rattle.type_rules.specs.SubtypeNames.{named_entity, subtype_of}
use Rattle.declaration_rules.specs.TaskRules.{default_priority, is_attachment, priority_of}
use Rattle.declaration_rules.specs.HandlerChannels.{attached_channel}
use Rattle.declaration_rules.specs.PackageNames.{program_scope}

-- a formal parameter (RM 6.1)
pub record Parameter : Type 0 where
  pub name : List ℕ
  pub mode : Mode
  pub subtype : Subtype

-- A procedure of the package, or of the protected object with this number; or the entry of one, which has a barrier (RM 6.3, 9.5.1, 9.5.2).
pub record Procedure : Type 0 where
  pub object : Option ℕ
  pub name : List ℕ
  pub parameters : List Parameter
  pub barrier : Option ExprTree
  pub body : BodyTree

-- what a task does: its body, or the statements of main
pub data Duty : Type 0 where
  OfBody : BodyTree → Duty
  OfMain : List MainStatement → Duty

-- a task with its base priority (RM 9.1, D.1)
pub record Task : Type 0 where
  pub name : List ℕ
  pub priority : ℕ
  pub duty : Duty

-- the handler of a channel's interrupts: a procedure of a protected object, without parameters (RM C.3.1)
pub record Attached : Type 0 where
  pub channel : ℕ
  pub object : ℕ
  pub name : List ℕ

pub record Program : Type 0 where
  -- the names of the package
  pub scope : Scope
  pub functions : List Function
  pub procedures : List Procedure
  -- the variables of the package and the components of each protected object, with their initial values
  pub variables : List Object
  pub components : ℕ → List Object
  -- the names of exceptions, numbered from 1
  pub exceptions : List (List ℕ)
  -- in the order of their declarations, main last
  pub tasks : List Task
  pub objects : ℕ
  pub handlers : List Attached

-- ---- names: none of a package hides another one, so those that are visible behind it serve for all of it (RM 8.3)

-- the subtype that a name stands for; in a legal program it stands for one
abbrev pub subtype_or_integer : Option Subtype → Subtype
subtype_or_integer (Some t) = t
subtype_or_integer None = integer

abbrev pub subtype_named : Scope → Identifier → Subtype
subtype_named s name = subtype_or_integer (subtype_of s name)

-- ---- the declarations of the package, in the order of the text

abbrev pub items_among : List BodyItemTree → List ItemTree
items_among [] = []
items_among (OfItem d ∷ rest) = d ∷ items_among rest
items_among (b ∷ rest) = items_among rest

abbrev pub package_items : Option PackageTree → List ItemTree
package_items None = []
package_items (Some p) = p.declaration.items ++ items_among p.body.items

abbrev pub package_bodies : Option PackageTree → List BodyItemTree
package_bodies None = []
package_bodies (Some p) = p.body.items

-- ---- objects (RM 3.3.1). Initial values at this level are static, or use `Clock`, which is 0 at the start (RM D.8)

abbrev pub given_or : Val values.Value → values.Value → values.Value
given_or (Gives v) other = v
given_or e other = other

abbrev pub initial_value : Scope → Subtype → Option ExprTree → values.Value
initial_value s t (Some e) = given_or (val (static_place s) e) (initial s t)
initial_value s t None = initial s t

abbrev pub object_named : Scope → Identifier → Identifier → Option ExprTree → Object
object_named s name subtype value = let t = subtype_named s subtype in record { name = name.name; subtype = t; value = initial_value s t value }

-- constants of the package are no objects here: the names of the package tell their values
abbrev pub variable : Scope → ObjectTree → List Object
variable s d = if d.constant then [] else object_named s d.name d.subtype d.value ∷ []

abbrev pub variables_among : Scope → List ItemTree → List Object
variables_among s [] = []
variables_among s (OfObject d ∷ rest) = variable s d ++ variables_among s rest
variables_among s (d ∷ rest) = variables_among s rest

abbrev pub component : Scope → ProtectedComponentTree → Object
component s c = object_named s c.name c.subtype c.value

abbrev pub components_among : Scope → List ItemTree → List (List Object)
components_among s [] = []
components_among s (OfProtected d ∷ rest) = map (component s) d.components ∷ components_among s rest
components_among s (d ∷ rest) = components_among s rest

abbrev pub objects_or_none : Option (List Object) → List Object
objects_or_none (Some xs) = xs
objects_or_none None = []

-- ---- subprograms, by their bodies (RM 6.3). A function returns the value of one expression

abbrev pub parameter : Scope → Formal → Parameter
parameter s f = record { name = f.name.name; mode = f.mode; subtype = subtype_named s f.subtype }

abbrev pub formal : Scope → Formal → places.Formal
formal s f = record { name = f.name.name; subtype = subtype_named s f.subtype }

abbrev pub returned : StmtTrees → Option ExprTree
returned (MoreStmts (Return place value) NoStmts) = value
returned statements = None

abbrev pub function_with : Scope → Option ℕ → SubprogramTree → Identifier → Option ExprTree → List Function
function_with s object d result (Some e) = record {
  object = object;
  name = d.name.name;
  formals = map (formal s) d.formals;
  result = subtype_named s result;
  value = e;
} ∷ []
function_with s object d result None = []

abbrev pub function_of : Scope → Option ℕ → SubprogramTree → BodyTree → List Function
function_of s object d b = elim d.result [ Some result ↦ function_with s object d result (returned b.statements) | None ↦ [] ]

abbrev pub procedure_of : Scope → Option ℕ → SubprogramTree → BodyTree → List Procedure
procedure_of s object d b =
    elim d.result [
      | Some result ↦ []
      | None ↦ record {
        object = object;
        name = d.name.name;
        parameters = map (parameter s) d.formals;
        barrier = None;
        body = b;
      } ∷ []
    ]

-- the number of the protected object of this name
abbrev pub object_numbered : Scope → Identifier → Option ℕ
object_numbered s name = option_map (λ o. o.number) (protected_of (named_entity s name))

abbrev pub operation_functions : Scope → Option ℕ → List ProtectedItemTree → List Function
operation_functions s object [] = []
operation_functions s object (OperationBody d b ∷ rest) = function_of s object d b ++ operation_functions s object rest
operation_functions s object (EntryBody d barrier b ∷ rest) = operation_functions s object rest

abbrev pub operation_procedures : Scope → Option ℕ → List ProtectedItemTree → List Procedure
operation_procedures s object [] = []
operation_procedures s object (OperationBody d b ∷ rest) = procedure_of s object d b ++ operation_procedures s object rest
operation_procedures s object (EntryBody d barrier b ∷ rest) =
    record {
      object = object;
      name = d.name.name;
      parameters = map (parameter s) d.formals;
      barrier = Some barrier;
      body = b;
    } ∷ operation_procedures s object rest

abbrev pub functions_among : Scope → List BodyItemTree → List Function
functions_among s [] = []
functions_among s (SubprogramBody d b ∷ rest) = function_of s None d b ++ functions_among s rest
functions_among s (ProtectedBody name items end_name ∷ rest) = operation_functions s (object_numbered s name) items ++ functions_among s rest
functions_among s (other ∷ rest) = functions_among s rest

abbrev pub procedures_among : Scope → List BodyItemTree → List Procedure
procedures_among s [] = []
procedures_among s (SubprogramBody d b ∷ rest) = procedure_of s None d b ++ procedures_among s rest
procedures_among s (ProtectedBody name items end_name ∷ rest) = operation_procedures s (object_numbered s name) items ++ procedures_among s rest
procedures_among s (other ∷ rest) = procedures_among s rest

-- ---- exceptions: the predefined ones, and then those that are declared (RM 11.1)

abbrev pub exceptions_among : List ItemTree → List (List ℕ)
exceptions_among [] = []
exceptions_among (OfException name ∷ rest) = name.name ∷ exceptions_among rest
exceptions_among (d ∷ rest) = exceptions_among rest

-- ---- tasks (RM 9.1, 10.2, D.1)

abbrev pub body_among : Identifier → List BodyItemTree → List Duty
body_among name [] = []
body_among name (TaskBody own b ∷ rest) = if bytes_eq own.name name.name then OfBody b ∷ [] else body_among name rest
body_among name (other ∷ rest) = body_among name rest

abbrev pub base_priority : Scope → Option AspectTree → ℕ
base_priority s aspect = priority_of s TASK_PRIORITY default_priority aspect

abbrev pub task_with : Scope → TaskTree → Duty → Task
task_with s d duty = record { name = d.name.name; priority = base_priority s d.aspect; duty = duty }

abbrev pub tasks_among : Scope → List BodyItemTree → List ItemTree → List Task
tasks_among s bodies [] = []
tasks_among s bodies (OfTask d ∷ rest) = map (task_with s d) (body_among d.name bodies) ++ tasks_among s bodies rest
tasks_among s bodies (d ∷ rest) = tasks_among s bodies rest

abbrev pub main_task : Scope → ProgramTree → Task
main_task s p = record { name = p.main.name.name; priority = base_priority s p.main.aspect; duty = OfMain p.main.statements }

-- ---- handlers of interrupts, by the aspects of operations (RM C.3.1)

abbrev pub attached_by : (name : List ℕ) → (object channel : Option ℕ) → List Attached
attached_by name (Some o) (Some c) = record { channel = c; object = o; name = name } ∷ []
attached_by name object channel = []

abbrev pub attached_operation : Scope → (object : Option ℕ) → OperationTree → List Attached
attached_operation s object (OfSubprogram d (Some a)) = if is_attachment a then attached_by d.name.name object (attached_channel s a) else []
attached_operation s object (OfSubprogram d None) = []
attached_operation s object (OfEntry d) = []

abbrev pub attached_operations : Scope → (object : Option ℕ) → List OperationTree → List Attached
attached_operations s object [] = []
attached_operations s object (o ∷ os) = attached_operation s object o ++ attached_operations s object os

abbrev pub handlers_among : Scope → List ItemTree → List Attached
handlers_among s [] = []
handlers_among s (OfProtected d ∷ rest) = attached_operations s (object_numbered s d.name) d.operations ++ handlers_among s rest
handlers_among s (d ∷ rest) = handlers_among s rest

-- ---- the whole

abbrev pub program_with : Scope → List ItemTree → List BodyItemTree → ProgramTree → Program
program_with s items bodies p =
    record {
      scope = s;
      functions = functions_among s bodies;
      procedures = procedures_among s bodies;
      variables = variables_among s items;
      components = λ o. objects_or_none (slice_get (components_among s items) o);
      exceptions = predefined ++ exceptions_among items;
      tasks = tasks_among s bodies items ++ main_task s p ∷ [];
      objects = protected_count s;
      handlers = handlers_among s items;
    }

abbrev pub program_of : ProgramTree → Program
program_of p = program_with (program_scope p) (package_items p.package_) (package_bodies p.package_) p

-- ---- what the kernel and the text of a run take from it

-- beyond the tasks are the actors of handlers, which have the highest priority
abbrev pub priority_or_highest : Option Task → ℕ
priority_or_highest (Some t) = t.priority
priority_or_highest None = CEILING

abbrev pub program_partition : Program → Partition
program_partition p = record {
  tasks = length p.tasks;
  objects = p.objects;
  base = λ t. priority_or_highest (slice_get p.tasks t);
  ceiling = ceiling_of p.scope;
}

-- the handler of a channel
abbrev pub handler_at : ℕ → List Attached → Option Attached
handler_at channel [] = None
handler_at channel (a ∷ rest) = if nat_eq a.channel channel then Some a else handler_at channel rest

abbrev pub object_attached : Option Attached → Option ℕ
object_attached (Some a) = Some a.object
object_attached None = None

abbrev pub program_interrupts : Program → List ScheduleLine → List Interrupt
program_interrupts p schedule = interrupts_of (λ channel. object_attached (handler_at channel p.handlers)) schedule

abbrev pub exception_name : Program → ℕ → List ℕ
exception_name p x = text_from_one p.exceptions x

abbrev pub exception_number : Program → List ℕ → Option ℕ
exception_number p name = option_map suc (position (bytes_eq name) p.exceptions)

abbrev pub task_name : Task → List ℕ
task_name t = t.name

abbrev pub program_names : Program → Names
program_names p = record { task = names_of_all (length p.tasks) (λ t. text_at (map task_name p.tasks) t); exception = exception_name p }
