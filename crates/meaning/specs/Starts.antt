-- What tasks have to do at the start (RM 9.2), and handlers of interrupts at each of their starts (RM C.3.1).
use Rattle.std.specs.Prelude.{ℕ, ◌-◌, List, [], ◌∷◌, ◌++◌, length, map, Option, Some, None, nat_lt, slice_get, if◌then◌else◌}
use Rattle.meaning.specs.Works.{Activation, Item, Declares, DoesMain, EndsCall, Sequence, Goes, TaskWork}
use Rattle.meaning.specs.Programs.{Attached, Duty, OfBody, OfMain, Procedure, Task, Program, handler_at}
use Rattle.meaning.specs.Calls.{activation_of, body_items, procedure_among}

abbrev pub duty_items : Duty → List Item
duty_items (OfBody b) = map Declares b.declarations ++ Sequence b.statements b.handlers ∷ []
duty_items (OfMain statements) = map DoesMain statements

abbrev pub task_items : Option Task → List Item
task_items (Some t) = duty_items t.duty
task_items None = []

-- the activation of a body
abbrev pub outermost : Activation
outermost = record { within = None; locals = [] }

abbrev pub items_work : List Item → TaskWork
items_work items = record { work = Goes items; own = outermost; callers = [] }

abbrev pub task_work : Program → ℕ → TaskWork
task_work p t = items_work (task_items (slice_get p.tasks t))

-- the body of the procedure, and the end of its call, which has opened the action of its object; behind it nothing is left to do
abbrev pub procedure_work : (object : ℕ) → Option Procedure → TaskWork
procedure_work object (Some q) = record { work = Goes (body_items q (EndsCall [] (Some object) []) []); own = activation_of q []; callers = outermost ∷ [] }
procedure_work object None = items_work []

abbrev pub handler_work : Program → Option Attached → TaskWork
handler_work p (Some a) = procedure_work a.object (procedure_among p.procedures (Some a.object) a.name)
handler_work p None = items_work []

-- by the numbers of tasks, and of the actors of channels beyond them
abbrev pub initial_work : Program → ℕ → TaskWork
initial_work p t = if nat_lt t (length p.tasks) then task_work p t else handler_work p (handler_at (t - length p.tasks) p.handlers)
