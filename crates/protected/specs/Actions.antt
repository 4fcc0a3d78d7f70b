-- Open protected actions, active priorities and queued calls (RM 9.5.1, 9.5.3, D.3).
use Rattle.std.specs.Prelude.{◌≡◌, ◌⊎◌, ◌<◌, ℕ, max, List, [], ◌∷◌, ◌++◌, length, set, take, get_or, slice_get, ◌-◌, Bool, true, false, nat_eq, nat_lt, Option, Some, None, Result, Ok, Err, if◌then◌else◌}
use Rattle.std.specs.List.{list_any}
use Rattle.base.specs.declared.limits.TheConstants.{ACTOR, CEILING, TASKS}
use Rattle.protected.specs.declared.refusal.Refusal.{Refusal}
use Rattle.protected.specs.declared.refusal.Refusal.TheVariants.{AboveCeiling, QueueFull, SameObject}

pub record Actions : Type 0 where
  -- the base priority of each task, and the ceiling priority of each object
  pub bases : List ℕ
  pub ceilings : List ℕ
  -- for each task, and last for the handler of an interrupt, the objects of its open actions, the innermost last
  pub opened : List (List ℕ)
  -- for each object the task whose call waits in its queue
  pub queued : List (Option ℕ)

-- the row of a task, or of the handler that runs, which has a number of its own
abbrev pub row_of : ℕ → ℕ
row_of task = if nat_eq task ACTOR then TASKS else task

-- one of the tasks, or the handler
abbrev pub IsTaskOrHandler : Actions → ℕ → Type 0
IsTaskOrHandler a task = (task < length a.bases) ⊎ (task ≡ ACTOR)

abbrev pub opened_by : Actions → ℕ → List ℕ
opened_by a task = get_or a.opened (row_of task) []

-- handlers have the highest base priority (RM C.3.1, D.3)
abbrev pub base_of : Actions → ℕ → ℕ
base_of a task = if nat_eq task ACTOR then CEILING else get_or a.bases task 0

abbrev pub queued_at : Actions → ℕ → Option ℕ
queued_at a object = get_or a.queued object None

abbrev pub ceiling_of : List ℕ → ℕ → ℕ
ceiling_of ceilings object = get_or ceilings object 0

-- the greatest of a base priority and the ceilings of open actions (RM D.3)
abbrev pub raised : List ℕ → ℕ → List ℕ → ℕ
raised ceilings base [] = base
raised ceilings base (object ∷ inner) = max (ceiling_of ceilings object) (raised ceilings base inner)

-- the active priority of a task (RM D.1)
abbrev pub active_of : Actions → ℕ → ℕ
active_of a task = raised a.ceilings (base_of a task) (opened_by a task)

abbrev pub is_among : ℕ → List ℕ → Bool
is_among object objects = list_any (λ o. nat_eq o object) objects

abbrev pub has_any : List ℕ → Bool
has_any [] = false
has_any (object ∷ objects) = true

-- whether a task may open an action of an object: it has none of that object open, and its active priority doesn't exceed the ceiling
abbrev pub opening : Actions → ℕ → ℕ → Result (Unit {0}) Refusal
opening a task object =
    if is_among object (opened_by a task) then Err SameObject
    else (if nat_lt (ceiling_of a.ceilings object) (active_of a task) then Err AboveCeiling else Ok tt)

-- whether a call may wait in a queue that has this one: there is room for one (RM D.7)
abbrev pub calling : Option ℕ → Result (Unit {0}) Refusal
calling None = Ok tt
calling (Some task) = Err QueueFull

-- the call that is served by this value of the barrier
abbrev pub served : Bool → Option ℕ → Option ℕ
served true call = call
served false call = None

-- with these open actions of a task, or with this call in the queue of an object
abbrev pub with_opened : ℕ → List ℕ → Actions → Actions
with_opened task objects a = record a { opened = set a.opened (row_of task) objects }

abbrev pub with_queued : ℕ → Option ℕ → Actions → Actions
with_queued object call a = record a { queued = set a.queued object call }

-- the innermost of open actions
abbrev pub innermost_of : List ℕ → Option ℕ
innermost_of objects = slice_get objects (length objects - 1)

abbrev pub IsInnermost : ℕ → List ℕ → Type 0
IsInnermost object objects = (outer : List ℕ) × (objects ≡ outer ++ object ∷ [])

abbrev pub without_last : List ℕ → List ℕ
without_last objects = take (length objects - 1) objects
