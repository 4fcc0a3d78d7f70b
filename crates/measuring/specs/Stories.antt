-- What happens to each task, which objects are called, and what each task does at each object, by the events of a trace and by open actions.
use Rattle.std.specs.Prelude.{ℕ, List, [], ◌∷◌, ℤ, Bool, true, false, ◌&&◌, Option, Some, None, nat_eq, nat_lt, if◌then◌else◌}
use Rattle.kernel.specs.State.{Action, is_object_open}
use Rattle.tracing.specs.declared.event.Event.{Event}
use Rattle.tracing.specs.declared.event.Event.TheVariants.{Ready, Runs, Preempted, Waits, Late, Wakes, Enters, Leaves, Queues, Returns, HasWaited, Ends}
use Rattle.measuring.specs.declared.happening.Call.{Call}
use Rattle.measuring.specs.declared.happening.Happening.{Happening}
use Rattle.measuring.specs.declared.happening.Happening.TheVariants as happens
use Rattle.measuring.specs.declared.happening.Notice.{Notice}
use Rattle.measuring.specs.declared.usage.Usage.{Usage}
use Rattle.measuring.specs.declared.usage.Usage.TheVariants as uses
use Rattle.measuring.specs.declared.usage.UsageNotice.{UsageNotice}

abbrev pub noticed : ℕ → Happening → Option Notice
noticed t happening = Some (record { task = t; happening = happening })

-- What an event of this time, after so many steps of the run, says of a task. A job begins where the task is ready at the start, where it wakes, and where
-- its queued call is over; that of a handler, whose number is beyond those of the tasks, where it runs (RM 9.2, 9.6, 9.5.3, C.3.1). A job is over where the
-- task waits for a time, where its call is queued, and where it ends (RM 9.6, 9.5.3, 9.3).
abbrev pub notice_of : (tasks : ℕ) (time : ℤ) (step : ℕ) → Event → Option Notice
notice_of tasks time step (Ready t) = noticed t (happens.Released time step)
notice_of tasks time step (Wakes t) = noticed t (happens.Released time step)
notice_of tasks time step (Returns t o) = noticed t (happens.Released time step)
notice_of tasks time step (Runs t p) = if nat_lt t tasks then None else noticed t (happens.Released time step)
notice_of tasks time step (Preempted t u) = noticed t happens.Preempted
notice_of tasks time step (HasWaited t o waited) = noticed t (happens.HasWaited waited)
notice_of tasks time step (Late t by a) = noticed t (happens.Late by)
notice_of tasks time step (Waits t until a) = noticed t happens.Rests
notice_of tasks time step (Queues t o a) = noticed t happens.Rests
notice_of tasks time step (Ends t) = noticed t happens.Rests
notice_of tasks time step event = None

-- what has happened to each task, the latest first
abbrev pub Stories : Type 0
Stories = ℕ → List Happening

abbrev pub nothing_happened : Stories
nothing_happened t = []

abbrev pub with_notice : Option Notice → Stories → Stories
with_notice None stories = stories
with_notice (Some notice) stories = λ t. if nat_eq t notice.task then notice.happening ∷ stories t else stories t

abbrev pub with_events : (tasks : ℕ) (time : ℤ) (step : ℕ) → List Event → Stories → Stories
with_events tasks time step [] stories = stories
with_events tasks time step (e ∷ events) stories = with_events tasks time step events (with_notice (notice_of tasks time step e) stories)

-- Calls of objects: a call opens an action, or waits in the queue of an entry (RM 9.5.1, 9.5.3)

abbrev pub call_of : Event → Option Call
call_of (Enters t o p a) = Some (record { object = o; is_queued = false })
call_of (Queues t o a) = Some (record { object = o; is_queued = true })
call_of event = None

-- of the calls of each object, whether they waited in the queue, the latest first
abbrev pub ObjectCalls : Type 0
ObjectCalls = ℕ → List Bool

abbrev pub not_called : ObjectCalls
not_called o = []

abbrev pub with_call : Option Call → ObjectCalls → ObjectCalls
with_call None calls = calls
with_call (Some call) calls = λ o. if nat_eq o call.object then call.is_queued ∷ calls o else calls o

abbrev pub with_calls : List Event → ObjectCalls → ObjectCalls
with_calls [] calls = calls
with_calls (e ∷ events) calls = with_calls events (with_call (call_of e) calls)

-- Use of objects: a task calls an object, takes steps inside it, and leaves it

abbrev pub used : (task object : ℕ) → Usage → Option UsageNotice
used t o usage = Some (record { task = t; object = o; usage = usage })

-- What an event says a task does at an object. Its action of an object is over where it leaves it, also where it is a handler that begins anew at once.
abbrev pub usage_of : Event → Option UsageNotice
usage_of (Enters t o p a) = used t o uses.Calls
usage_of (Queues t o a) = used t o uses.Calls
usage_of (Leaves t o p a) = used t o uses.Leaves
usage_of event = None

-- what each task has done at each object, the latest first
abbrev pub Usages : Type 0
Usages = (task object : ℕ) → List Usage

abbrev pub not_used : Usages
not_used t o = []

abbrev pub with_usage : Option UsageNotice → Usages → Usages
with_usage None usages = usages
with_usage (Some n) usages = λ t o. if nat_eq t n.task && nat_eq o n.object then n.usage ∷ usages t o else usages t o

abbrev pub with_usages : List Event → Usages → Usages
with_usages [] usages = usages
with_usages (e ∷ events) usages = with_usages events (with_usage (usage_of e) usages)

-- with a step of t, which had these actions open before it: it is taken inside their objects, of those numbered below `objects`
abbrev pub with_step_inside : (objects : ℕ) (actions : List Action) (t : ℕ) → Usages → Usages
with_step_inside objects actions t usages =
    λ u o. if nat_eq u t && (nat_lt o objects && is_object_open o actions) then uses.StepsInside ∷ usages u o else usages u o
