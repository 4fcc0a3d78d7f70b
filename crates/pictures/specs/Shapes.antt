-- What is drawn of an event of a trace.
use Rattle.std.specs.Prelude.{ℕ, Option, Some, None, Bool, true, false}
use Rattle.tracing.specs.declared.event.Event.{Event}
use Rattle.tracing.specs.declared.event.Event.TheVariants as events
use Rattle.pictures.specs.declared.ink.Ink.{Ink}
use Rattle.pictures.specs.declared.ink.Ink.TheVariants as inks
use Rattle.pictures.specs.declared.frame.Row.TheVariants.{Actor, Object}
use Rattle.pictures.specs.declared.shape.Detail.{Detail}
use Rattle.pictures.specs.declared.shape.Detail.TheVariants as details
use Rattle.pictures.specs.declared.shape.Shape.{Shape}

-- in the row of the task or handler of which it is
abbrev pub of_actor : ℕ → Ink → Detail → Option Shape
of_actor t ink detail = Some (record { row = Actor t; ink = ink; actor = t; detail = detail })

-- in the row of an object
abbrev pub of_object : (object : ℕ) → (actor : ℕ) → Ink → Option Shape
of_object o t ink = Some (record { row = Object o; ink = ink; actor = t; detail = details.Object o })

-- in which state a task is from there on
abbrev pub state_shape : Event → Option Shape
state_shape (events.Ready t) = of_actor t inks.Ready details.Nothing
state_shape (events.Wakes t) = of_actor t inks.Ready details.Nothing
state_shape (events.Returns t o) = of_actor t inks.Ready details.Nothing
state_shape (events.GivesWay t u) = of_actor t inks.Ready details.Nothing
state_shape (events.Preempted t u) = of_actor t inks.Ready details.Nothing
state_shape (events.Runs t p) = of_actor t inks.Running details.Nothing
state_shape (events.Waits t time a) = of_actor t inks.Delayed (details.Time time)
state_shape (events.Queues t o a) = of_actor t inks.Queued (details.Object o)
state_shape (events.Ends t) = of_actor t inks.Ended details.Nothing
state_shape event = None

-- what has happened to it
abbrev pub mark_shape : Event → Option Shape
mark_shape (events.Runs t p) = of_actor t inks.Ran details.Nothing
mark_shape (events.Preempted t u) = of_actor t inks.Preempted (details.Actor u)
mark_shape (events.Late t by a) = of_actor t inks.Late (details.Span by)
mark_shape (events.Refused t cause a) = of_actor t inks.Refused details.Nothing
mark_shape (events.Raises t x s a) = of_actor t inks.Raised (details.Exception x)
mark_shape (events.RaisesAtCall t x s a) = of_actor t inks.Raised (details.Exception x)
mark_shape (events.Unhandled t x) = of_actor t inks.Unhandled (details.Exception x)
mark_shape event = None

-- whether somebody is inside an object from there on, or a call waits at it
abbrev pub object_shape : Event → Option Shape
object_shape (events.Enters t o p a) = of_object o t inks.Entered
object_shape (events.Leaves t o p a) = of_object o t inks.Left
object_shape (events.Queues t o a) = of_object o t inks.Waits
object_shape (events.Served t o u) = of_object o t inks.Served
object_shape event = None

-- that it is used
abbrev pub use_shape : Event → Option Shape
use_shape (events.Enters t o p a) = of_object o t inks.Used
use_shape event = None

-- where an instant begins
abbrev pub begins_instant : Event → Bool
begins_instant events.ClockMoves = true
begins_instant event = false
