-- What the kernel's code holds, seen as the kernel. Beyond the tasks stand the actors of handlers, of which one at most is there, in a row of its own behind
-- those of tasks; beyond the objects ceilings are 0.
use Rattle.std.specs.Prelude.{ℕ, zero, suc, ℤ, List, [], ◌∷◌, ◌++◌, length, map, get_or, Bool, false, nat_eq, nat_lt, Option, Some, None, if◌then◌else◌}
use Rattle.base.specs.declared.limits.TheConstants.{CEILING, PRIORITIES, TASKS}
use Rattle.base.specs.declared.schedule.ScheduleLine.{ScheduleLine}
use Rattle.clock.specs.declared.delays.Sleeper.{Sleeper as Row}
use Rattle.protected.specs.Actions.{Actions, queued_at}
use Rattle.protected.specs.declared.refusal.Refusal.{Refusal as Refused}
use Rattle.protected.specs.declared.refusal.Refusal.TheVariants as refused
use Rattle.kernel.specs.State.{Partition, Interrupt, Kernel, TaskPlace, IsRunning, IsReady, IsAsleep, IsQueued, IsServed, IsFinished, Action, Reads, Writes, Serves}
use Rattle.kernel.specs.State.{Sleeper, Outcome, Ended, WaitsForever, ImageFault, Unhandled}
use Rattle.kernel.specs.Interrupts.{interrupts_of}
use Rattle.kernel.specs.Effects.{Ending, Closes, TakesOver, HandsBack, Refusal, SameObject, AboveCeiling}
use Rattle.tasking.specs.declared.reports.Place.{Place as Stand}
use Rattle.tasking.specs.declared.reports.Place.TheVariants as places
use Rattle.tasking.specs.declared.reports.Kind.{Kind}
use Rattle.tasking.specs.declared.reports.Kind.TheVariants as kinds
use Rattle.tasking.specs.declared.reports.Outcome.{Outcome as End}
use Rattle.tasking.specs.declared.reports.Outcome.TheVariants as outcomes
use Rattle.tasking.specs.declared.reports.Ending.{Ending as Left}
use Rattle.tasking.specs.declared.reports.Ending.TheVariants as endings

abbrev pub place_of : Stand → TaskPlace
place_of places.Running = IsRunning
place_of places.Ready = IsReady
place_of places.Asleep = IsAsleep
place_of (places.Queued o) = IsQueued o
place_of (places.Served o) = IsServed o
place_of places.Finished = IsFinished

abbrev pub place_at : List Stand → ℕ → TaskPlace
place_at stands t = place_of (get_or stands t places.Finished)

abbrev pub outcome_of : End → Outcome
outcome_of outcomes.Ended = Ended
outcome_of outcomes.WaitsForever = WaitsForever
outcome_of outcomes.ImageFault = ImageFault
outcome_of (outcomes.Unhandled x t) = Unhandled x t

abbrev pub some_outcome : Option End → Option Outcome
some_outcome None = None
some_outcome (Some e) = Some (outcome_of e)

abbrev pub ending_as : Left → Ending
ending_as endings.Closes = Closes
ending_as (endings.TakesOver o u) = TakesOver o u
ending_as (endings.HandsBack u) = HandsBack u

abbrev pub refused_as : Option Refusal → Option Refused
refused_as None = None
refused_as (Some SameObject) = Some refused.SameObject
refused_as (Some AboveCeiling) = Some refused.AboveCeiling

abbrev pub action_of : Kind → ℕ → Action
action_of kinds.Reads o = Reads o
action_of kinds.Writes o = Writes o
action_of (kinds.Serves u) o = Serves o u

-- open actions, innermost first, from their objects and their kinds, innermost last
abbrev pub actions_of : List ℕ → List Kind → List Action
actions_of [] ks = []
actions_of (o ∷ os) [] = []
actions_of (o ∷ os) (k ∷ ks) = actions_of os ks ++ action_of k o ∷ []

abbrev pub kinds_at : List (List Kind) → ℕ → List Kind
kinds_at ks t = get_or ks t []

abbrev pub innermost : List Action → Option Action
innermost [] = None
innermost (a ∷ outer) = Some a

abbrev pub some_action : Option (ℕ × Kind) → Option Action
some_action None = None
some_action (Some a) = Some (action_of a.1 a.0)

abbrev pub sleeper_of : Row → Sleeper
sleeper_of r = record { task = r.task; wake = r.wake }

abbrev pub sleepers_of : List Row → List Sleeper
sleepers_of rows = map sleeper_of rows

abbrev pub partition_of : List ℕ → List ℕ → Partition
partition_of bases ceilings = record { tasks = length bases; objects = length ceilings; base = λ t. get_or bases t CEILING; ceiling = λ o. get_or ceilings o 0 }

-- the lists of the first n priorities
unfoldable pub lists_below : ℕ → (ℕ → List ℕ) → List (List ℕ)
lists_below zero queues = []
lists_below (suc n) queues = lists_below n queues ++ queues n ∷ []

-- what is pending: those of the lines ahead whose channel has a handler, a procedure of the object in the channel's place
abbrev pub pending_of : List (Option ℕ) → List ScheduleLine → List Interrupt
pending_of attached ahead = interrupts_of (λ channel. get_or attached channel None) ahead

-- what is held: rows in place of the kernel's functions
pub record Held : Type 0 where
  pub running : Option ℕ
  -- the handler that runs, if one does
  pub handler : Option ℕ
  -- for each priority its list, the head first
  pub ready : List (List ℕ)
  pub sleepers : List Row
  pub objects : Actions
  -- for each task, and last for the handler, the kinds of its open actions, the innermost last
  pub kinds : List (List Kind)
  pub places : List Stand
  pub time : ℤ
  pub outcome : Option End
  -- for each channel the object whose procedure is its handler, and the lines of the schedule that were not passed
  pub attached : List (Option ℕ)
  pub ahead : List ScheduleLine

abbrev pub held_of : Option ℕ → Option ℕ → (ℕ → List ℕ) → List Row → Actions → List (List Kind) → List Stand → ℤ → Option End → List (Option ℕ)
    → List ScheduleLine → Held
held_of running handler queues sleepers objects kinds places time outcome attached ahead = record {
  running = running;
  handler = handler;
  ready = lists_below PRIORITIES queues;
  sleepers = sleepers;
  objects = objects;
  kinds = kinds;
  places = places;
  time = time;
  outcome = outcome;
  attached = attached;
  ahead = ahead;
}

-- the row of a task, or of the handler
abbrev pub index_in : Held → ℕ → ℕ
index_in h u = if nat_lt u (length h.objects.bases) then u else TASKS

abbrev pub row_actions : Held → ℕ → List Action
row_actions h row = actions_of (get_or h.objects.opened row []) (kinds_at h.kinds row)

abbrev pub is_handler : Option ℕ → ℕ → Bool
is_handler None u = false
is_handler (Some a) u = nat_eq u a

abbrev pub actions_at : Held → ℕ → List Action
actions_at h u = if nat_lt u (length h.objects.bases) then row_actions h u else (if is_handler h.handler u then row_actions h TASKS else [])

abbrev pub stands_at : Held → ℕ → TaskPlace
stands_at h u = if nat_lt u (length h.objects.bases) then place_at h.places u else (if is_handler h.handler u then IsRunning else IsFinished)

-- the kernel without its lines, which are the caller's
abbrev pub kernel_of : Held → Kernel
kernel_of h = record {
  partition = partition_of h.objects.bases h.objects.ceilings;
  running = h.running;
  ready = λ p. get_or h.ready p [];
  sleepers = sleepers_of h.sleepers;
  pending = pending_of h.attached h.ahead;
  queued = queued_at h.objects;
  actions = λ u. actions_at h u;
  place = λ u. stands_at h u;
  now = h.time;
  lines = [];
  outcome = some_outcome h.outcome;
}
