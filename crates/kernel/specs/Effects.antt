-- What a step of the running task asks of the kernel, what refuses it, and what comes of it.
use Rattle.std.specs.Prelude.{ℕ, zero, suc, List, [], ◌∷◌, ◌++◌, ℤ, pos, Option, Some, None, Bool, true, false, not, ◌&&◌, is_some, nat_lt, int_lt, if◌then◌else◌}
use Rattle.kernel.specs.State.{Partition, Interrupt, Kernel, IsQueued, IsServed, IsFinished, Action, Reads, Writes, Serves, Unhandled, ImageFault, is_task, put, active, is_object_open}
use Rattle.kernel.specs.Dispatching.{leaves, becomes_ready, dispatch}
use Rattle.kernel.specs.Interrupts.{delivers}
use Rattle.kernel.specs.Clock.{falls_asleep, released, clock}

-- `Says` writes a line; `Delays` is `delay until`, due or not; `Opens` and `Views` open an action, of a procedure or an entry and of a function;
-- `Queues` is an entry call with a closed barrier; `Ends` tells that the body which the innermost action runs is left, by its end or by an exception,
-- and whether the barrier is open then; `Finishes` and `Dies` leave the task's body; `Breaks` is an image fault
pub data Effect : Type 0 where
  Quiet Finishes Breaks : Effect
  Says : (label : List ℕ) (value : ℤ) → Effect
  Delays : (until : ℤ) → Effect
  Opens Views Queues : (object : ℕ) → Effect
  Ends : (is_open : Bool) → Effect
  Dies : (exception : ℕ) → Effect

-- The refusals, each of which raises Program_Error:
-- inside any action nothing may block: an entry call, a `delay until` (RM 9.5.1, H.5)
abbrev pub is_inside_any : Kernel → ℕ → Bool
is_inside_any k t = elim (k.actions t) [ [] ↦ false | a ∷ outer ↦ true ]

-- the caller's active priority exceeds the ceiling (RM D.3)
abbrev pub is_above_ceiling : Kernel → ℕ → ℕ → Bool
is_above_ceiling k t o = nat_lt (k.partition.ceiling o) (active k t)

pub data Refusal : Type 0 where
  SameObject AboveCeiling : Refusal

-- an external call by t of a procedure or function of o: the same object (RM 9.5.1) before the ceiling
abbrev pub call_refusal : Kernel → ℕ → ℕ → Option Refusal
call_refusal k t o = if is_object_open o (k.actions t) then Some SameObject else if is_above_ceiling k t o then Some AboveCeiling else None

-- an entry call that would queue finds another one queued (RM D.7)
abbrev pub is_full : Kernel → ℕ → Bool
is_full k o = is_some (k.queued o)

-- what comes of the end of a body: the action closes, or takes the queued call out and runs its body, or hands back to the caller that it has served and closes
pub data Ending : Type 0 where
  Closes : Ending
  TakesOver : (object caller : ℕ) → Ending
  HandsBack : (caller : ℕ) → Ending

abbrev pub service : Bool → ℕ → Option ℕ → Ending
service false o queued = Closes
service true o None = Closes
service true o (Some u) = TakesOver o u

-- a function serves nobody; a procedure or an entry serves the queued call where the barrier is open, once an action (RM 9.5.3)
abbrev pub ending_of : Bool → List Action → (ℕ → Option ℕ) → Ending
ending_of is_open [] queued = Closes
ending_of is_open (Reads o ∷ outer) queued = Closes
ending_of is_open (Writes o ∷ outer) queued = service is_open o (queued o)
ending_of is_open (Serves o u ∷ outer) queued = HandsBack u

abbrev pub outer_of : List Action → List Action
outer_of [] = []
outer_of (a ∷ outer) = outer

abbrev pub with_actions : ℕ → List Action → Kernel → Kernel
with_actions t actions k = record k { actions = put t actions k.actions }

-- the entry body of the queued call is run within the action (RM 9.5.3)
abbrev pub takes_over : ℕ → ℕ → ℕ → List Action → Kernel → Kernel
takes_over t o u outer k = record k { queued = put o None k.queued; place = put u (IsServed o) k.place; actions = put t (Serves o u ∷ outer) k.actions }

abbrev pub ends : ℕ → Ending → List Action → Kernel → Kernel
ends t Closes outer k = with_actions t outer k
ends t (TakesOver o u) outer k = takes_over t o u outer k
ends t (HandsBack u) outer k = becomes_ready u (released u (with_actions t outer k))

abbrev pub closes_last : List Action → Ending → Bool
closes_last [] Closes = true
closes_last [] (TakesOver o u) = false
closes_last [] (HandsBack u) = true
closes_last (a ∷ outer) e = false

-- whether the outermost action closes, of a procedure or an entry
abbrev pub is_last : List Action → Ending → Bool
is_last [] e = false
is_last (Reads o ∷ outer) e = false
is_last (Writes o ∷ outer) e = closes_last outer e
is_last (Serves o u ∷ outer) e = closes_last outer e

-- whether this end, of the innermost of t's open actions, is that of a handler: its own action closes
abbrev pub is_over : Partition → ℕ → List Action → Ending → Bool
is_over p t actions e = is_last actions e && not (is_task p t)

-- where a handler is over its actor is gone, and the next interrupt is delivered if its time has come, before any task runs
abbrev pub goes_if : Bool → ℕ → Kernel → Kernel
goes_if false t k = k
goes_if true t k = delivers k.pending (leaves t k)

-- a call is added to the entry queue (RM 9.5.3)
abbrev pub queues : ℕ → ℕ → Kernel → Kernel
queues t o k = record k { queued = put o (Some t) k.queued; place = put t (IsQueued o) k.place }

-- the effect alone; a `delay until` that is due puts its task at the tail of its list (RM D.2.3)
abbrev pub effect : ℕ → Effect → Kernel → Kernel
effect t Quiet k = k
effect t (Says label value) k = record k { lines = k.lines ++ record { time = k.now; task = t; label = label; value = value } ∷ [] }
effect t (Delays until) k = if int_lt k.now until then falls_asleep t until (leaves t k) else becomes_ready t (leaves t k)
effect t (Opens o) k = with_actions t (Writes o ∷ k.actions t) k
effect t (Views o) k = with_actions t (Reads o ∷ k.actions t) k
effect t (Queues o) k = queues t o (leaves t k)
effect t (Ends is_open) k =
    let e = ending_of is_open (k.actions t) k.queued in
    goes_if (is_over k.partition t (k.actions t) e) t (ends t e (outer_of (k.actions t)) k)
effect t Finishes k = leaves t k
effect t (Dies x) k = record k { outcome = Some (Unhandled x t) }
effect t Breaks k = record k { outcome = Some ImageFault }

-- what the effect does before a handler that is over goes
abbrev pub done : ℕ → Effect → Kernel → Kernel
done t (Ends is_open) k = ends t (ending_of is_open (k.actions t) k.queued) (outer_of (k.actions t)) k
done t Quiet k = effect t Quiet k
done t (Says label value) k = effect t (Says label value) k
done t (Delays until) k = effect t (Delays until) k
done t (Opens o) k = effect t (Opens o) k
done t (Views o) k = effect t (Views o) k
done t (Queues o) k = effect t (Queues o) k
done t Finishes k = effect t Finishes k
done t (Dies x) k = effect t (Dies x) k
done t Breaks k = effect t Breaks k

-- the effect, then dispatching, then the clock (RM D.2.1); after an unhandled exception or an image fault nothing more
abbrev pub after : ℕ → Effect → Kernel → Kernel
after t (Dies x) k = effect t (Dies x) k
after t Breaks k = effect t Breaks k
after t e k = clock (dispatch (effect t e k))

abbrev pub blank : Partition → List Interrupt → Kernel
blank p interrupts = record {
  partition = p;
  running = None;
  ready = λ h. [];
  sleepers = [];
  pending = interrupts;
  queued = λ o. None;
  actions = λ t. [];
  place = λ t. IsFinished;
  now = pos 0;
  lines = [];
  outcome = None;
}

-- the first n tasks become ready, in order
abbrev pub activated : ℕ → Kernel → Kernel
activated zero k = k
activated (suc n) k = becomes_ready n (activated n k)

-- at time 0 all tasks are ready in order of declaration, and dispatched (RM 9.2, H.6); interrupts are those of lines whose channel has a handler
abbrev pub begin : Partition → List Interrupt → Kernel
begin partition interrupts = clock (dispatch (activated partition.tasks (blank partition interrupts)))
