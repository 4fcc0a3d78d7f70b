-- What dispatching and the clock leave as it is; lines are only added.
use Rattle.std.proofs.Common.{◌≡◌, ℕ, ◌<◌, ℤ, List, [], ◌∷◌, ◌++◌, Option, Some, None, Bool, true, false, refl, sym, ap, ◌∙◌, subst, ltb, arith}
use Rattle.std.proofs.lemmas.List.{append-nil}
use Rattle.std.specs.Prelude.{int_lt}
use Rattle.kernel.specs.State.{Interrupt, Kernel, Sleeper, Line, Action, Reads, Writes, Serves, actor, active}
use Rattle.kernel.specs.Dispatching.{becomes_ready, leaves, runs_head, runs_from, preempted, preempts, dispatch_from, dispatch, highest}
use Rattle.base.specs.declared.limits.TheConstants.{PRIORITIES}
use Rattle.kernel.specs.Interrupts.{starts, delivers}
use Rattle.kernel.specs.Clock.{falls_asleep, released, wakes_if_due, wakes_due, next, time_moves, clock_from, clock}
use Rattle.kernel.specs.Effects.{Quiet, Says, Delays, Opens, Views, Queues, Ends, Finishes, Dies, Breaks, service, ending_of, outer_of, ends, is_over, goes_if, effect}
use Rattle.kernel.specs.Laws.{Unmoved, LeftUnmoved, LinesGrow}
use Rattle.kernel.specs.PutLaws.{put_other}
use Rattle.kernel.proofs.Lists.{either}

-- what dispatching and waking leave
pub record Alike (l k : Kernel) : Type 0 where
  pub partition : l.partition ≡ k.partition
  pub queued : l.queued ≡ k.queued
  pub actions : l.actions ≡ k.actions
  pub lines : l.lines ≡ k.lines
  pub now : l.now ≡ k.now
  pub pending : l.pending ≡ k.pending

same : (k : Kernel) → Alike k k
same k = record { partition = refl; queued = refl; actions = refl; lines = refl; now = refl; pending = refl }

then : (a b c : Kernel) → Alike a b → Alike b c → Alike a c
then a b c h i = record {
  partition = h.partition ∙ i.partition;
  queued = h.queued ∙ i.queued;
  actions = h.actions ∙ i.actions;
  lines = h.lines ∙ i.lines;
  now = h.now ∙ i.now;
  pending = h.pending ∙ i.pending;
}

head_alike : (l : List ℕ) (h : ℕ) (k : Kernel) → Alike (runs_head l h k) k
head_alike [] h k = same k
head_alike (t ∷ ts) h k = record { partition = refl; queued = refl; actions = refl; lines = refl; now = refl; pending = refl }

from_alike : (o : Option ℕ) (k : Kernel) → Alike (runs_from o k) k
from_alike None k = same k
from_alike (Some h) k = head_alike (k.ready h) h k

preempts_alike : (t : ℕ) (o : Option ℕ) (k : Kernel) → Alike (preempts t o k) k
preempts_alike t None k = same k
preempts_alike t (Some h) k =
    let there : Alike (preempted t k) k = record { partition = refl; queued = refl; actions = refl; lines = refl; now = refl; pending = refl } in
    either (λ l. Alike l k) (ltb (active k t) h) (runs_from (Some h) (preempted t k)) k
    (then (runs_from (Some h) (preempted t k)) (preempted t k) k (from_alike (Some h) (preempted t k)) there)
    (same k)

dispatch_alike_at : (r : Option ℕ) (k : Kernel) → Alike (dispatch_from r k) k
dispatch_alike_at None k = from_alike (highest k.ready PRIORITIES) k
dispatch_alike_at (Some t) k = preempts_alike t (highest k.ready PRIORITIES) k

pub dispatch_alike : (k : Kernel) → Alike (dispatch k) k
dispatch_alike k = dispatch_alike_at k.running k

wakes_alike : (x : Sleeper) (k : Kernel) → Alike (wakes_if_due x k) k
wakes_alike x k =
    either (λ l. Alike l k) (int_lt k.now x.wake) (record k { sleepers = k.sleepers ++ x ∷ [] }) (becomes_ready x.task (released x.task k))
    (record { partition = refl; queued = refl; actions = refl; lines = refl; now = refl; pending = refl })
    (record { partition = refl; queued = refl; actions = refl; lines = refl; now = refl; pending = refl })

pub woken_alike : (ss : List Sleeper) (k : Kernel) → Alike (wakes_due ss k) k
woken_alike [] k = same k
woken_alike (x ∷ ss) k = then (wakes_due ss (wakes_if_due x k)) (wakes_if_due x k) k (woken_alike ss (wakes_if_due x k)) (wakes_alike x k)

-- an interrupt opens the action of its handler alone

unmoved : (l k : Kernel) → Alike l k → Unmoved l k
unmoved l k a = record { partition = a.partition; queued = a.queued; actions = λ t lt. ap (λ f. f t) a.actions; lines = a.lines }

after_that : (a b c : Kernel) → Unmoved a b → Unmoved b c → Unmoved a c
after_that a b c h i = record {
  partition = h.partition ∙ i.partition;
  queued = h.queued ∙ i.queued;
  actions = λ t lt. h.actions t (subst (λ p. t < p.tasks) (sym i.partition) lt) ∙ i.actions t lt;
  lines = h.lines ∙ i.lines;
}

starts_unmoved : (i : Interrupt) (is : List Interrupt) (k : Kernel) → Unmoved (starts i (record k { pending = is })) k
starts_unmoved i is k = record {
  partition = refl;
  queued = refl;
  actions = λ t lt. put_other (actor k.partition i.channel) t (Writes i.object ∷ []) k.actions (λ e. omega arith);
  lines = refl;
}

pub delivers_unmoved : (is : List Interrupt) (k : Kernel) → Unmoved (delivers is k) k
delivers_unmoved [] k = unmoved k k (same k)
delivers_unmoved (i ∷ is) k =
    either (λ l. Unmoved l k) (int_lt k.now i.time) k (starts i (record k { pending = is })) (unmoved k k (same k)) (starts_unmoved i is k)

time_unmoved : (o : Option ℤ) (k : Kernel) → Unmoved (time_moves o k) k
time_unmoved None k = record { partition = refl; queued = refl; actions = λ t lt. refl; lines = refl }
time_unmoved (Some n) k =
    let k' : Kernel = record k { now = n; sleepers = [] } in
    let w = wakes_due k.sleepers k' in
    let l = delivers w.pending w in
    let start : Unmoved k' k = record { partition = refl; queued = refl; actions = λ t lt. refl; lines = refl } in
    after_that (dispatch l) l k (unmoved (dispatch l) l (dispatch_alike l))
    (after_that l w k (delivers_unmoved w.pending w) (after_that w k' k (unmoved w k' (woken_alike k.sleepers k')) start))

clock_unmoved_at : (r : Option ℕ) (k : Kernel) → Unmoved (clock_from r k) k
clock_unmoved_at (Some t) k = unmoved k k (same k)
clock_unmoved_at None k = time_unmoved (next k) k

pub left_unmoved : LeftUnmoved
left_unmoved k =
    after_that (clock (dispatch k)) (dispatch k) k (clock_unmoved_at (dispatch k).running (dispatch k)) (unmoved (dispatch k) k (dispatch_alike k))

-- lines

goes_lines : (t : ℕ) (c : Bool) (k : Kernel) → (goes_if c t k).lines ≡ k.lines
goes_lines t false k = refl
goes_lines t true k = (delivers_unmoved k.pending (leaves t k)).lines

service_lines : (t o : ℕ) (is_open : Bool) (q : Option ℕ) (outer : List Action) (k : Kernel) → (ends t (service is_open o q) outer k).lines ≡ k.lines
service_lines t o false q outer k = refl
service_lines t o true None outer k = refl
service_lines t o true (Some u) outer k = refl

ends_lines : (t : ℕ) (is_open : Bool) (l : List Action) (k : Kernel) → (ends t (ending_of is_open l k.queued) (outer_of l) k).lines ≡ k.lines
ends_lines t is_open [] k = refl
ends_lines t is_open (Reads o ∷ outer) k = refl
ends_lines t is_open (Writes o ∷ outer) k = service_lines t o is_open (k.queued o) outer k
ends_lines t is_open (Serves o u ∷ outer) k = refl

none_more : (l k : Kernel) → l.lines ≡ k.lines → (more : List Line) × ((clock (dispatch l)).lines ≡ k.lines ++ more)
none_more l k e = ([], (left_unmoved l).lines ∙ (e ∙ sym (append-nil k.lines)))

pub lines_grow : LinesGrow
lines_grow t Quiet k = none_more k k refl
lines_grow t (Says label value) k =
    (record { time = k.now; task = t; label = label; value = value } ∷ [], (left_unmoved (effect t (Says label value) k)).lines)
lines_grow t (Delays until) k =
    none_more (effect t (Delays until) k) k
    (either (λ l. l.lines ≡ k.lines) (int_lt k.now until) (falls_asleep t until (leaves t k)) (becomes_ready t (leaves t k)) refl refl)
lines_grow t (Opens o) k = none_more (effect t (Opens o) k) k refl
lines_grow t (Views o) k = none_more (effect t (Views o) k) k refl
lines_grow t (Queues o) k = none_more (effect t (Queues o) k) k refl
lines_grow t (Ends is_open) k =
    let e = ending_of is_open (k.actions t) k.queued in
    let l = ends t e (outer_of (k.actions t)) k in
    none_more (effect t (Ends is_open) k) k (goes_lines t (is_over k.partition t (k.actions t) e) l ∙ ends_lines t is_open (k.actions t) k)
lines_grow t Finishes k = none_more (effect t Finishes k) k refl
lines_grow t (Dies x) k = ([], sym (append-nil k.lines))
lines_grow t Breaks k = ([], sym (append-nil k.lines))
