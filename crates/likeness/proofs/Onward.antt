-- Time never goes back in a run, whatever takes its steps: no sleeper wakes, and no interrupt is pending, before now.
use Rattle.std.proofs.Common.{◌≡◌, ℕ, zero, suc, ℤ, pos, List, [], ◌∷◌, ◌++◌, Option, Some, None, Bool, true, false, refl, sym, ap, ◌∙◌, subst, arith}
use Rattle.std.specs.Prelude.{◌&&◌, int_le, int_lt, length, nat_le, nat_lt}
use Rattle.std.proofs.lemmas.Bool.{and_from, and_parts, cond_both}
use Rattle.std.proofs.lemmas.Int.{ints}
use Rattle.base.specs.Schedule.{are_lines, are_ordered_from, is_schedule}
use Rattle.base.specs.declared.schedule.ScheduleLine.{ScheduleLine}
use Rattle.base.specs.declared.limits.TheConstants.{PRIORITIES, SCHEDULE_LINES}
use Rattle.kernel.specs.State.{Interrupt, Kernel, Outcome, Partition, Sleeper, active}
use Rattle.kernel.specs.Dispatching.{becomes_ready, dispatch, dispatch_from, highest, leaves, preempted, preempts, runs_from, runs_head}
use Rattle.kernel.specs.Interrupts.{delivers, interrupts_of, starts}
use Rattle.kernel.specs.Clock.{clock, clock_from, falls_asleep, least, next, next_time, released, some_queued, time_moves, wakes_due, wakes_if_due}
use Rattle.kernel.specs.Effects.{Breaks, Closes, Delays, Dies, Effect, Ending, Ends, Finishes, HandsBack, Opens, Queues, Quiet, Says, TakesOver, Views, activated, after, begin, blank, effect, ending_of, ends, goes_if, is_over, outer_of}
use Rattle.kernel.specs.Worlds.{Local, World, run, step, step_of}
use Rattle.kernel.specs.Laws.{are_in_order}
use Rattle.kernel.proofs.Order.{interrupts_in_order}

le_self : (a : ℤ) → int_le a a ≡ true
le_self a = grind (arith, ints)

pub le_through : (a b c : ℤ) → int_le a b ≡ true → int_le b c ≡ true → int_le a c ≡ true
le_through a b c h i = grind (arith, ints)

lt_le : (a b : ℤ) → int_lt a b ≡ true → int_le a b ≡ true
lt_le a b h = grind (arith, ints)

pub le_both : (a b : ℤ) → int_le a b ≡ true → int_le b a ≡ true → a ≡ b
le_both a b h i = grind (arith, ints)

-- these wake at this time or later
abbrev WakeFrom : ℤ → List Sleeper → Type 0
WakeFrom time [] = Unit {0}
WakeFrom time (s ∷ ss) = (int_le time s.wake ≡ true) × WakeFrom time ss

-- nobody wakes before now, and the pending interrupts are in order, none of them before now
pub record IsAhead (k : Kernel) : Type 0 where
  pub sleepers : WakeFrom k.now k.sleepers
  pub pending : are_in_order k.now k.pending ≡ true

-- from one kernel to another time doesn't go back
pub record Onward (k l : Kernel) : Type 0 where
  pub now : int_le k.now l.now ≡ true
  pub ahead : IsAhead l

onward_then : (a b c : Kernel) → Onward a b → Onward b c → Onward a c
onward_then a b c h i = record { now = le_through a.now b.now c.now h.now i.now; ahead = i.ahead }

stays : (k : Kernel) → IsAhead k → Onward k k
stays k h = record { now = le_self k.now; ahead = h }

-- ---- what leaves the times as they are

pub record SameTimes (k l : Kernel) : Type 0 where
  pub now : l.now ≡ k.now
  pub sleepers : l.sleepers ≡ k.sleepers
  pub pending : l.pending ≡ k.pending

times_same : (k : Kernel) → SameTimes k k
times_same k = record { now = refl; sleepers = refl; pending = refl }

by_times : (k l : Kernel) → SameTimes k l → IsAhead k → Onward k l
by_times k l same h = record {
  now = subst (λ z. int_le k.now z ≡ true) (sym same.now) (le_self k.now);
  ahead = record {
    sleepers = subst (λ ss. WakeFrom l.now ss) (sym same.sleepers) (subst (λ z. WakeFrom z k.sleepers) (sym same.now) h.sleepers);
    pending = ap (λ is. are_in_order l.now is) same.pending ∙ (ap (λ z. are_in_order z k.pending) same.now ∙ h.pending);
  };
}

head_same : (ts : List ℕ) (h : ℕ) (k : Kernel) → SameTimes k (runs_head ts h k)
head_same [] h k = times_same k
head_same (t ∷ ts) h k = record { now = refl; sleepers = refl; pending = refl }

from_same : (o : Option ℕ) (k : Kernel) → SameTimes k (runs_from o k)
from_same None k = times_same k
from_same (Some h) k = head_same (k.ready h) h k

preempts_same : (t : ℕ) (o : Option ℕ) (k : Kernel) → SameTimes k (preempts t o k)
preempts_same t None k = times_same k
preempts_same t (Some h) k =
    let same = from_same (Some h) (preempted t k) in
    cond_both (nat_lt (active k t) h) (runs_from (Some h) (preempted t k)) k (λ l. SameTimes k l)
    (λ higher. record { now = same.now; sleepers = same.sleepers; pending = same.pending })
    (λ lower. times_same k)

pub dispatch_same : (r : Option ℕ) (k : Kernel) → SameTimes k (dispatch_from r k)
dispatch_same None k = from_same (highest k.ready PRIORITIES) k
dispatch_same (Some t) k = preempts_same t (highest k.ready PRIORITIES) k

pub dispatch_onward : (k : Kernel) → IsAhead k → Onward k (dispatch k)
dispatch_onward k h = by_times k (dispatch k) (dispatch_same k.running k) h

-- ---- the clock

wake_behind : (time : ℤ) (ss : List Sleeper) (s : Sleeper) → WakeFrom time ss → int_le time s.wake ≡ true → WakeFrom time (ss ++ s ∷ [])
wake_behind time [] s h le = (le, tt)
wake_behind time (x ∷ ss) s h le = (h.0, wake_behind time ss s h.1 le)

wakes_one : (s : Sleeper) (k : Kernel) → IsAhead k → Onward k (wakes_if_due s k)
wakes_one s k h =
    cond_both (int_lt k.now s.wake) (record k { sleepers = k.sleepers ++ s ∷ [] }) (becomes_ready s.task (released s.task k)) (λ l. Onward k l)
    (λ later. record {
      now = le_self k.now;
      ahead = record { sleepers = wake_behind k.now k.sleepers s h.sleepers (lt_le k.now s.wake later); pending = h.pending };
    })
    (λ due. record { now = le_self k.now; ahead = record { sleepers = h.sleepers; pending = h.pending } })

wakes_all : (ss : List Sleeper) (k : Kernel) → IsAhead k → Onward k (wakes_due ss k)
wakes_all [] k h = stays k h
wakes_all (s ∷ ss) k h =
    let one = wakes_one s k h in
    onward_then k (wakes_if_due s k) (wakes_due ss (wakes_if_due s k)) one (wakes_all ss (wakes_if_due s k) one.ahead)

order_parts : (time : ℤ) (i : Interrupt) (is : List Interrupt) → are_in_order time (i ∷ is) ≡ true
    → (int_le time i.time ≡ true) × (are_in_order i.time is ≡ true)
order_parts time i is h = and_parts (int_le time i.time) (are_in_order i.time is) h

in_order_from : (time : ℤ) (i : Interrupt) (is : List Interrupt) → int_le time i.time ≡ true → are_in_order i.time is ≡ true
    → are_in_order time (i ∷ is) ≡ true
in_order_from time i is le h = and_from (int_le time i.time) (are_in_order i.time is) le h

-- what is in order from a time is so from an earlier one
from_earlier : (a b : ℤ) (is : List Interrupt) → int_le a b ≡ true → are_in_order b is ≡ true → are_in_order a is ≡ true
from_earlier a b [] le h = refl
from_earlier a b (i ∷ is) le h =
    let both = order_parts b i is h in
    in_order_from a i is (le_through a b i.time le both.0) both.1

delivers_onward : (is : List Interrupt) (k : Kernel) → k.pending ≡ is → IsAhead k → Onward k (delivers is k)
delivers_onward [] k e h = stays k h
delivers_onward (i ∷ is) k e h =
    let both = order_parts k.now i is (ap (are_in_order k.now) (sym e) ∙ h.pending) in
    cond_both (int_lt k.now i.time) k (starts i (record k { pending = is })) (λ l. Onward k l)
    (λ later. stays k h)
    (λ due. record { now = le_self k.now; ahead = record { sleepers = h.sleepers; pending = from_earlier k.now i.time is both.0 both.1 } })

least_from : (now time : ℤ) (ss : List Sleeper) → int_le now time ≡ true → WakeFrom now ss → int_le now (least time ss) ≡ true
least_from now time [] le h = le
least_from now time (s ∷ ss) le h =
    cond_both (int_lt s.wake time) (least s.wake ss) (least time ss) (λ z. int_le now z ≡ true)
    (λ earlier. least_from now s.wake ss h.0 h.1)
    (λ later. least_from now time ss le h.1)

least_low : (time : ℤ) (ss : List Sleeper) → int_le (least time ss) time ≡ true
least_low time [] = le_self time
least_low time (s ∷ ss) =
    cond_both (int_lt s.wake time) (least s.wake ss) (least time ss) (λ z. int_le z time ≡ true)
    (λ earlier. le_through (least s.wake ss) s.wake time (least_low s.wake ss) (lt_le s.wake time earlier))
    (λ later. least_low time ss)

-- the next time at which something is to come is not before now, and the pending interrupts are in order from there
record IsNext (now time : ℤ) (is : List Interrupt) : Type 0 where
  later : int_le now time ≡ true
  pending : are_in_order time is ≡ true

same_time : (a b : ℤ) → Some a ≡ Some b → a ≡ b
same_time a b e = cc

is_next : (ss : List Sleeper) (is : List Interrupt) (is_queued : Bool) (time now : ℤ) → next_time ss is is_queued ≡ Some time
    → WakeFrom now ss → are_in_order now is ≡ true → IsNext now time is
is_next [] [] is_queued time now e w o = absurd cc
is_next [] (i ∷ is) true time now e w o =
    let both = order_parts now i is o in
    subst (λ z. IsNext now z (i ∷ is)) (same_time i.time time e)
    (record { later = both.0; pending = in_order_from i.time i is (le_self i.time) both.1 })
is_next [] (i ∷ is) false time now e w o = absurd cc
is_next (s ∷ ss) [] is_queued time now e w o =
    subst (λ z. IsNext now z []) (same_time (least s.wake ss) time e) (record { later = least_from now s.wake ss w.0 w.1; pending = refl })
is_next (s ∷ ss) (i ∷ is) is_queued time now e w o =
    let both = order_parts now i is o in
    subst (λ z. IsNext now z (i ∷ is)) (same_time (least i.time (s ∷ ss)) time e)
    (record {
      later = least_from now i.time (s ∷ ss) both.0 w;
      pending = in_order_from (least i.time (s ∷ ss)) i is (least_low i.time (s ∷ ss)) both.1;
    })

moves_onward : (o : Option ℤ) (k : Kernel) → next k ≡ o → IsAhead k → Onward k (time_moves o k)
moves_onward None k e h = record { now = le_self k.now; ahead = record { sleepers = h.sleepers; pending = h.pending } }
moves_onward (Some time) k e h =
    let moved : Kernel = record k { now = time; sleepers = [] } in
    let there = is_next k.sleepers k.pending (some_queued k.queued k.partition.objects) time k.now e h.sleepers h.pending in
    let first : Onward k moved = record { now = there.later; ahead = record { sleepers = tt; pending = there.pending } } in
    let woken : Kernel = wakes_due k.sleepers moved in
    let awake : Onward moved woken = wakes_all k.sleepers moved first.ahead in
    let delivered : Kernel = delivers woken.pending woken in
    let given : Onward woken delivered = delivers_onward woken.pending woken refl awake.ahead in
    onward_then k moved (dispatch delivered) first
    (onward_then moved woken (dispatch delivered) awake
    (onward_then woken delivered (dispatch delivered) given (dispatch_onward delivered given.ahead)))

clock_onward_at : (r : Option ℕ) (k : Kernel) → IsAhead k → Onward k (clock_from r k)
clock_onward_at (Some t) k h = stays k h
clock_onward_at None k h = moves_onward (next k) k refl h

finish_onward : (k l : Kernel) → Onward k l → Onward k (clock (dispatch l))
finish_onward k l h =
    let d = dispatch_onward l h.ahead in
    onward_then k l (clock (dispatch l)) h
    (onward_then l (dispatch l) (clock (dispatch l)) d (clock_onward_at (dispatch l).running (dispatch l) d.ahead))

-- ---- effects

ends_same : (t : ℕ) (e : Ending) (k : Kernel) → SameTimes k (ends t e (outer_of (k.actions t)) k)
ends_same t Closes k = record { now = refl; sleepers = refl; pending = refl }
ends_same t (TakesOver o u) k = record { now = refl; sleepers = refl; pending = refl }
ends_same t (HandsBack u) k = record { now = refl; sleepers = refl; pending = refl }

goes_onward : (is_over : Bool) (t : ℕ) (k : Kernel) → IsAhead k → Onward k (goes_if is_over t k)
goes_onward false t k h = stays k h
goes_onward true t k h =
    let gone : Onward k (leaves t k) = by_times k (leaves t k) (record { now = refl; sleepers = refl; pending = refl }) h in
    onward_then k (leaves t k) (delivers k.pending (leaves t k)) gone (delivers_onward k.pending (leaves t k) refl gone.ahead)

delays_onward : (t : ℕ) (until : ℤ) (k : Kernel) → IsAhead k → Onward k (effect t (Delays until) k)
delays_onward t until k h =
    cond_both (int_lt k.now until) (falls_asleep t until (leaves t k)) (becomes_ready t (leaves t k)) (λ l. Onward k l)
    (λ later. record {
      now = le_self k.now;
      ahead = record {
        sleepers = wake_behind k.now k.sleepers (record { task = t; wake = until }) h.sleepers (lt_le k.now until later);
        pending = h.pending;
      };
    })
    (λ due. by_times k (becomes_ready t (leaves t k)) (record { now = refl; sleepers = refl; pending = refl }) h)

ends_onward : (t : ℕ) (is_open : Bool) (k : Kernel) → IsAhead k → Onward k (effect t (Ends is_open) k)
ends_onward t is_open k h =
    let e = ending_of is_open (k.actions t) k.queued in
    let l : Kernel = ends t e (outer_of (k.actions t)) k in
    let ended : Onward k l = by_times k l (ends_same t e k) h in
    onward_then k l (effect t (Ends is_open) k) ended (goes_onward (is_over k.partition t (k.actions t) e) t l ended.ahead)

pub after_onward : (t : ℕ) (e : Effect) (k : Kernel) → IsAhead k → Onward k (after t e k)
after_onward t (Dies x) k h = by_times k (effect t (Dies x) k) (record { now = refl; sleepers = refl; pending = refl }) h
after_onward t Breaks k h = by_times k (effect t Breaks k) (record { now = refl; sleepers = refl; pending = refl }) h
after_onward t Quiet k h = finish_onward k k (stays k h)
after_onward t (Says label value) k h =
    let l : Kernel = effect t (Says label value) k in
    finish_onward k l (by_times k l (record { now = refl; sleepers = refl; pending = refl }) h)
after_onward t (Delays until) k h = finish_onward k (effect t (Delays until) k) (delays_onward t until k h)
after_onward t (Opens o) k h =
    let l : Kernel = effect t (Opens o) k in
    finish_onward k l (by_times k l (record { now = refl; sleepers = refl; pending = refl }) h)
after_onward t (Views o) k h =
    let l : Kernel = effect t (Views o) k in
    finish_onward k l (by_times k l (record { now = refl; sleepers = refl; pending = refl }) h)
after_onward t (Queues o) k h =
    let l : Kernel = effect t (Queues o) k in
    finish_onward k l (by_times k l (record { now = refl; sleepers = refl; pending = refl }) h)
after_onward t (Ends is_open) k h = finish_onward k (effect t (Ends is_open) k) (ends_onward t is_open k h)
after_onward t Finishes k h =
    let l : Kernel = effect t Finishes k in
    finish_onward k l (by_times k l (record { now = refl; sleepers = refl; pending = refl }) h)

-- ---- runs

pub step_onward : {D : Type 0} (f : Local D) (k : Kernel) (d : D) (o : Option Outcome) (r : Option ℕ) → IsAhead k → Onward k (step_of f k d o r).kernel
step_onward f k d (Some o) r h = stays k h
step_onward f k d None None h = stays k h
step_onward f k d None (Some t) h = after_onward t (f k t d).effect k h

pub run_onward : {D : Type 0} (f : Local D) (n : ℕ) (w : World D) → IsAhead w.kernel → Onward w.kernel (run f n w).kernel
run_onward f zero w h = stays w.kernel h
run_onward f (suc n) w h =
    let one = step_onward f w.kernel w.rest w.kernel.outcome w.kernel.running h in
    onward_then w.kernel (step f w).kernel (run f n (step f w)).kernel one (run_onward f n (step f w) one.ahead)

-- ---- the start

activated_same : (n : ℕ) (k : Kernel) → SameTimes k (activated n k)
activated_same zero k = times_same k
activated_same (suc n) k =
    let same = activated_same n k in
    record { now = same.now; sleepers = same.sleepers; pending = same.pending }

ordered_of : (a b c : Bool) → (a && b && c) ≡ true → c ≡ true
ordered_of true true c h = h
ordered_of true false c h = absurd cc
ordered_of false b c h = absurd cc

-- under a schedule the start is so
pub begins_ahead : (p : Partition) (attached : ℕ → Option ℕ) (schedule : List ScheduleLine) → is_schedule schedule ≡ true
    → IsAhead (begin p (interrupts_of attached schedule))
begins_ahead p attached schedule ok =
    let first : Kernel = blank p (interrupts_of attached schedule) in
    let ordered : are_ordered_from (pos 0) schedule ≡ true =
    ordered_of (nat_le (length schedule) SCHEDULE_LINES) (are_lines schedule) (are_ordered_from (pos 0) schedule) ok in
    let ahead : IsAhead first = record { sleepers = tt; pending = interrupts_in_order attached (pos 0) schedule ordered } in
    let all = by_times first (activated p.tasks first) (activated_same p.tasks first) ahead in
    (finish_onward first (activated p.tasks first) all).ahead
