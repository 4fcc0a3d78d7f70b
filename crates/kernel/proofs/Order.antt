-- Interrupts stay in the order of their times, and the clock passes none.
use Rattle.std.proofs.Common.{◌≡◌, ℕ, zero, suc, ℤ, List, [], ◌∷◌, Option, Some, None, Bool, true, false, refl, sym, ap, ◌∙◌, subst, arith}
use Rattle.std.specs.Prelude.{int_le, int_lt}
use Rattle.std.proofs.lemmas.Bool.{and_from, and_parts, cond_both}
use Rattle.std.proofs.lemmas.Int.{ints}
use Rattle.base.specs.declared.schedule.ScheduleLine.{ScheduleLine}
use Rattle.base.specs.Schedule.{are_ordered_from}
use Rattle.kernel.specs.State.{Action, Interrupt, Kernel, Sleeper}
use Rattle.kernel.specs.Dispatching.{becomes_ready, dispatch, leaves}
use Rattle.kernel.specs.Interrupts.{delivers, interrupt_if, interrupts_of, starts}
use Rattle.kernel.specs.Clock.{falls_asleep, least, next, next_time, some_queued, time_moves, clock_from, clock, wakes_due}
use Rattle.kernel.specs.Effects.{Effect, Quiet, Says, Delays, Opens, Views, Queues, Ends, Finishes, Dies, Breaks, Ending, Closes, TakesOver, HandsBack, activated, after, blank, effect, ending_of, ends, goes_if, is_over, outer_of}
use Rattle.kernel.specs.Laws.{Starts, Goes, NonePassed, SchedulesInOrder, are_in_order}
use Rattle.kernel.proofs.Lists.{either}
use Rattle.kernel.proofs.Unmoved.{dispatch_alike, woken_alike}

le_self : (a : ℤ) → int_le a a ≡ true
le_self a = grind (arith, ints)

le_through : (a b c : ℤ) → int_le a b ≡ true → int_le b c ≡ true → int_le a c ≡ true
le_through a b c h i = grind (arith, ints)

-- what is in order from a time is so from an earlier one
from_earlier : (a b : ℤ) (is : List Interrupt) → int_le a b ≡ true → are_in_order b is ≡ true → are_in_order a is ≡ true
from_earlier a b [] le o = refl
from_earlier a b (i ∷ is) le o =
    let both = and_parts (int_le b i.time) (are_in_order i.time is) o in
    and_from (int_le a i.time) (are_in_order i.time is) (le_through a b i.time le both.0) both.1

in_order_if : (handled : Option ℕ) (time : ℤ) (l : ScheduleLine) (rest : List Interrupt) → int_le time l.time ≡ true → are_in_order l.time rest ≡ true
    → are_in_order time (interrupt_if handled l rest) ≡ true
in_order_if None time l rest le o = from_earlier time l.time rest le o
in_order_if (Some object) time l rest le o = and_from (int_le time l.time) (are_in_order l.time rest) le o

ordered_parts : (time : ℤ) (l : ScheduleLine) (ls : List ScheduleLine) → are_ordered_from time (l ∷ ls) ≡ true
    → (int_le time l.time ≡ true) × (are_ordered_from l.time ls ≡ true)
ordered_parts time l ls o = and_parts (int_le time l.time) (are_ordered_from l.time ls) o

pub interrupts_in_order : (attached : ℕ → Option ℕ) (time : ℤ) (lines : List ScheduleLine) → are_ordered_from time lines ≡ true
    → are_in_order time (interrupts_of attached lines) ≡ true
interrupts_in_order attached time [] o = refl
interrupts_in_order attached time (l ∷ ls) o =
    let both = ordered_parts time l ls o in
    let rest : are_in_order l.time (interrupts_of attached ls) ≡ true = interrupts_in_order attached l.time ls both.1 in
    in_order_if (attached l.channel) time l (interrupts_of attached ls) both.0 rest

pub schedules_in_order : SchedulesInOrder
schedules_in_order attached time lines o = interrupts_in_order attached time lines o

-- the pending interrupts of a kernel are in order, none of them before now
abbrev AreAhead : Kernel → Type 0
AreAhead k = are_in_order k.now k.pending ≡ true

lt_le : (a b : ℤ) → int_lt a b ≡ true → int_le a b ≡ true
lt_le a b h = grind (arith, ints)

least_low : (t : ℤ) (ss : List Sleeper) → int_le (least t ss) t ≡ true
least_low t [] = le_self t
least_low t (s ∷ ss) =
    cond_both (int_lt s.wake t) (least s.wake ss) (least t ss) (λ m. int_le m t ≡ true)
    (λ lt. le_through (least s.wake ss) s.wake t (least_low s.wake ss) (lt_le s.wake t lt))
    (λ ge. least_low t ss)

next_ahead : (ss : List Sleeper) (is : List Interrupt) (is_queued : Bool) (n now : ℤ) → next_time ss is is_queued ≡ Some n → are_in_order now is ≡ true
    → are_in_order n is ≡ true
next_ahead [] [] is_queued n now e o = refl
next_ahead [] (i ∷ is) true n now e o =
    let same : i.time ≡ n = cc in
    let both = and_parts (int_le now i.time) (are_in_order i.time is) o in
    and_from (int_le n i.time) (are_in_order i.time is) (subst (λ m. int_le m i.time ≡ true) same (le_self i.time)) both.1
next_ahead [] (i ∷ is) false n now e o = absurd (cc)
next_ahead (s ∷ ss) [] is_queued n now e o = refl
next_ahead (s ∷ ss) (i ∷ is) is_queued n now e o =
    let same : least i.time (s ∷ ss) ≡ n = cc in
    let both = and_parts (int_le now i.time) (are_in_order i.time is) o in
    and_from (int_le n i.time) (are_in_order i.time is) (subst (λ m. int_le m i.time ≡ true) same (least_low i.time (s ∷ ss))) both.1

delivers_ahead : (is : List Interrupt) (k : Kernel) → k.pending ≡ is → are_in_order k.now is ≡ true → AreAhead (delivers is k)
delivers_ahead [] k e o = ap (are_in_order k.now) e ∙ o
delivers_ahead (i ∷ is) k e o =
    let both = and_parts (int_le k.now i.time) (are_in_order i.time is) o in
    either AreAhead (int_lt k.now i.time) k (starts i (record k { pending = is }))
    (ap (are_in_order k.now) e ∙ o)
    (from_earlier k.now i.time is both.0 both.1)

like : (l k : Kernel) → l.now ≡ k.now → l.pending ≡ k.pending → AreAhead k → AreAhead l
like l k e f o = ap (λ n. are_in_order n l.pending) e ∙ (ap (are_in_order k.now) f ∙ o)

dispatch_ahead : (k : Kernel) → AreAhead k → AreAhead (dispatch k)
dispatch_ahead k o = like (dispatch k) k (dispatch_alike k).now (dispatch_alike k).pending o

clock_ahead_at : (k : Kernel) (r : Option ℕ) (n : Option ℤ) → next k ≡ n → AreAhead k → AreAhead (clock_from r k)
clock_ahead_at k (Some t) n e o = o
clock_ahead_at k None None e o = subst (λ x. AreAhead (time_moves x k)) (sym e) o
clock_ahead_at k None (Some n) e o =
    let moved : Kernel = record k { now = n; sleepers = [] } in
    let w = wakes_due k.sleepers moved in
    let same = woken_alike k.sleepers moved in
    let there : are_in_order n k.pending ≡ true = next_ahead k.sleepers k.pending (some_queued k.queued k.partition.objects) n k.now e o in
    let awake : AreAhead w = like w moved same.now same.pending there in
    subst (λ x. AreAhead (time_moves x k)) (sym e) (dispatch_ahead (delivers w.pending w) (delivers_ahead w.pending w refl awake))

finish_ahead : (k : Kernel) → AreAhead k → AreAhead (clock (dispatch k))
finish_ahead k o = clock_ahead_at (dispatch k) (dispatch k).running (next (dispatch k)) refl (dispatch_ahead k o)

goes_ahead : (t : ℕ) (c : Bool) (k : Kernel) → AreAhead k → AreAhead (goes_if c t k)
goes_ahead t false k o = o
goes_ahead t true k o = delivers_ahead k.pending (leaves t k) refl o

ends_ahead : (t : ℕ) (e : Ending) (outer : List Action) (k : Kernel) → AreAhead k → AreAhead (ends t e outer k)
ends_ahead t Closes outer k o = o
ends_ahead t (TakesOver p u) outer k o = o
ends_ahead t (HandsBack u) outer k o = o

after_ahead : (t : ℕ) (e : Effect) (k : Kernel) → AreAhead k → AreAhead (after t e k)
after_ahead t (Dies x) k o = o
after_ahead t Breaks k o = o
after_ahead t Quiet k o = finish_ahead k o
after_ahead t (Says label value) k o = finish_ahead (effect t (Says label value) k) o
after_ahead t (Delays until) k o =
    finish_ahead (effect t (Delays until) k)
    (either AreAhead (int_lt k.now until) (falls_asleep t until (leaves t k)) (becomes_ready t (leaves t k)) o o)
after_ahead t (Opens p) k o = finish_ahead (effect t (Opens p) k) o
after_ahead t (Views p) k o = finish_ahead (effect t (Views p) k) o
after_ahead t (Queues p) k o = finish_ahead (effect t (Queues p) k) o
after_ahead t (Ends is_open) k o =
    let e = ending_of is_open (k.actions t) k.queued in
    let l = ends t e (outer_of (k.actions t)) k in
    finish_ahead (effect t (Ends is_open) k)
    (goes_ahead t (is_over k.partition t (k.actions t) e) l (ends_ahead t e (outer_of (k.actions t)) k o))
after_ahead t Finishes k o = finish_ahead (effect t Finishes k) o

activated_ahead : (n : ℕ) (k : Kernel) → AreAhead k → AreAhead (activated n k)
activated_ahead zero k o = o
activated_ahead (suc n) k o = activated_ahead n k o

pub none_passed : NonePassed
none_passed p interrupts barrier k o (Starts c) = finish_ahead (activated p.tasks (blank p interrupts)) (activated_ahead p.tasks (blank p interrupts) o)
none_passed p interrupts barrier k o (Goes before later l t e course run held passed) = after_ahead t e l (none_passed p interrupts before l o course)
