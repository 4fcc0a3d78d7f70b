-- Wrong rules, each refused by a computed situation in which it gives what the right rule, and the manual, do not.
use Rattle.std.proofs.Common.{◌≡◌, ℕ, ℤ, List, [], ◌∷◌, ◌++◌, Option, Some, None, true, false, refl, sym, ap, ◌∙◌, ⊎_elim}
use Rattle.std.specs.Prelude.{pos, int_lt, nat_lt, nat_le, if◌then◌else◌}
use Rattle.base.specs.declared.limits.TheConstants.{PRIORITIES}
use Rattle.kernel.specs.State.{Action, Ended, Kernel, Line, Partition, Sleeper, IsReady, Reads, Serves, Writes, object_of, put, active, is_object_open, raised}
use Rattle.kernel.specs.Dispatching.{becomes_ready, highest, leaves, preempted, runs_from, dispatch}
use Rattle.kernel.specs.Clock.{clock, next, time_moves, wakes_due}
use Rattle.kernel.specs.Effects.{Closes, HandsBack, Opens, Quiet, Queues, Says, TakesOver, Views, Ends, Finishes, Delays, Refusal, SameObject, AboveCeiling, call_refusal, with_actions, outer_of, effect, activated, after, begin, blank, ending_of}
use Rattle.kernel.specs.Exclusion.{FourStatements}
use Rattle.kernel.specs.PutLaws.{by_put}
use Rattle.kernel.proofs.Examples.{Level, does, shown, runs, at, mailbox, nested, one_of, outer_action, program, sleepers}

abbrev first_tasks : List Level → List ℕ
first_tasks [] = []
first_tasks (l ∷ ls) = l.tasks

-- views with different lists of one priority differ
differ : (xs ys : List ℕ) (h t now : ℕ) → runs t (at h xs ∷ []) [] now ≡ runs t (at h ys ∷ []) [] now → (xs ≡ ys → ⊥) → ⊥
differ xs ys h t now e ne = ne (ap (λ v. first_tasks v.ready) e)

not_both : (x y : Option ℕ) → x ≡ Some 0 → y ≡ Some 1 → x ≡ y → ⊥
not_both x y e f same = cc

nobody_not : {n : ℕ} (x y : Option ℕ) → x ≡ None → y ≡ Some n → x ≡ y → ⊥
nobody_not x y e f same = cc

-- A preempted task to the tail of its list: the task inside the outer action falls behind one that is outside

abbrev preempted_to_tail : ℕ → Kernel → Kernel
preempted_to_tail t k = record k { running = None; ready = put (active k t) (k.ready (active k t) ++ t ∷ []) k.ready; place = put t IsReady k.place }

-- the running task ends its inner action, and a higher task has become ready
abbrev inner_ends : Kernel
inner_ends = effect 0 (Ends false) (does (outer_action ++ (Opens 0 ∷ Ends true ∷ Ends false ∷ Opens 1 ∷ Ends true ∷ [])) (begin nested []))

abbrev to_tail : Kernel
to_tail = runs_from (highest inner_ends.ready PRIORITIES) (preempted_to_tail 0 inner_ends)

head_shown : shown (dispatch inner_ends) ≡ runs 1 (at 10 (0 ∷ 2 ∷ []) ∷ []) [] 0
head_shown = refl

tail_shown : shown to_tail ≡ runs 1 (at 10 (2 ∷ 0 ∷ []) ∷ []) [] 0
tail_shown = refl

tail_refuted : shown to_tail ≡ shown (dispatch inner_ends) → ⊥
tail_refuted e = differ (2 ∷ 0 ∷ []) (0 ∷ 2 ∷ []) 10 1 0 (sym tail_shown ∙ (e ∙ head_shown)) (λ f. cc)

-- No service where the body is left by an exception: a call stays queued though its barrier is open and nobody is inside

abbrev opener_raises : Kernel
opener_raises = does (Finishes ∷ Queues 0 ∷ Opens 0 ∷ []) (begin mailbox [])

abbrev not_served : Kernel
not_served = with_actions 1 (outer_of (opener_raises.actions 1)) opener_raises

nobody_inside : (t : ℕ) → not_served.actions t ≡ []
nobody_inside t = by_put (λ l. l ≡ []) 1 t [] opener_raises.actions (λ e. refl) (λ ne. by_put (λ l. l ≡ []) 1 t (Writes 0 ∷ []) (λ u. []) (λ e. absurd (ne e)) (λ ne'. refl))

no_service_refuted : FourStatements (λ o. true) not_served → ⊥
no_service_refuted four = ⊎_elim (λ e. absurd (cc)) (λ w. let e = w.1 in let i : is_object_open 0 (not_served.actions w.0) ≡ false = ap (is_object_open 0) (nobody_inside w.0) in absurd (cc)) (four.queued_closed 0 0 refl)

-- The ceiling compared with the base priority: a task inside an action of ceiling 15 would enter an object of ceiling 10

abbrev refusal_by_base : Kernel → ℕ → ℕ → Option Refusal
refusal_by_base k t o = if is_object_open o (k.actions t) then Some SameObject else if nat_lt (k.partition.ceiling o) (k.partition.base t) then Some AboveCeiling else None

abbrev inside_high : Kernel
inside_high = does (outer_action ++ (Opens 1 ∷ [])) (begin nested [])

by_active_refused : call_refusal inside_high 0 0 ≡ Some AboveCeiling
by_active_refused = refl

by_base : refusal_by_base inside_high 0 0 ≡ None
by_base = refl

by_base_refuted : refusal_by_base inside_high 0 0 ≡ Some AboveCeiling → ⊥
by_base_refuted e = let f : None ≡ Some AboveCeiling = sym by_base ∙ e in cc

-- The clock past the least wake time: it would pass the time at which another task must run

abbrev greatest : ℤ → List Sleeper → ℤ
greatest time [] = time
greatest time (s ∷ ss) = if int_lt time s.wake then greatest s.wake ss else greatest time ss

abbrev two_sleep : Kernel
two_sleep = does (Finishes ∷ Delays (pos 9) ∷ Delays (pos 7) ∷ []) (begin sleepers [])

abbrev all_sleep : Kernel
all_sleep = effect 2 (Delays (pos 8)) two_sleep

abbrev by_greatest : List Sleeper → Kernel → Kernel
by_greatest [] k = k
by_greatest (s ∷ ss) k = dispatch (wakes_due (s ∷ ss) (record k { now = greatest s.wake ss; sleepers = [] }))

least_is_seven : (after 2 (Delays (pos 8)) two_sleep).now ≡ pos 7
least_is_seven = refl

greatest_is_nine : (by_greatest all_sleep.sleepers all_sleep).now ≡ pos 9
greatest_is_nine = refl

past_least_refuted : (by_greatest all_sleep.sleepers all_sleep).now ≡ (after 2 (Delays (pos 8)) two_sleep).now → ⊥
past_least_refuted e = let f : pos 9 ≡ pos 7 = sym greatest_is_nine ∙ (e ∙ least_is_seven) in cc

-- Tasks due at one time ready by number, and not in the order in which they began to wait

abbrev inserted : Sleeper → List Sleeper → List Sleeper
inserted s [] = s ∷ []
inserted s (r ∷ rs) = if nat_le s.task r.task then s ∷ r ∷ rs else r ∷ inserted s rs

abbrev by_number : List Sleeper → List Sleeper
by_number [] = []
by_number (s ∷ ss) = inserted s (by_number ss)

abbrev before_last_sleeps : Kernel
before_last_sleeps = does (Finishes ∷ Delays (pos 0) ∷ Delays (pos 1000) ∷ Delays (pos 1000) ∷ []) (begin sleepers [])

abbrev three_sleep : Kernel
three_sleep = effect 0 (Delays (pos 1000)) before_last_sleeps

abbrev woken : List Sleeper → Kernel
woken ss = dispatch (wakes_due ss (record three_sleep { now = pos 1000; sleepers = [] }))

in_order_runs : (after 0 (Delays (pos 1000)) before_last_sleeps).running ≡ Some 1
in_order_runs = refl

by_number_runs : (woken (by_number three_sleep.sleepers)).running ≡ Some 0
by_number_runs = refl

by_number_refuted : (woken (by_number three_sleep.sleepers)).running ≡ (after 0 (Delays (pos 1000)) before_last_sleeps).running → ⊥
by_number_refuted e = not_both _ _ by_number_runs in_order_runs e

-- A delay that is due and leaves its task running in place: the next task of its priority does not have its turn

abbrev first_runs : Kernel
first_runs = does (Finishes ∷ []) (begin sleepers [])

yields_runs : (after 0 (Delays (pos 0)) first_runs).running ≡ Some 1
yields_runs = refl

stays_runs : first_runs.running ≡ Some 0
stays_runs = refl

in_place_refuted : first_runs.running ≡ (after 0 (Delays (pos 0)) first_runs).running → ⊥
in_place_refuted e = not_both _ _ stays_runs yields_runs e

-- A preemption after which nobody runs: the higher task that is ready must run

nobody_preempts : (preempted 0 inner_ends).running ≡ None
nobody_preempts = refl

higher_preempts : (dispatch inner_ends).running ≡ Some 1
higher_preempts = refl

nobody_refuted : (preempted 0 inner_ends).running ≡ (dispatch inner_ends).running → ⊥
nobody_refuted e = nobody_not _ _ nobody_preempts higher_preempts e

-- A quiet step, or a line, after which the next task of its priority has its turn

abbrev yields : ℕ → Kernel → Kernel
yields t k = becomes_ready t (leaves t k)

quiet_runs : (after 0 Quiet first_runs).running ≡ Some 0
quiet_runs = refl

line_runs : (after 0 (Says [] (pos 1)) first_runs).running ≡ Some 0
line_runs = refl

next_runs : (clock (dispatch (yields 0 first_runs))).running ≡ Some 1
next_runs = refl

quiet_refuted : (after 0 Quiet first_runs).running ≡ (clock (dispatch (yields 0 first_runs))).running → ⊥
quiet_refuted e = not_both _ _ quiet_runs next_runs e

line_refuted : (after 0 (Says [] (pos 1)) first_runs).running ≡ (clock (dispatch (yields 0 (effect 0 (Says [] (pos 1)) first_runs)))).running → ⊥
line_refuted e = let f : (clock (dispatch (yields 0 (effect 0 (Says [] (pos 1)) first_runs)))).running ≡ Some 1 = refl in not_both _ _ line_runs f e

-- A line before those that were written earlier

abbrev tasks_of_lines : List Line → List ℕ
tasks_of_lines [] = []
tasks_of_lines (l ∷ ls) = l.task ∷ tasks_of_lines ls

abbrev two_lines : Kernel
two_lines = does (Says [] (pos 1) ∷ Finishes ∷ Says [] (pos 1) ∷ []) (begin sleepers [])

abbrev put_first : Line → Kernel → Kernel
put_first line k = record k { lines = line ∷ k.lines }

in_order_of_time : tasks_of_lines two_lines.lines ≡ 3 ∷ 0 ∷ []
in_order_of_time = refl

latest_first : tasks_of_lines (put_first (record { time = pos 0; task = 0; label = []; value = pos 1 }) (does (Says [] (pos 1) ∷ []) (begin sleepers []))).lines ≡ 0 ∷ 3 ∷ []
latest_first = refl

-- The active priority as the ceiling of the innermost action alone: it would fall inside an outer action

abbrev innermost_ceiling : (ℕ → ℕ) → ℕ → List Action → ℕ
innermost_ceiling ceiling base [] = base
innermost_ceiling ceiling base (a ∷ outer) = ceiling (object_of a)

abbrev lower_inside : ℕ → ℕ
lower_inside = one_of (10 ∷ 20 ∷ []) 0

highest_counts : raised lower_inside 5 (Writes 0 ∷ Writes 1 ∷ []) ≡ 20
highest_counts = refl

innermost_alone : innermost_ceiling lower_inside 5 (Writes 0 ∷ Writes 1 ∷ []) ≡ 10
innermost_alone = refl

ten_not_twenty : (m n : ℕ) → m ≡ 10 → n ≡ 20 → m ≡ n → ⊥
ten_not_twenty m n e f same = cc

innermost_refuted : innermost_ceiling lower_inside 5 (Writes 0 ∷ Writes 1 ∷ []) ≡ raised lower_inside 5 (Writes 0 ∷ Writes 1 ∷ []) → ⊥
innermost_refuted e = ten_not_twenty _ _ innermost_alone highest_counts e

-- A function that serves, or forgets the actions around its own; an open barrier that hands the queued caller back unserved

function_closes : ending_of true (Reads 0 ∷ []) (λ o. Some 1) ≡ Closes
function_closes = refl

procedure_serves : ending_of true (Writes 0 ∷ []) (λ o. Some 1) ≡ TakesOver 0 1
procedure_serves = refl

function_serves_refuted : ending_of true (Reads 0 ∷ []) (λ o. Some 1) ≡ ending_of true (Writes 0 ∷ []) (λ o. Some 1) → ⊥
function_serves_refuted e = let f : Closes ≡ TakesOver 0 1 = sym function_closes ∙ (e ∙ procedure_serves) in cc

handed_back_refuted : ending_of true (Writes 0 ∷ []) (λ o. Some 1) ≡ HandsBack 1 → ⊥
handed_back_refuted e = let f : TakesOver 0 1 ≡ HandsBack 1 = sym procedure_serves ∙ e in cc

views_inside : (effect 0 (Views 0) inside_high).actions 0 ≡ Reads 0 ∷ inside_high.actions 0
views_inside = refl

outer_forgotten_refuted : (effect 0 (Views 0) inside_high).actions 0 ≡ Reads 0 ∷ [] → ⊥
outer_forgotten_refuted e = let f : Reads 0 ∷ Writes 1 ∷ Writes 2 ∷ [] ≡ Reads 0 ∷ [] = e in cc

-- A queued call that stays queued while it is served: the next end of an action would serve it again

abbrev still_queued : Kernel
still_queued = record opener_raises { actions = put 1 (Serves 0 0 ∷ []) opener_raises.actions }

taken_out : (after 1 (Ends true) opener_raises).queued 0 ≡ None
taken_out = refl

queued_again : still_queued.queued 0 ≡ Some 0
queued_again = refl

queued_again_refuted : still_queued.queued 0 ≡ (after 1 (Ends true) opener_raises).queued 0 → ⊥
queued_again_refuted e = nobody_not _ _ taken_out queued_again (sym e)

-- A clock after which nobody is dispatched; one that moves while a task runs; a start without it

abbrev undispatched : Kernel
undispatched = wakes_due all_sleep.sleepers (record all_sleep { now = pos 7; sleepers = [] })

nobody_after_clock : undispatched.running ≡ None
nobody_after_clock = refl

first_due_runs : (clock all_sleep).running ≡ Some 1
first_due_runs = refl

undispatched_refuted : undispatched.running ≡ (clock all_sleep).running → ⊥
undispatched_refuted e = nobody_not _ _ nobody_after_clock first_due_runs e

stands_while_running : (clock two_sleep).now ≡ pos 0
stands_while_running = refl

moved_while_running : (time_moves (next two_sleep) two_sleep).now ≡ pos 7
moved_while_running = refl

moved_refuted : (time_moves (next two_sleep) two_sleep).now ≡ (clock two_sleep).now → ⊥
moved_refuted e = let f : pos 7 ≡ pos 0 = sym moved_while_running ∙ (e ∙ stands_while_running) in cc

-- without tasks the start is over at once
abbrev no_tasks : Partition
no_tasks = program 0 0 [] []

over_at_once : (begin no_tasks []).outcome ≡ Some Ended
over_at_once = refl

never_over : (dispatch (activated 0 (blank no_tasks []))).outcome ≡ None
never_over = refl

start_refuted : (dispatch (activated 0 (blank no_tasks []))).outcome ≡ (begin no_tasks []).outcome → ⊥
start_refuted e = let f : None ≡ Some Ended = sym never_over ∙ (e ∙ over_at_once) in cc
