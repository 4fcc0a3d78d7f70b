-- Wrong rules of interrupts, each refused by a computed situation in which it gives what the right rule does not.
use Rattle.std.proofs.Common.{◌≡◌, ℕ, suc, ℤ, List, [], ◌∷◌, Option, Some, None, true, false, refl, sym, ◌∙◌, arith}
use Rattle.std.specs.Prelude.{pos, int_lt, codes, nat_lt, if◌then◌else◌}
use Rattle.base.specs.declared.limits.TheConstants.{PRIORITIES}
use Rattle.kernel.specs.State.{Partition, Interrupt, Kernel, Sleeper, Outcome, Ended, Unhandled}
use Rattle.kernel.specs.Dispatching.{leaves, dispatch}
use Rattle.kernel.specs.Interrupts.{starts, delivers}
use Rattle.kernel.specs.Clock.{least, next, wakes_due, clock}
use Rattle.kernel.specs.Effects.{Delays, Ends, Finishes, Queues, begin, effect}
use Rattle.kernel.specs.Worlds.{Behaviour, among, run}
use Rattle.kernel.specs.Invariant.{Fits}
use Rattle.kernel.proofs.Examples.{does}
use Rattle.kernel.proofs.Interrupted.{Box, Doer, Empties, Marks, Puts, Raises, Stops, Takes, around, line, on, one_task, raised, scene, two_tasks}

not_both : (m n : ℕ) (x y : Option ℕ) → x ≡ Some m → y ≡ Some n → (m ≡ n → ⊥) → x ≡ y → ⊥
not_both m n x y e f ne same = ne (cc)

abbrev due_at : ℕ → Interrupt
due_at time = record { time = pos time; channel = 1; object = 0 }

-- The handler before the due tasks become ready: they would become ready when nobody runs after it, behind the caller that it has served

abbrev handler_first : Option ℤ → Kernel → Kernel
handler_first None k = k
handler_first (Some time) k = let moved : Kernel = record k { now = time } in dispatch (delivers moved.pending moved)

-- C waits in the queue, and D for the time of the interrupt; then the handler runs, serves C and is gone
abbrev before_time : Kernel
before_time = effect 1 (Delays (pos 4)) (does (Finishes ∷ Queues 0 ∷ []) (begin two_tasks (due_at 4 ∷ [])))

due_runs : (does (Ends true ∷ Ends false ∷ []) (clock before_time)).running ≡ Some 1
due_runs = refl

served_runs : (does (Ends true ∷ Ends false ∷ []) (handler_first (next before_time) before_time)).running ≡ Some 0
served_runs = refl

handler_first_refuted : (does (Ends true ∷ Ends false ∷ []) (handler_first (next before_time) before_time)).running
    ≡ (does (Ends true ∷ Ends false ∷ []) (clock before_time)).running → ⊥
handler_first_refuted e = not_both 0 1 _ _ served_runs due_runs (λ i. cc) e

-- The handler's exception in the caller that it has served, or in the handler itself: the program would die

abbrev raises_in_caller : Behaviour Box Doer ℤ
raises_in_caller =
    let right = around (Empties ∷ Puts (codes "body") 1 ∷ []) (line 3 1 0 ∷ []) (Marks ∷ Raises 1 ∷ []) in
    record { act = right.act; taken = right.taken; serving = right.serving; receives = λ g u. record u { raising = Some 1 } }

abbrev raised_in_caller : ℕ → Option Outcome
raised_in_caller n =
    (run (among raises_in_caller) n
    (scene (one_task 10) (Empties ∷ Puts (codes "body") 1 ∷ []) (Marks ∷ Raises 1 ∷ []) (on 1) (line 3 1 0 ∷ [])
    ((Takes ∷ Puts (codes "c") 2 ∷ Stops ∷ []) ∷ []))).kernel.outcome

dropped_ends : (raised 20).kernel.outcome ≡ Some Ended
dropped_ends = refl

raised_dies : raised_in_caller 20 ≡ Some (Unhandled 1 0)
raised_dies = refl

in_a_task_refuted : raised_in_caller 20 ≡ (raised 20).kernel.outcome → ⊥
in_a_task_refuted e = let f : Some (Unhandled 1 0) ≡ Some Ended = sym raised_dies ∙ (e ∙ dropped_ends) in cc

-- A line that stays pending when it is delivered: its handler would run again, and the due task never

abbrev delivers_again : List Interrupt → Kernel → Kernel
delivers_again [] k = k
delivers_again (i ∷ is) k = if int_lt k.now i.time then k else starts i k

-- D sleeps until the time of the interrupt
abbrev one_sleeps : Kernel
one_sleeps = effect 0 (Delays (pos 4)) (does (Finishes ∷ []) (begin (one_task 5) (due_at 4 ∷ [])))

abbrev woken : Kernel
woken = wakes_due one_sleeps.sleepers (record one_sleeps { now = pos 4; sleepers = [] })

abbrev again_over : Kernel
again_over = let l = leaves 3 (delivers_again woken.pending woken) in dispatch (delivers_again l.pending l)

task_after_handler : (does (Ends true ∷ []) (clock one_sleeps)).running ≡ Some 0
task_after_handler = refl

handler_again : again_over.running ≡ Some 3
handler_again = refl

delivered_twice_refuted : again_over.running ≡ (does (Ends true ∷ []) (clock one_sleeps)).running → ⊥
delivered_twice_refuted e = not_both 3 0 _ _ handler_again task_after_handler (λ i. cc) e

-- A line delivered after all tasks have finished

abbrev awaited_always : List Sleeper → List Interrupt → Option ℤ
awaited_always [] [] = None
awaited_always [] (i ∷ is) = Some i.time
awaited_always (s ∷ ss) [] = Some (least s.wake ss)
awaited_always (s ∷ ss) (i ∷ is) = Some (least i.time (s ∷ ss))

abbrev all_finished : Kernel
all_finished = effect 0 Finishes (does (Finishes ∷ []) (begin (one_task 5) (due_at 9 ∷ [])))

nothing_to_come : next all_finished ≡ None
nothing_to_come = refl

run_ends : (clock all_finished).outcome ≡ Some Ended
run_ends = refl

line_to_come : awaited_always all_finished.sleepers all_finished.pending ≡ Some (pos 9)
line_to_come = refl

after_the_end_refuted : awaited_always all_finished.sleepers all_finished.pending ≡ next all_finished → ⊥
after_the_end_refuted e = let f : Some (pos 9) ≡ None = sym line_to_come ∙ (e ∙ nothing_to_come) in cc

-- The clock past a pending line, to the least wake time

abbrev least_wake : List Sleeper → Option ℤ
least_wake [] = None
least_wake (s ∷ ss) = Some (least s.wake ss)

abbrev sleeps_longer : Kernel
sleeps_longer = effect 0 (Delays (pos 9)) (does (Finishes ∷ []) (begin (one_task 5) (due_at 4 ∷ [])))

line_is_next : next sleeps_longer ≡ Some (pos 4)
line_is_next = refl

wake_is_nine : least_wake sleeps_longer.sleepers ≡ Some (pos 9)
wake_is_nine = refl

past_line_refuted : least_wake sleeps_longer.sleepers ≡ next sleeps_longer → ⊥
past_line_refuted e = let f : Some (pos 9) ≡ Some (pos 4) = sym wake_is_nine ∙ (e ∙ line_is_next) in cc

-- Waits forever while a line is pending: with an empty list of sleepers alone the run would be over

abbrev caller_waits : Kernel
caller_waits = effect 0 (Queues 0) (does (Finishes ∷ []) (begin (one_task 5) (due_at 4 ∷ [])))

goes_on : (clock caller_waits).outcome ≡ None
goes_on = refl

handler_runs : (clock caller_waits).running ≡ Some 3
handler_runs = refl

forever_refuted : least_wake caller_waits.sleepers ≡ next caller_waits → ⊥
forever_refuted e = let f : None ≡ Some (pos 4) = e in cc

-- A handler at base priority 30: no partition has it, since a task of that priority would not be preempted by it

abbrev low_handlers : Partition
low_handlers = record { tasks = 2; objects = 1; base = λ t. if nat_lt t 2 then 15 else 30; ceiling = λ o. 31 }

low_handler_refuted : Fits low_handlers → ⊥
low_handler_refuted fits = let top : suc (low_handlers.base 3) ≡ PRIORITIES = fits.urgent 3 (omega arith) in cc

-- The next handler of a time after the tasks: a task would run between two handlers

abbrev leaves_alone : Kernel → Kernel
leaves_alone k = dispatch (leaves 3 k)

abbrev two_due : Kernel
two_due = clock (effect 0 (Delays (pos 4)) (does (Finishes ∷ []) (begin (one_task 5) (due_at 4 ∷ due_at 4 ∷ []))))

next_handler : (does (Ends true ∷ []) two_due).running ≡ Some 3
next_handler = refl

task_between : (leaves_alone two_due).running ≡ Some 0
task_between = refl

task_between_refuted : (leaves_alone two_due).running ≡ (does (Ends true ∷ []) two_due).running → ⊥
task_between_refuted e = not_both 0 3 _ _ task_between next_handler (λ i. cc) e

-- A line of time 0 delivered whenever nobody runs: its handler would run before tasks that are ready

abbrev delivers_early : Kernel → Kernel
delivers_early k = dispatch (delivers k.pending k)

abbrev main_finishes : Kernel
main_finishes = effect 1 Finishes (begin (one_task 5) (due_at 0 ∷ []))

ready_runs : (clock (dispatch main_finishes)).running ≡ Some 0
ready_runs = refl

early_runs : (delivers_early main_finishes).running ≡ Some 3
early_runs = refl

early_refuted : (delivers_early main_finishes).running ≡ (clock (dispatch main_finishes)).running → ⊥
early_refuted e = not_both 3 0 _ _ early_runs ready_runs (λ i. cc) e
