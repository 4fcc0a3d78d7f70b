-- The time, the times at which tasks wake and those of pending interrupts are numbers of 64 bits in each world: those of delays and of a schedule's lines are.
use Rattle.std.proofs.Common.{◌≡◌, ℕ, zero, suc, ℤ, pos, List, [], ◌∷◌, ◌++◌, Bool, true, false, Option, Some, None, refl, sym, subst}
use Rattle.std.specs.Prelude.{◌&&◌, cond, int_le, int_lt, nat_le, nat_lt, ⊤}
use Rattle.std.proofs.lemmas.Bool.{and_parts}
use Rattle.base.specs.Arithmetic.{is_in_base_range}
use Rattle.base.specs.Schedule.{are_lines, is_line}
use Rattle.base.specs.declared.limits.TheConstants.{CHANNELS, PRIORITIES}
use Rattle.base.specs.declared.schedule.ScheduleLine.{ScheduleLine}
use Rattle.kernel.specs.State.{Interrupt, Kernel, Partition, Sleeper, active}
use Rattle.kernel.specs.Interrupts.{delivers, interrupt_if, interrupts_of, starts}
use Rattle.kernel.specs.Clock.{clock, clock_from, least, next, next_time, some_queued, time_moves, wakes_due, wakes_if_due, falls_asleep, released}
use Rattle.kernel.specs.Dispatching.{dispatch, dispatch_from, highest, preempted, preempts, runs_from, runs_head, becomes_ready, leaves}
use Rattle.kernel.specs.Effects.{Breaks, Closes, Delays, Dies, Effect, Ending, Ends, Finishes, HandsBack, Opens, Queues, Quiet, Says, TakesOver, Views, activated, after, begin, blank, effect, ending_of, ends, goes_if, is_over, outer_of}
use Rattle.image.specs.Sections.{Sections}
use Rattle.image.specs.Frames.{TaskState, Words}
use Rattle.image.specs.Steps as steps
use Rattle.meaning.specs.Meeting.{Relation}
use Rattle.meaning.specs.Works.{GivenToCaller, Store, TaskWork}
use Rattle.expr_code.specs.Seeing.{Package}
use Rattle.meaning.specs.Programs.{Program}
use Rattle.step_simulation.specs.part_code.specs.Statements.{Numbers}
use Rattle.step_simulation.specs.Standing.{LeavesBy, Note}

abbrev AllFit : List Sleeper → Type 0
AllFit [] = ⊤
AllFit (s ∷ ss) = (is_in_base_range s.wake ≡ true) × AllFit ss

abbrev AllComeFit : List Interrupt → Type 0
AllComeFit [] = ⊤
AllComeFit (i ∷ rest) = (is_in_base_range i.time ≡ true) × AllComeFit rest

pub record TimesFit (k : Kernel) : Type 0 where
  pub now : is_in_base_range k.now ≡ true
  pub sleepers : AllFit k.sleepers
  pub pending : AllComeFit k.pending

-- ---- what leaves the times as they are

record SameTimes (k l : Kernel) : Type 0 where
  now : l.now ≡ k.now
  sleepers : l.sleepers ≡ k.sleepers
  pending : l.pending ≡ k.pending

same_fit : (k l : Kernel) → SameTimes k l → TimesFit k → TimesFit l
same_fit k l same fit = record {
  now = subst (λ z. is_in_base_range z ≡ true) (sym same.now) fit.now;
  sleepers = subst AllFit (sym same.sleepers) fit.sleepers;
  pending = subst AllComeFit (sym same.pending) fit.pending;
}

runs_head_same : (ts : List ℕ) (h : ℕ) (k : Kernel) → SameTimes k (runs_head ts h k)
runs_head_same [] h k = record { now = refl; sleepers = refl; pending = refl }
runs_head_same (t ∷ ts) h k = record { now = refl; sleepers = refl; pending = refl }

runs_from_same : (o : Option ℕ) (k : Kernel) → SameTimes k (runs_from o k)
runs_from_same None k = record { now = refl; sleepers = refl; pending = refl }
runs_from_same (Some h) k = runs_head_same (k.ready h) h k

preempts_same : (t : ℕ) (o : Option ℕ) (k : Kernel) → SameTimes k (preempts t o k)
preempts_same t None k = record { now = refl; sleepers = refl; pending = refl }
preempts_same t (Some h) k = by_test (nat_lt (active k t) h)
  where
    by_test : (b : Bool) → SameTimes k (cond b (runs_from (Some h) (preempted t k)) k)
    by_test true = let same = runs_from_same (Some h) (preempted t k) in record { now = same.now; sleepers = same.sleepers; pending = same.pending }
    by_test false = record { now = refl; sleepers = refl; pending = refl }

dispatch_same : (k : Kernel) → SameTimes k (dispatch k)
dispatch_same k = by_running k.running
  where
    by_running : (o : Option ℕ) → SameTimes k (dispatch_from o k)
    by_running None = runs_from_same (highest k.ready PRIORITIES) k
    by_running (Some t) = preempts_same t (highest k.ready PRIORITIES) k

-- ---- the clock

fit_behind : (ss : List Sleeper) (s : Sleeper) → AllFit ss → is_in_base_range s.wake ≡ true → AllFit (ss ++ s ∷ [])
fit_behind [] s h k = (k, tt)
fit_behind (x ∷ ss) s h k = (h.0, fit_behind ss s h.1 k)

least_fits : (ss : List Sleeper) (time : ℤ) → is_in_base_range time ≡ true → AllFit ss → is_in_base_range (least time ss) ≡ true
least_fits [] time h all = h
least_fits (s ∷ ss) time h all = by_test (int_lt s.wake time) (least_fits ss s.wake all.0 all.1) (least_fits ss time h all.1)
  where
    by_test : (b : Bool) → is_in_base_range (least s.wake ss) ≡ true → is_in_base_range (least time ss) ≡ true
        → is_in_base_range (cond b (least s.wake ss) (least time ss)) ≡ true
    by_test true earlier other = earlier
    by_test false earlier other = other

wakes_one : (s : Sleeper) (k : Kernel) → is_in_base_range s.wake ≡ true → TimesFit k → TimesFit (wakes_if_due s k)
wakes_one s k h fit = by_test (int_lt k.now s.wake)
  where
    by_test : (b : Bool) → TimesFit (cond b (record k { sleepers = k.sleepers ++ s ∷ [] }) (becomes_ready s.task (released s.task k)))
    by_test true = record { now = fit.now; sleepers = fit_behind k.sleepers s fit.sleepers h; pending = fit.pending }
    by_test false = record { now = fit.now; sleepers = fit.sleepers; pending = fit.pending }

wakes_fit : (ss : List Sleeper) (k : Kernel) → AllFit ss → TimesFit k → TimesFit (wakes_due ss k)
wakes_fit [] k all fit = fit
wakes_fit (s ∷ ss) k all fit = wakes_fit ss (wakes_if_due s k) all.1 (wakes_one s k all.0 fit)

delivers_fit : (pending : List Interrupt) (k : Kernel) → AllComeFit pending → TimesFit k → TimesFit (delivers pending k)
delivers_fit [] k all fit = fit
delivers_fit (i ∷ rest) k all fit = by_test (int_lt k.now i.time)
  where
    by_test : (b : Bool) → TimesFit (cond b k (starts i (record k { pending = rest })))
    by_test true = fit
    by_test false = record { now = fit.now; sleepers = fit.sleepers; pending = all.1 }

same_time : (a b : ℤ) → Some a ≡ Some b → a ≡ b
same_time a b e = cc

next_fits : (ss : List Sleeper) (pending : List Interrupt) (is_queued : Bool) (time : ℤ) → AllFit ss → AllComeFit pending
    → next_time ss pending is_queued ≡ Some time
    → is_in_base_range time ≡ true
next_fits [] [] is_queued time all come e = cc
next_fits [] (i ∷ rest) true time all come e = subst (λ z. is_in_base_range z ≡ true) (same_time i.time time e) come.0
next_fits [] (i ∷ rest) false time all come e = cc
next_fits (s ∷ ss) [] is_queued time all come e =
    subst (λ z. is_in_base_range z ≡ true) (same_time (least s.wake ss) time e) (least_fits ss s.wake all.0 all.1)
next_fits (s ∷ ss) (i ∷ rest) is_queued time all come e =
    subst (λ z. is_in_base_range z ≡ true) (same_time (least i.time (s ∷ ss)) time e) (least_fits (s ∷ ss) i.time come.0 all)

moves_fit : (o : Option ℤ) (k : Kernel) → next k ≡ o → TimesFit k → TimesFit (time_moves o k)
moves_fit None k is fit = record { now = fit.now; sleepers = fit.sleepers; pending = fit.pending }
moves_fit (Some time) k is fit =
    let woken = wakes_due k.sleepers (record k { now = time; sleepers = [] }) in
    let delivered = delivers woken.pending woken in
    let woken_fit =
    wakes_fit k.sleepers (record k { now = time; sleepers = [] }) fit.sleepers
    (record {
      now = next_fits k.sleepers k.pending (some_queued k.queued k.partition.objects) time fit.sleepers fit.pending is;
      sleepers = tt;
      pending = fit.pending;
    }) in
    same_fit delivered (dispatch delivered) (dispatch_same delivered) (delivers_fit woken.pending woken woken_fit.pending woken_fit)

clock_fits : (k : Kernel) → TimesFit k → TimesFit (clock k)
clock_fits k fit = by_running k.running
  where
    by_running : (o : Option ℕ) → TimesFit (clock_from o k)
    by_running (Some t) = fit
    by_running None = moves_fit (next k) k refl fit

-- ---- effects

-- a delay is until such a time
abbrev EffectFits : Effect → Type 0
EffectFits (Delays until) = is_in_base_range until ≡ true
EffectFits e = ⊤

ends_fit : (t : ℕ) (x : Ending) (k : Kernel) → TimesFit k → TimesFit (ends t x (outer_of (k.actions t)) k)
ends_fit t Closes k fit = record { now = fit.now; sleepers = fit.sleepers; pending = fit.pending }
ends_fit t (TakesOver o u) k fit = record { now = fit.now; sleepers = fit.sleepers; pending = fit.pending }
ends_fit t (HandsBack u) k fit = record { now = fit.now; sleepers = fit.sleepers; pending = fit.pending }

-- a handler that is over goes
goes_fit : (b : Bool) (t : ℕ) (k : Kernel) → TimesFit k → TimesFit (goes_if b t k)
goes_fit false t k fit = fit
goes_fit true t k fit =
    delivers_fit k.pending (leaves t k) fit.pending (record { now = fit.now; sleepers = fit.sleepers; pending = fit.pending })

effect_fits : (t : ℕ) (e : Effect) (k : Kernel) → EffectFits e → TimesFit k → TimesFit (effect t e k)
effect_fits t Quiet k h fit = fit
effect_fits t (Says label value) k h fit = record { now = fit.now; sleepers = fit.sleepers; pending = fit.pending }
effect_fits t (Delays until) k h fit = by_test (int_lt k.now until)
  where
    by_test : (b : Bool) → TimesFit (cond b (falls_asleep t until (leaves t k)) (becomes_ready t (leaves t k)))
    by_test true = record { now = fit.now; sleepers = fit_behind k.sleepers (record { task = t; wake = until }) fit.sleepers h; pending = fit.pending }
    by_test false = record { now = fit.now; sleepers = fit.sleepers; pending = fit.pending }
effect_fits t (Opens o) k h fit = record { now = fit.now; sleepers = fit.sleepers; pending = fit.pending }
effect_fits t (Views o) k h fit = record { now = fit.now; sleepers = fit.sleepers; pending = fit.pending }
effect_fits t (Queues o) k h fit = record { now = fit.now; sleepers = fit.sleepers; pending = fit.pending }
effect_fits t (Ends is_open) k h fit =
    let x = ending_of is_open (k.actions t) k.queued in
    goes_fit (is_over k.partition t (k.actions t) x) t (ends t x (outer_of (k.actions t)) k) (ends_fit t x k fit)
effect_fits t Finishes k h fit = record { now = fit.now; sleepers = fit.sleepers; pending = fit.pending }
effect_fits t (Dies x) k h fit = record { now = fit.now; sleepers = fit.sleepers; pending = fit.pending }
effect_fits t Breaks k h fit = record { now = fit.now; sleepers = fit.sleepers; pending = fit.pending }

times_after : (t : ℕ) (e : Effect) (k : Kernel) → EffectFits e → TimesFit k → TimesFit (after t e k)
times_after t (Dies x) k h fit = effect_fits t (Dies x) k h fit
times_after t Breaks k h fit = effect_fits t Breaks k h fit
times_after t e k h fit =
    let l = effect t e k in clock_fits (dispatch l) (same_fit l (dispatch l) (dispatch_same l) (effect_fits t e k h fit))

activated_fits : (n : ℕ) (k : Kernel) → TimesFit k → TimesFit (activated n k)
activated_fits zero k fit = fit
activated_fits (suc n) k fit = let h = activated_fits n k fit in record { now = h.now; sleepers = h.sleepers; pending = h.pending }

pub begin_fits : (p : Partition) (interrupts : List Interrupt) → AllComeFit interrupts → TimesFit (begin p interrupts)
begin_fits p interrupts come =
    let l = activated p.tasks (blank p interrupts) in
    clock_fits (dispatch l) (same_fit l (dispatch l) (dispatch_same l)
    (activated_fits p.tasks (blank p interrupts) (record { now = refl; sleepers = tt; pending = come })))

-- the interrupts of a schedule
time_of : (a b c d e : Bool) → (a && b && c && d && e) ≡ true → b ≡ true
time_of true true c d e h = refl
time_of true false c d e h = cc
time_of false b c d e h = cc

pub interrupts_fit : (attached : ℕ → Option ℕ) (ls : List ScheduleLine) → are_lines ls ≡ true → AllComeFit (interrupts_of attached ls)
interrupts_fit attached [] h = tt
interrupts_fit attached (l ∷ ls) h =
    let two = and_parts (is_line l) (are_lines ls) h in
    let fits =
    time_of (int_le (pos 0) l.time) (is_in_base_range l.time) (nat_le 1 l.channel) (nat_le l.channel CHANNELS) (is_in_base_range l.value) two.0 in
    by_handler (attached l.channel) fits (interrupts_fit attached ls two.1)
  where
    by_handler : (o : Option ℕ) → is_in_base_range l.time ≡ true → AllComeFit (interrupts_of attached ls)
        → AllComeFit (interrupt_if o l (interrupts_of attached ls))
    by_handler None fits rest = rest
    by_handler (Some o) fits rest = (fits, rest)

-- ---- beside what stands for one another

abbrev pub timed : Relation Note Store TaskWork GivenToCaller Words TaskState steps.Given → Relation Note Store TaskWork GivenToCaller Words TaskState steps.Given
timed r = record {
  shares = r.shares;
  stands = λ note k u w s. TimesFit k × r.stands note k u w s;
  leaves = r.leaves;
  size = r.size;
}

leaves_fit : (i : Sections) (program : Program) (g : Package) (numbers : Numbers) (note : Note) (k : Kernel) (t : ℕ) (e : Effect) (w : TaskWork) (s : TaskState)
    (p : Option GivenToCaller) (q : Option steps.Given) → LeavesBy i program g numbers note k t e w s p q → EffectFits e
leaves_fit i program g numbers note k t (Delays until) w s p q h = h.0
leaves_fit i program g numbers note k t Quiet w s p q h = tt
leaves_fit i program g numbers note k t Finishes w s p q h = tt
leaves_fit i program g numbers note k t Breaks w s p q h = tt
leaves_fit i program g numbers note k t (Says label value) w s p q h = tt
leaves_fit i program g numbers note k t (Opens o) w s p q h = tt
leaves_fit i program g numbers note k t (Views o) w s p q h = tt
leaves_fit i program g numbers note k t (Queues o) w s p q h = tt
leaves_fit i program g numbers note k t (Ends is_open) w s p q h = tt
leaves_fit i program g numbers note k t (Dies x) w s p q h = tt

-- the times after a step with this effect
pub times_left : (i : Sections) (program : Program) (g : Package) (numbers : Numbers) (note : Note) (k : Kernel) (t : ℕ) (e : Effect) (w : TaskWork)
    (s : TaskState) (p : Option GivenToCaller) (q : Option steps.Given) → LeavesBy i program g numbers note k t e w s p q → TimesFit k → TimesFit (after t e k)
times_left i program g numbers note k t e w s p q h fit = times_after t e k (leaves_fit i program g numbers note k t e w s p q h) fit
