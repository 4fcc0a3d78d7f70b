-- Whom and what the kernel holds: tasks and times within given bounds.
use Rattle.std.proofs.Common.{◌≡◌, ℕ, zero, suc, ◌<◌, arith, List, [], ◌∷◌, ◌++◌, ℤ, pos, Bool, true, false, cond, Option, Some, None, refl, subst}
use Rattle.std.proofs.lemmas.Option.{none-some, same_Some}
use Rattle.std.specs.Prelude.{int_lt, nat_lt}
use Rattle.base.specs.declared.limits.TheConstants.{PRIORITIES}
use Rattle.kernel.specs.State.{Interrupt, Kernel, Partition, Sleeper, Action, Reads, Writes, Serves, active, actor, put}
use Rattle.kernel.specs.Dispatching.{becomes_ready, dispatch, dispatch_from, highest, leaves, preempted, preempts, runs_from, runs_head}
use Rattle.kernel.specs.Interrupts.{delivers, starts}
use Rattle.kernel.specs.Clock.{clock, clock_from, falls_asleep, least, next, next_time, released, some_queued, time_moves, wakes_due, wakes_if_due}
use Rattle.kernel.specs.Effects.{Effect, Quiet, Finishes, Breaks, Says, Delays, Opens, Views, Queues, Ends, Dies, Ending, Closes, TakesOver, HandsBack, activated, after, begin, blank, effect, ending_of, ends, goes_if, is_over, outer_of, service}
use Rattle.kernel.specs.PutLaws.{by_put, of_put}
use Rattle.image_laws.specs.Within as within
use Rattle.image_laws.specs.Within.{Anytime}

module _ (R : ℕ → Type 0) (W : ℤ → Type 0) where
  abbrev Each : List ℕ → Type 0
  Each = within.Each R W

  abbrev pub Sleeps : List Sleeper → Type 0
  Sleeps = within.Sleeps R W

  abbrev pub Awaits : ℕ → List Interrupt → Type 0
  Awaits = within.Awaits R W

  abbrev Callers : List Action → Type 0
  Callers = within.Callers R W

  abbrev pub Bounded : Kernel → Type 0
  Bounded = within.Bounded R W

  each_more : (ts : List ℕ) (t : ℕ) → Each ts → R t → Each (ts ++ t ∷ [])
  each_more [] t all r = (r, tt)
  each_more (u ∷ ts) t all r = (all.0, each_more ts t all.1 r)

  sleeps_more : (ss : List Sleeper) (s : Sleeper) → Sleeps ss → R s.task → W s.wake → Sleeps (ss ++ s ∷ [])
  sleeps_more [] s all r x = (r, x, tt)
  sleeps_more (q ∷ ss) s all r x = (all.0, all.1, sleeps_more ss s all.2 r x)

  bounded_ready : (t : ℕ) (k : Kernel) → R t → Bounded k → Bounded (becomes_ready t k)
  bounded_ready t k r b =
      record {
        running = b.running;
        ready = λ h. by_put Each (active k t) h (k.ready (active k t) ++ t ∷ []) k.ready (λ e. each_more (k.ready (active k t)) t (b.ready (active k t)) r) (λ ne. b.ready h);
        sleepers = b.sleepers;
        pending = b.pending;
        queued = b.queued;
        callers = b.callers;
        now = b.now;
      }

  bounded_left : (t : ℕ) (k : Kernel) → Bounded k → Bounded (leaves t k)
  bounded_left t k b = record { running = λ u e. absurd (none-some u e); ready = b.ready; sleepers = b.sleepers; pending = b.pending; queued = b.queued; callers = b.callers; now = b.now }

  bounded_released : (t : ℕ) (k : Kernel) → Bounded k → Bounded (released t k)
  bounded_released t k b = record { running = b.running; ready = b.ready; sleepers = b.sleepers; pending = b.pending; queued = b.queued; callers = b.callers; now = b.now }

  bounded_asleep : (t : ℕ) (z : ℤ) (k : Kernel) → R t → W z → Bounded k → Bounded (falls_asleep t z k)
  bounded_asleep t z k r x b =
      record { running = b.running; ready = b.ready; sleepers = sleeps_more k.sleepers (record { task = t; wake = z }) b.sleepers r x; pending = b.pending; queued = b.queued; callers = b.callers; now = b.now }

  bounded_actions : (t : ℕ) (actions : List Action) (k : Kernel) → Callers actions → Bounded k → Bounded (record k { actions = put t actions k.actions })
  bounded_actions t actions k all b =
      record { running = b.running; ready = b.ready; sleepers = b.sleepers; pending = b.pending; queued = b.queued; callers = λ u. by_put Callers t u actions k.actions (λ e. all) (λ ne. b.callers u); now = b.now }

  -- dispatching

  bounded_head : (ts : List ℕ) (h : ℕ) (k : Kernel) → Each ts → Bounded k → Bounded (runs_head ts h k)
  bounded_head [] h k all b = b
  bounded_head (t ∷ ts) h k all b =
      record {
        running = λ u e. subst R (same_Some _ _ e) all.0;
        ready = λ g. by_put Each h g ts k.ready (λ e. all.1) (λ ne. b.ready g);
        sleepers = b.sleepers;
        pending = b.pending;
        queued = b.queued;
        callers = b.callers;
        now = b.now;
      }

  bounded_from : (o : Option ℕ) (k : Kernel) → Bounded k → Bounded (runs_from o k)
  bounded_from None k b = b
  bounded_from (Some h) k b = bounded_head (k.ready h) h k (b.ready h) b

  bounded_preempted : (t : ℕ) (k : Kernel) → R t → Bounded k → Bounded (preempted t k)
  bounded_preempted t k r b =
      record {
        running = λ u e. absurd (none-some u e);
        ready = λ h. by_put Each (active k t) h (t ∷ k.ready (active k t)) k.ready (λ e. (r, b.ready (active k t))) (λ ne. b.ready h);
        sleepers = b.sleepers;
        pending = b.pending;
        queued = b.queued;
        callers = b.callers;
        now = b.now;
      }

  bounded_cond : (c : Bool) (k l : Kernel) → Bounded k → Bounded l → Bounded (cond c k l)
  bounded_cond true k l p q = p
  bounded_cond false k l p q = q

  bounded_preempts : (t : ℕ) (o : Option ℕ) (k : Kernel) → R t → Bounded k → Bounded (preempts t o k)
  bounded_preempts t None k r b = b
  bounded_preempts t (Some h) k r b = bounded_cond (nat_lt (active k t) h) _ _ (bounded_from (Some h) (preempted t k) (bounded_preempted t k r b)) b

  bounded_dispatch : (k : Kernel) → Bounded k → Bounded (dispatch k)
  bounded_dispatch k b = by k.running refl
    where
      by : (o : Option ℕ) → k.running ≡ o → Bounded (dispatch_from o k)
      by None e = bounded_from (highest k.ready PRIORITIES) k b
      by (Some t) e = bounded_preempts t (highest k.ready PRIORITIES) k (b.running t e) b

  -- the clock

  bounded_due : (s : Sleeper) (k : Kernel) → R s.task → W s.wake → Bounded k → Bounded (wakes_if_due s k)
  bounded_due s k r x b =
      bounded_cond (int_lt k.now s.wake) _ _
      (record { running = b.running; ready = b.ready; sleepers = sleeps_more k.sleepers s b.sleepers r x; pending = b.pending; queued = b.queued; callers = b.callers; now = b.now })
      (bounded_ready s.task (released s.task k) r (bounded_released s.task k b))

  bounded_wakes : (ss : List Sleeper) (k : Kernel) → Sleeps ss → Bounded k → Bounded (wakes_due ss k)
  bounded_wakes [] k all b = b
  bounded_wakes (s ∷ ss) k all b = bounded_wakes ss (wakes_if_due s k) all.2 (bounded_due s k all.0 all.1 b)

  least_within : (z : ℤ) (ss : List Sleeper) → W z → Sleeps ss → W (least z ss)
  least_within z [] x all = x
  least_within z (s ∷ ss) x all = by (int_lt s.wake z) (least_within s.wake ss all.1 all.2) (least_within z ss x all.2)
    where
      by : (c : Bool) → W (least s.wake ss) → W (least z ss) → W (cond c (least s.wake ss) (least z ss))
      by true p q = p
      by false p q = q

  -- interrupts

  bounded_delivers : (is : List Interrupt) (k : Kernel) → Awaits k.partition.tasks is → Bounded k → Bounded (delivers is k)
  bounded_delivers [] k all b = b
  bounded_delivers (i ∷ is) k all b =
      bounded_cond (int_lt k.now i.time) k (starts i (record k { pending = is })) b
      (record {
        running = λ u e. subst R (same_Some _ _ e) all.0;
        ready = b.ready;
        sleepers = b.sleepers;
        pending = all.2;
        queued = b.queued;
        callers = λ u. by_put Callers (actor k.partition i.channel) u (Writes i.object ∷ []) k.actions (λ e. tt) (λ ne. b.callers u);
        now = b.now;
      })

  next_within : (ss : List Sleeper) (is : List Interrupt) (q : Bool) (tasks : ℕ) → Sleeps ss → Awaits tasks is → (z : ℤ) → next_time ss is q ≡ Some z → W z
  next_within [] [] q tasks all wait z e = absurd (none-some z e)
  next_within [] (i ∷ is) true tasks all wait z e = subst W (same_Some _ _ e) wait.1
  next_within [] (i ∷ is) false tasks all wait z e = absurd (none-some z e)
  next_within (s ∷ ss) [] q tasks all wait z e = subst W (same_Some _ _ e) (least_within s.wake ss all.1 all.2)
  next_within (s ∷ ss) (i ∷ is) q tasks all wait z e = subst W (same_Some _ _ e) (least_within i.time (s ∷ ss) wait.1 all)

  bounded_time : (o : Option ℤ) (k : Kernel) → next k ≡ o → Bounded k → Bounded (time_moves o k)
  bounded_time None k e b = record { running = b.running; ready = b.ready; sleepers = b.sleepers; pending = b.pending; queued = b.queued; callers = b.callers; now = b.now }
  bounded_time (Some z) k e b =
      let there : W z = next_within k.sleepers k.pending (some_queued k.queued k.partition.objects) k.partition.tasks b.sleepers b.pending z e in
      let at : Bounded (record k { now = z; sleepers = [] }) =
      record { running = b.running; ready = b.ready; sleepers = tt; pending = b.pending; queued = b.queued; callers = b.callers; now = there } in
      let woken = wakes_due k.sleepers (record k { now = z; sleepers = [] }) in
      let w : Bounded woken = bounded_wakes k.sleepers (record k { now = z; sleepers = [] }) b.sleepers at in
      bounded_dispatch (delivers woken.pending woken) (bounded_delivers woken.pending woken w.pending w)

  bounded_clock : (k : Kernel) → Bounded k → Bounded (clock k)
  bounded_clock k b = by k.running
    where
      by : (o : Option ℕ) → Bounded (clock_from o k)
      by None = bounded_time (next k) k refl b
      by (Some t) = b

  -- effects

  -- a delay's time is within its bounds
  abbrev pub Timely : Effect → Type 0
  Timely (Delays z) = W z
  Timely _ = Unit {0}

  outer_callers : (actions : List Action) → Callers actions → Callers (outer_of actions)
  outer_callers [] all = tt
  outer_callers (Reads o ∷ outer) all = all
  outer_callers (Writes o ∷ outer) all = all
  outer_callers (Serves o u ∷ outer) all = all.1

  abbrev EndsWithin : Ending → Type 0
  EndsWithin Closes = Unit {0}
  EndsWithin (TakesOver o u) = R u
  EndsWithin (HandsBack u) = R u

  service_within : (c : Bool) (o : ℕ) (q : Option ℕ) → ((u : ℕ) → q ≡ Some u → R u) → EndsWithin (service c o q)
  service_within false o q h = tt
  service_within true o None h = tt
  service_within true o (Some u) h = h u refl

  ending_within : (c : Bool) (actions : List Action) (k : Kernel) → Callers actions → Bounded k → EndsWithin (ending_of c actions k.queued)
  ending_within c [] k all b = tt
  ending_within c (Reads o ∷ outer) k all b = tt
  ending_within c (Writes o ∷ outer) k all b = service_within c o (k.queued o) (b.queued o)
  ending_within c (Serves o u ∷ outer) k all b = all.0

  bounded_ends : (t : ℕ) (x : Ending) (outer : List Action) (k : Kernel) → EndsWithin x → Callers outer → Bounded k → Bounded (ends t x outer k)
  bounded_ends t Closes outer k within all b = bounded_actions t outer k all b
  bounded_ends t (TakesOver o u) outer k within all b =
      record {
        running = b.running;
        ready = b.ready;
        sleepers = b.sleepers;
        pending = b.pending;
        queued = λ p v e. of_put (λ q. q ≡ Some v) (R v) o p None k.queued e (λ s e. absurd (none-some v e)) (λ ne e. b.queued p v e);
        callers = λ v. by_put Callers t v (Serves o u ∷ outer) k.actions (λ e. (within, all)) (λ ne. b.callers v);
        now = b.now;
      }
  bounded_ends t (HandsBack u) outer k within all b =
      bounded_ready u _ within (bounded_released u _ (bounded_actions t outer k all b))

  -- a handler that is over goes
  bounded_goes : (c : Bool) (t : ℕ) (k : Kernel) → Bounded k → Bounded (goes_if c t k)
  bounded_goes false t k b = b
  bounded_goes true t k b = bounded_delivers k.pending (leaves t k) b.pending (bounded_left t k b)

  bounded_effect : (t : ℕ) (e : Effect) (k : Kernel) → R t → Timely e → Bounded k → Bounded (effect t e k)
  bounded_effect t Quiet k r x b = b
  bounded_effect t (Says label v) k r x b = record { running = b.running; ready = b.ready; sleepers = b.sleepers; pending = b.pending; queued = b.queued; callers = b.callers; now = b.now }
  bounded_effect t (Delays z) k r x b =
      bounded_cond (int_lt k.now z) _ _ (bounded_asleep t z (leaves t k) r x (bounded_left t k b)) (bounded_ready t (leaves t k) r (bounded_left t k b))
  bounded_effect t (Opens o) k r x b = bounded_actions t _ k (b.callers t) b
  bounded_effect t (Views o) k r x b = bounded_actions t _ k (b.callers t) b
  bounded_effect t (Queues o) k r x b =
      let l = bounded_left t k b in
      record {
        running = l.running;
        ready = l.ready;
        sleepers = l.sleepers;
        pending = l.pending;
        queued = λ p v e. of_put (λ q. q ≡ Some v) (R v) o p (Some t) k.queued e (λ s e. subst R (same_Some _ _ e) r) (λ ne e. b.queued p v e);
        callers = l.callers;
        now = l.now;
      }
  bounded_effect t (Ends c) k r x b =
      bounded_goes (is_over k.partition t (k.actions t) (ending_of c (k.actions t) k.queued)) t _
      (bounded_ends t (ending_of c (k.actions t) k.queued) (outer_of (k.actions t)) k (ending_within c (k.actions t) k (b.callers t) b) (outer_callers (k.actions t) (b.callers t)) b)
  bounded_effect t Finishes k r x b = bounded_left t k b
  bounded_effect t (Dies y) k r x b = record { running = b.running; ready = b.ready; sleepers = b.sleepers; pending = b.pending; queued = b.queued; callers = b.callers; now = b.now }
  bounded_effect t Breaks k r x b = record { running = b.running; ready = b.ready; sleepers = b.sleepers; pending = b.pending; queued = b.queued; callers = b.callers; now = b.now }

  settles : (k : Kernel) → Bounded k → Bounded (clock (dispatch k))
  settles k b = bounded_clock (dispatch k) (bounded_dispatch k b)

  pub bounded_after : (t : ℕ) (e : Effect) (k : Kernel) → R t → Timely e → Bounded k → Bounded (after t e k)
  bounded_after t Quiet k r x b = settles _ (bounded_effect t Quiet k r x b)
  bounded_after t (Says label v) k r x b = settles _ (bounded_effect t (Says label v) k r x b)
  bounded_after t (Delays z) k r x b = settles _ (bounded_effect t (Delays z) k r x b)
  bounded_after t (Opens o) k r x b = settles _ (bounded_effect t (Opens o) k r x b)
  bounded_after t (Views o) k r x b = settles _ (bounded_effect t (Views o) k r x b)
  bounded_after t (Queues o) k r x b = settles _ (bounded_effect t (Queues o) k r x b)
  bounded_after t (Ends c) k r x b = settles _ (bounded_effect t (Ends c) k r x b)
  bounded_after t Finishes k r x b = settles _ (bounded_effect t Finishes k r x b)
  bounded_after t (Dies y) k r x b = bounded_effect t (Dies y) k r x b
  bounded_after t Breaks k r x b = bounded_effect t Breaks k r x b

  -- the start

  bounded_activated : (n : ℕ) (k : Kernel) → ((t : ℕ) → t < n → R t) → Bounded k → Bounded (activated n k)
  bounded_activated zero k all b = b
  bounded_activated (suc n) k all b = bounded_ready n (activated n k) (all n (omega arith)) (bounded_activated n k (λ t lt. all t (omega (arith, lt))) b)

  pub bounded_begin : (p : Partition) (interrupts : List Interrupt) → ((t : ℕ) → t < p.tasks → R t) → Awaits p.tasks interrupts → W (pos 0) → Bounded (begin p interrupts)
  bounded_begin p interrupts all wait x =
      settles _ (bounded_activated p.tasks (blank p interrupts) all
      (record { running = λ t e. absurd (none-some t e); ready = λ h. tt; sleepers = tt; pending = wait; queued = λ o u e. absurd (none-some u e); callers = λ t. tt; now = x }))

pub timely_anytime : (R : ℕ → Type 0) (e : Effect) → Timely R Anytime e
timely_anytime R (Delays z) = tt
timely_anytime R Quiet = tt
timely_anytime R (Says label v) = tt
timely_anytime R (Opens o) = tt
timely_anytime R (Views o) = tt
timely_anytime R (Queues o) = tt
timely_anytime R (Ends c) = tt
timely_anytime R Finishes = tt
timely_anytime R (Dies x) = tt
timely_anytime R Breaks = tt
