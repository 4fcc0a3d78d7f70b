-- Up to where a run goes by a time: its clock begins at 0, and how far it has come.
use Rattle.std.proofs.Common.{◌≡◌, ℕ, zero, suc, ◌+◌, ◌-◌, ◌<◌, ◌≤◌, ℤ, pos, List, [], ◌∷◌, Option, Some, None, false, refl, sym, ap, subst, ◌∙◌, arith}
use Rattle.std.specs.Prelude.{◌<ℤ◌, ◌≤ℤ◌}
use Rattle.base.specs.declared.limits.TheConstants.{PRIORITIES}
use Rattle.base.specs.declared.schedule.ScheduleLine.{ScheduleLine}
use Rattle.kernel.specs.Clock.{clock_from, next, next_time, some_queued, time_moves}
use Rattle.kernel.specs.Dispatching.{dispatch, dispatch_from, highest, runs_from, runs_head}
use Rattle.kernel.specs.Effects.{activated, begin, blank}
use Rattle.kernel.specs.State.{Interrupt, Kernel, Outcome, Partition}
use Rattle.image.specs.Attachments.{interrupts}
use Rattle.image.specs.Code.{CodeWorld, code, partition_of}
use Rattle.image.specs.Sections.{Sections}
use Rattle.image_laws.specs.Laws.{OutcomeStays}
use Rattle.tasking.specs.Held.{kernel_of}
use Rattle.execution.specs.Held.{HeldWorld}
use Rattle.machine.specs.Bounds.{IsCutByTime, IsTimeBound, at_most}
use Rattle.machine.specs.Stands.{HoldsWorld, ShowsText}
use Rattle.machine.specs.declared.bound.Bound.{Bound}
use Rattle.machine.specs.declared.reports.Event.{Event}

-- ---- the clock begins at 0

-- nobody has run yet
record IsFresh (k : Kernel) : Type 0 where
  now : k.now ≡ pos 0
  sleepers : k.sleepers ≡ []
  queued : k.queued ≡ (λ o. None)

fresh_activated : (n : ℕ) (p : Partition) (is : List Interrupt) → IsFresh (activated n (blank p is))
fresh_activated zero p is = record { now = refl; sleepers = refl; queued = refl }
fresh_activated (suc n) p is = let f = fresh_activated n p is in record { now = f.now; sleepers = f.sleepers; queued = f.queued }

nobody_runs : (n : ℕ) (p : Partition) (is : List Interrupt) → (activated n (blank p is)).running ≡ None
nobody_runs zero p is = refl
nobody_runs (suc n) p is = nobody_runs n p is

fresh_head : (ts : List ℕ) (h : ℕ) (k : Kernel) → IsFresh k → IsFresh (runs_head ts h k)
fresh_head [] h k f = f
fresh_head (t ∷ ts) h k f = record { now = f.now; sleepers = f.sleepers; queued = f.queued }

fresh_from : (o : Option ℕ) (k : Kernel) → IsFresh k → IsFresh (runs_from o k)
fresh_from None k f = f
fresh_from (Some h) k f = fresh_head (k.ready h) h k f

none_queued : (n : ℕ) → some_queued (λ o. None) n ≡ false
none_queued zero = refl
none_queued (suc n) = none_queued n

none_next : (is : List Interrupt) → next_time [] is false ≡ None
none_next [] = refl
none_next (i ∷ is) = refl

clock_at_zero : (r : Option ℕ) (k : Kernel) → IsFresh k → (clock_from r k).now ≡ pos 0
clock_at_zero (Some t) k f = f.now
clock_at_zero None k f =
    let none : next k ≡ None =
    ap (λ ss. next_time ss k.pending (some_queued k.queued k.partition.objects)) f.sleepers
    ∙ ap (λ q. next_time [] k.pending (some_queued q k.partition.objects)) f.queued
    ∙ ap (λ b. next_time [] k.pending b) (none_queued k.partition.objects)
    ∙ none_next k.pending in
    ap (λ o. (time_moves o k).now) none ∙ f.now

begins_at_zero : (p : Partition) (is : List Interrupt) → (begin p is).now ≡ pos 0
begins_at_zero p is =
    let a = activated p.tasks (blank p is) in
    let fresh : IsFresh (dispatch a) =
    subst (λ r. IsFresh (dispatch_from r a)) (sym (nobody_runs p.tasks p is)) (fresh_from (highest a.ready PRIORITIES) a (fresh_activated p.tasks p is)) in
    clock_at_zero (dispatch a).running (dispatch a) fresh

-- ---- how far a run has come

-- after so many steps the clock hasn't passed the time
pub record HasCome (i : Sections) (schedule : List ScheduleLine) (until : ℤ) (n : ℕ) (h : HeldWorld) : Type 0 where
  pub image : h.image ≡ i
  pub schedule_is : h.schedule ≡ schedule
  pub stands : HoldsWorld h (code i schedule n)
  pub within : pos 0 ≤ℤ until → (code i schedule n).kernel.now ≤ℤ until

pub comes_first : (h : HeldWorld) (until : ℤ) → HoldsWorld h (code h.image h.schedule 0) → HasCome h.image h.schedule until 0 h
comes_first h until stands =
    let zero_is : (code h.image h.schedule 0).kernel.now ≡ pos 0 = begins_at_zero (partition_of h.image) (interrupts h.image h.schedule) in
    record { image = refl; schedule_is = refl; stands = stands; within = λ natural. subst (λ z. z ≤ℤ until) (sym zero_is) natural }

module _ (i : Sections) (schedule : List ScheduleLine) (until : ℤ) (n : ℕ) (h : HeldWorld) (come : HasCome i schedule until n h) where
  -- a step
  module _ (later : HeldWorld) (event : Event) (said : (m : ℕ) → HoldsWorld h (code h.image h.schedule m) → HoldsWorld later (code h.image h.schedule (m + 1))
      × ShowsText h.image (code h.image h.schedule m).kernel (code h.image h.schedule (m + 1)).kernel event)
      (now : ℤ) (now_is : now ≡ (kernel_of later.tasking).now) where
    stands_later : HoldsWorld later (code i schedule (n + 1))
    stands_later =
        subst (λ s. HoldsWorld later (code i s (n + 1))) come.schedule_is
        (subst (λ j. HoldsWorld later (code j h.schedule (n + 1))) come.image
        (said n (subst (λ j. HoldsWorld h (code j h.schedule n)) (sym come.image) (subst (λ s. HoldsWorld h (code i s n)) (sym come.schedule_is) come.stands))).0)

    now_later : (code i schedule (n + 1)).kernel.now ≡ now
    now_later = ap (λ (w : CodeWorld). w.kernel.now) stands_later ∙ sym now_is

    pub comes_on : later.image ≡ h.image → later.schedule ≡ h.schedule → now ≤ℤ until → HasCome i schedule until (n + 1) later
    comes_on same same_schedule low = record {
      image = same ∙ come.image;
      schedule_is = same_schedule ∙ come.schedule_is;
      stands = stands_later;
      within = λ natural. subst (λ z. z ≤ℤ until) (sym now_later) low;
    }

    -- with which the clock passes the time
    pub cut_there : (limit : ℕ) → n < limit → until <ℤ now → IsCutByTime i schedule until limit n
    cut_there limit less past =
        let at : n + 1 ≡ suc n = omega arith in
        record {
          earlier = less;
          within = come.within;
          passes = subst (λ m. until <ℤ (code i schedule m).kernel.now) at (subst (λ z. until <ℤ z) (sym now_later) past);
        }

  -- an outcome before that
  pub cut_after_outcome : OutcomeStays → (limit : ℕ) → n ≤ limit → (o : Outcome) → (kernel_of h.tasking).outcome ≡ Some o → (bound : Bound) → bound ≡ at_most limit
      → IsTimeBound i schedule until limit bound.steps bound.cut
  cut_after_outcome stays limit le o is bound bound_is =
      let there : (code i schedule n).kernel.outcome ≡ Some o = ap (λ (w : CodeWorld). w.kernel.outcome) come.stands ∙ is in
      let at : n + (limit - n) ≡ limit = omega (arith, le) in
      let same : code i schedule limit ≡ code i schedule n = subst (λ m. code i schedule m ≡ code i schedule n) at (stays i schedule n (limit - n) o there) in
      subst (λ (b : Bound). IsTimeBound i schedule until limit b.steps b.cut) (sym bound_is)
      (record { whole = refl; within = λ natural. subst (λ (w : CodeWorld). w.kernel.now ≤ℤ until) (sym same) (come.within natural) })
