-- What a run comes to, once a task has taken its step, has a meaning: dispatching and the clock end it in order (RM 9.3).
use Rattle.std.proofs.Common.{◌≡◌, ℕ, ℤ, List, [], Option, Some, None, sym, ◌∙◌, subst}
use Rattle.std.specs.Prelude.{int_lt}
use Rattle.kernel.specs.State.{Ended, Kernel, WaitsForever}
use Rattle.kernel.specs.Dispatching.{becomes_ready, dispatch, leaves}
use Rattle.kernel.specs.Interrupts.{delivers}
use Rattle.kernel.specs.Clock.{clock, clock_from, falls_asleep, next, some_queued, time_moves, wakes_due}
use Rattle.kernel.specs.Effects.{Breaks, Delays, Dies, Effect, Ends, Finishes, Opens, Queues, Quiet, Says, Views, after, effect, ending_of, ends, is_over, outer_of}
use Rattle.expr_soundness.specs.meaning.specs.Works.{GivenToCaller, Store}
use Rattle.expr_soundness.specs.meaning.specs.SourceSteps.{Here}
use Rattle.expr_soundness.specs.meaning.proofs.Faults.{delivers_same, dispatch_same, either, ends_same, goes_same, wakes_same}
use Rattle.step_soundness.specs.Opened.{Opened}
use Rattle.step_soundness.specs.Holding.{Accounts}
use Rattle.program_soundness.specs.SoundWorlds.{HasMeaning}

-- ---- an end by the clock has a meaning

meant_as : (l k : Kernel) → l.outcome ≡ k.outcome → HasMeaning k.outcome → HasMeaning l.outcome
meant_as l k e h = subst HasMeaning (sym e) h

time_meant : (o : Option ℤ) (k : Kernel) → HasMeaning k.outcome → HasMeaning (time_moves o k).outcome
time_meant None k h = either (λ o. HasMeaning (Some o)) (some_queued k.queued k.partition.objects) WaitsForever Ended tt tt
time_meant (Some n) k h =
    let l : Kernel = record k { now = n; sleepers = [] } in
    let woken = wakes_due k.sleepers l in
    let told = delivers woken.pending woken in
    meant_as (dispatch told) k (dispatch_same told ∙ (delivers_same woken.pending woken ∙ wakes_same k.sleepers l)) h

clock_meant : (r : Option ℕ) (k : Kernel) → HasMeaning k.outcome → HasMeaning (clock_from r k).outcome
clock_meant (Some t) k h = h
clock_meant None k h = time_meant (next k) k h

pub settled_meant : (k : Kernel) → HasMeaning k.outcome → HasMeaning (clock (dispatch k)).outcome
settled_meant k h = clock_meant (dispatch k).running (dispatch k) (meant_as (dispatch k) k (dispatch_same k) h)

-- ---- a step that is accounted for has one

module _ (h : Here) (m : Store) (before later : List Opened) (g : Option GivenToCaller) (meant : HasMeaning h.kernel.outcome) where
  abbrev k : Kernel
  k = h.kernel

  abbrev t : ℕ
  t = h.task

  pub after_meant : (e : Effect) → Accounts h e m before later g → HasMeaning (after t e k).outcome
  after_meant Quiet owed = settled_meant (effect t Quiet k) meant
  after_meant (Says label value) owed = settled_meant (effect t (Says label value) k) meant
  after_meant (Delays until) owed =
      settled_meant (effect t (Delays until) k)
      (either (λ x. HasMeaning x.outcome) (int_lt k.now until) (falls_asleep t until (leaves t k)) (becomes_ready t (leaves t k)) meant meant)
  after_meant (Opens o) owed = settled_meant (effect t (Opens o) k) meant
  after_meant (Views o) owed = absurd owed
  after_meant (Queues o) owed = settled_meant (effect t (Queues o) k) meant
  after_meant (Ends b) owed =
      let e = ending_of b (k.actions t) k.queued in
      let l = ends t e (outer_of (k.actions t)) k in
      settled_meant (effect t (Ends b) k)
      (meant_as (effect t (Ends b) k) k (goes_same (is_over k.partition t (k.actions t) e) t l ∙ ends_same t e (outer_of (k.actions t)) k) meant)
  after_meant Finishes owed = settled_meant (effect t Finishes k) meant
  after_meant (Dies x) owed = owed.3
  after_meant Breaks owed = absurd owed
