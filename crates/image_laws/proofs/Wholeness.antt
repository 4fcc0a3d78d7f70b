-- The start is whole, and each step keeps a world whole.
use Rattle.std.proofs.Common.{ℕ, zero, suc, ◌≤◌, List, [], inl, inr, ap, sym, subst, ⊎_elim}
use Rattle.std.specs.Prelude.{slice_get}
use Rattle.base.specs.declared.schedule.ScheduleLine.{ScheduleLine}
use Rattle.kernel.specs.Invariant.{IsBarrierHeld}
use Rattle.kernel.specs.Laws.{BeginsKept, EntryOpens, FourHold, HandlersGoOn, KeptByEvery, ReachesCallers, StartSettles, StepsSettle}
use Rattle.kernel.specs.RunLaws.{run_kept, unseen_run}
use Rattle.kernel.specs.Worlds.{among, run, solo_of, step}
use Rattle.image.specs.Code.{CodeWorld}
use Rattle.image.specs.Rules.{IsWellFormed}
use Rattle.image.specs.Sections.{Sections}
use Rattle.image.specs.Steps.{act, behaviour, is_open, opens_row}
use Rattle.image_laws.specs.Whole.{IsWhole, RunnerGoesOn, RunnerOwes, RunnerPasses, RunnerSound, StartsWhole, StepsWhole, UnseenWhole}
use Rattle.image_laws.proofs.Exclusion.{behaves, start_kept, start_own}
use Rattle.image_laws.proofs.LinkedSteps.{own_links, own_owes, own_sound}

module _ (begins : BeginsKept) (every : KeptByEvery) (settles : StepsSettle) (starts : StartSettles) (free : EntryOpens) (reaches : ReachesCallers) (four : FourHold) where
  pub starts_whole : StartsWhole
  starts_whole i w schedule =
      let own = start_own i w begins every settles starts free reaches four schedule in
      record { kept = start_kept i w begins every settles starts free reaches four schedule; linked = own.0; handled = own.1; bounded = own.2; partition = own.3 }

  module _ (i : Sections) (w : IsWellFormed i) (schedule : List ScheduleLine) where
    pub steps_whole_of : (v : CodeWorld) → IsWhole i v → IsWhole i (step (among (behaviour i schedule)) v)
    steps_whole_of v h =
        let x = run_kept (among (behaviour i schedule)) (λ d. is_open i d.memory) _ every (behaves i w begins every settles starts free reaches four schedule) 1 v (h.linked, h.handled, h.bounded, h.partition) h.kept in
        record { kept = x.1; linked = x.0.0; handled = x.0.1; bounded = x.0.2; partition = x.0.3 }

    runs_whole_of : (n : ℕ) (v : CodeWorld) → IsWhole i v → IsWhole i (run (among (behaviour i schedule)) n v)
    runs_whole_of zero v h = h
    runs_whole_of (suc n) v h = runs_whole_of n (step (among (behaviour i schedule)) v) (steps_whole_of v h)

  pub steps_whole : StepsWhole
  steps_whole i w schedule v h = steps_whole_of i w schedule v h

  pub unseen_whole : UnseenWhole
  unseen_whole i w schedule t n k l d s seen h =
      let e = unseen_run (behaviour i schedule) t n d k l s seen in
      (subst (IsWhole i) e (runs_whole_of i w schedule n (record { kernel = k; rest = d }) h), e)

  pub runner_sound : RunnerSound
  runner_sound i w v t h is =
      let image = h.bounded.running t is in
      (image, own_sound i w free reaches four [] (is_open i v.rest.memory) v.kernel t v.rest h.kept is image h.partition h.linked)

  pub runner_owes : RunnerOwes
  runner_owes i w schedule v t h is =
      own_owes i w free reaches four schedule (is_open i v.rest.memory) v.kernel t v.rest h.kept is (h.bounded.running t is) h.partition h.linked

  pub runner_passes : RunnerPasses
  runner_passes i w schedule v t h is =
      (own_links i w free reaches four schedule (is_open i v.rest.memory) v.kernel t v.rest h.kept is (h.bounded.running t is) h.partition h.linked).passed

  pub runner_goes_on : HandlersGoOn → RunnerGoesOn
  runner_goes_on goes i w schedule v t h is low =
      let r = act i schedule v.kernel t (solo_of t v.rest) in
      let x = own_links i w free reaches four schedule (is_open i v.rest.memory) v.kernel t v.rest h.kept is (h.bounded.running t is) h.partition h.linked in
      let held : IsBarrierHeld (is_open i v.rest.memory) (is_open i r.solo.memory) v.kernel t =
      (λ o. ⊎_elim (λ same. inl (ap (opens_row (slice_get i.objects o)) same)) (λ has. inr has) (x.held o)) in
      let beyond : v.kernel.partition.tasks ≤ t = subst (λ p. p.tasks ≤ t) (sym h.partition) low in
      goes (is_open i v.rest.memory) (is_open i r.solo.memory) v.kernel t r.effect is beyond held x.passed h.kept
