-- The kernel's invariant holds in every world of every well-formed image.
use Rattle.std.proofs.Common.{◌≡◌, inl, inr, ℕ, zero, suc, ◌+◌, ◌<◌, ◌≤◌, Bool, List, [], ◌∷◌, length, Option, Some, None, refl, sym, ap, ◌∙◌, subst, arith, ⊎_elim}
use Rattle.std.specs.Prelude.{slice_get}
use Rattle.base.specs.declared.limits.TheConstants.{PRIORITIES}
use Rattle.base.specs.declared.schedule.ScheduleLine.{ScheduleLine}
use Rattle.kernel.specs.State.{Action, Kernel, Writes, actor, put}
use Rattle.kernel.specs.Calm.{IsRunner}
use Rattle.kernel.specs.Effects.{activated, after, begin, blank, done}
use Rattle.kernel.specs.Interrupts.{interrupt_if}
use Rattle.kernel.specs.Invariant.{AreAttached, Fits, IsBarrierHeld, Kept}
use Rattle.kernel.specs.Laws.{BeginsKept, EntryOpens, FourHold, KeptByEvery, ReachesCallers, SettlesTo, StartSettles, StepsSettle}
use Rattle.kernel.specs.RunLaws.{Behaves, run_kept}
use Rattle.kernel.specs.Worlds.{Tasks, among}
use Rattle.kernel.proofs.Left.{done_partition, done_pending}
use Rattle.image.specs.Attachments.{handling_object, interrupts}
use Rattle.image.specs.Sections.{Sections}
use Rattle.image.specs.ObjectTable.{ObjectRow}
use Rattle.image.specs.Rules.{IsWellFormed}
use Rattle.image.specs.Frames.{TaskState, Words}
use Rattle.image.specs.Steps.{behaviour, is_open, opens_row}
use Rattle.image.specs.Code.{CodeWorld, ceiling_of, code, initial_state, partition_of, priority_of, start}
use Rattle.image_laws.specs.Laws.{FourInEveryWorld, KernelKept, LinkedInEveryWorld}
use Rattle.image_laws.specs.Linked.{AreHandled, IsLinked}
use Rattle.image_laws.specs.Shape.{IsImageTask}
use Rattle.image.specs.declared.tasks.Task.{Task}
use Rattle.image_laws.specs.Within.{Anytime}
use Rattle.image_laws.proofs.Bounds.{Awaits, Bounded, bounded_after, bounded_begin, timely_anytime}
use Rattle.image_laws.proofs.HandlerProcedures.{handler_procedure, handling_at, handling_is}
use Rattle.image_laws.proofs.LinkedSteps.{own_links, step_linked}
use Rattle.image_laws.proofs.Starts.{actor_image, begins_linked, start_linked}
use Rattle.image_laws.proofs.WellFormed.{ceiling_is, priority_is}

-- The start

activated_actions : (n : ℕ) (k : Kernel) → ((activated n k).actions ≡ k.actions) × ((activated n k).queued ≡ k.queued) × ((activated n k).partition ≡ k.partition) × ((activated n k).pending ≡ k.pending)
activated_actions zero k = (refl, refl, refl, refl)
activated_actions (suc n) k = activated_actions n k

none_past : {X : Type 0} (xs : List X) (n : ℕ) → length xs ≤ n → slice_get xs n ≡ None
none_past [] n le = refl
none_past (x ∷ xs) zero le = absurd (omega arith)
none_past (x ∷ xs) (suc n) le = none_past xs n (omega arith)

module _ (i : Sections) (w : IsWellFormed i) where
  pub fits : Fits (partition_of i)
  fits =
      record {
        base_low = λ t. low (slice_get i.tasks t) t refl;
        ceiling_low = λ o. under (slice_get i.objects o) o refl;
        urgent = λ u le. ap (λ x. suc (priority_of x)) (none_past i.tasks u le);
      }
    where
      low : (x : Option Task) (t : ℕ) → slice_get i.tasks t ≡ x → priority_of x < PRIORITIES
      low None t is = omega arith
      low (Some x) t is = let le = priority_is i w t x is in omega (arith, le)

      under : (x : Option ObjectRow) (o : ℕ) → slice_get i.objects o ≡ x → ceiling_of x < PRIORITIES
      under None o is = omega arith
      under (Some x) o is = let le = ceiling_is i w o x is in omega (arith, le)

  -- the interrupts of a schedule

  high : (channel o : ℕ) → handling_object i channel ≡ Some o → suc ((partition_of i).ceiling o) ≡ PRIORITIES
  high channel o is =
      let n = handling_at i channel o is in
      let h = handler_procedure i w channel n.0 n.1 in
      subst (λ p. suc ((partition_of i).ceiling p) ≡ PRIORITIES) (handling_is i w channel n.0 o n.1 is)
      (ap (λ x. suc (ceiling_of x)) h.row_is ∙ ap suc h.ceiling)

  pub attached : (schedule : List ScheduleLine) → AreAttached (partition_of i) (interrupts i schedule)
  attached [] = tt
  attached (l ∷ ls) = by (handling_object i l.channel) refl (attached ls)
    where
      by : (o : Option ℕ) → handling_object i l.channel ≡ o → AreAttached (partition_of i) (interrupts i ls) → AreAttached (partition_of i) (interrupt_if o l (interrupts i ls))
      by None is rest = rest
      by (Some o) is rest = (high l.channel o is, rest)

  pub handled : (schedule : List ScheduleLine) → AreHandled i (interrupts i schedule)
  handled [] = tt
  handled (l ∷ ls) = by (handling_object i l.channel) refl (handled ls)
    where
      by : (o : Option ℕ) → handling_object i l.channel ≡ o → AreHandled i (interrupts i ls) → AreHandled i (interrupt_if o l (interrupts i ls))
      by None is rest = rest
      by (Some o) is rest = (is, rest)

  pub awaited : (schedule : List ScheduleLine) → Awaits (IsImageTask i) Anytime (length i.tasks) (interrupts i schedule)
  awaited [] = tt
  awaited (l ∷ ls) = by (handling_object i l.channel) refl (awaited ls)
    where
      by : (o : Option ℕ) → handling_object i l.channel ≡ o → Awaits (IsImageTask i) Anytime (length i.tasks) (interrupts i ls) → Awaits (IsImageTask i) Anytime (length i.tasks) (interrupt_if o l (interrupts i ls))
      by None is rest = rest
      by (Some o) is rest = (actor_image i w l.channel o is, tt, rest)

  -- what dispatching, the clock and the start of a handler keep

  relinked : (tasks : ℕ → TaskState) (a b : ℕ → List Action) (q p : ℕ → Option ℕ) → b ≡ a → p ≡ q → IsLinked i a q tasks → IsLinked i b p tasks
  relinked tasks a b q p e f linked = subst (λ x. IsLinked i x p tasks) (sym e) (subst (λ x. IsLinked i a x tasks) (sym f) linked)

  settled_linked : (k l : Kernel) (tasks : ℕ → TaskState) → SettlesTo k l → k.partition ≡ partition_of i → AreHandled i k.pending → IsLinked i k.actions k.queued tasks → IsLinked i l.actions l.queued tasks × AreHandled i l.pending
  settled_linked k l tasks h p all linked =
      ⊎_elim
      (λ e. (relinked tasks k.actions l.actions k.queued l.queued e.1 h.queued linked, subst (AreHandled i) (sym e.0) all))
      (λ x.
      let c = x.0.channel in
      let new = Writes x.0.object ∷ [] in
      let each : AreHandled i (x.0 ∷ l.pending) = subst (AreHandled i) x.1.first all in
      let idle : k.actions (length i.tasks + c) ≡ [] = sym (λ m. k.actions (actor (p m) c)) ∙ x.1.idle in
      let begun = begins_linked i w k.actions k.queued tasks c x.0.object each.0 idle linked in (
        relinked tasks (put (length i.tasks + c) new k.actions) l.actions k.queued l.queued (x.1.actions ∙ (λ m. put (actor (p m) c) new k.actions)) h.queued begun,
        each.1,
      ))
      h.actions

  pub starts_linked : StartSettles → (schedule : List ScheduleLine) → (let v = start i schedule in
      IsLinked i v.kernel.actions v.kernel.queued v.rest.tasks × AreHandled i v.kernel.pending × (v.kernel.partition ≡ partition_of i))
  starts_linked starts schedule =
      let p = partition_of i in
      let is = interrupts i schedule in
      let k = activated p.tasks (blank p is) in
      let a = activated_actions p.tasks (blank p is) in
      let h = starts p is fits (attached schedule) in
      let x = settled_linked k (begin p is) (initial_state i) h a.2 (subst (AreHandled i) (sym a.3) (handled schedule)) (relinked (initial_state i) (λ t. []) k.actions (λ o. None) k.queued a.0 a.1 (start_linked i w)) in
      (x.0, x.1, h.partition ∙ a.2)

  pub starts_bounded : (schedule : List ScheduleLine) → Bounded (IsImageTask i) Anytime (begin (partition_of i) (interrupts i schedule))
  starts_bounded schedule = bounded_begin (IsImageTask i) Anytime (partition_of i) (interrupts i schedule) (λ t lt. inl lt) (awaited schedule) tt

  -- Runs

  module _ (begins : BeginsKept) (every : KeptByEvery) (settles : StepsSettle) (starts : StartSettles) (free : EntryOpens) (reaches : ReachesCallers) (four : FourHold) (schedule : List ScheduleLine) where
    abbrev barriers : Tasks Words TaskState → ℕ → Bool
    barriers d = is_open i d.memory

    abbrev pub Own : CodeWorld → Type 0
    Own v =
        IsLinked i v.kernel.actions v.kernel.queued v.rest.tasks × AreHandled i v.kernel.pending × Bounded (IsImageTask i) Anytime v.kernel × (v.kernel.partition ≡ partition_of i)

    pub behaves : (k : Kernel) (t : ℕ) (d : Tasks Words TaskState) → Own (record { kernel = k; rest = d }) → Kept (barriers d) k → IsRunner k t → Behaves (among (behaviour i schedule)) barriers Own k t d
    behaves k t d own kept runs =
        let image = own.2.running t runs.running in
        let x = own_links i w free reaches four schedule (barriers d) k t d kept runs.running image own.3 own.0 in
        let linked = step_linked i w free reaches four schedule (barriers d) k t d kept runs.running image own.3 own.0 in
        let a = among (behaviour i schedule) k t d in
        let e = a.effect in
        let held : IsBarrierHeld (barriers d) (barriers a.rest) k t = λ o. ⊎_elim (λ same. inl (ap (opens_row (slice_get i.objects o)) same)) (λ h. inr h) (x.held o) in
        let h : SettlesTo (done t e k) (after t e k) = settles (barriers d) (barriers a.rest) k t e runs.running held x.passed kept in
        let p : (done t e k).partition ≡ partition_of i = done_partition t e k ∙ own.3 in
        let both = settled_linked (done t e k) (after t e k) a.rest.tasks h p (subst (AreHandled i) (sym (done_pending t e k)) own.1) linked in
        record {
          held = held;
          passed = x.passed;
          own = (both.0, both.1, bounded_after (IsImageTask i) Anytime t e k image (timely_anytime (IsImageTask i) e) own.2, h.partition ∙ p);
        }

    pub start_own : Own (start i schedule)
    start_own = let x = starts_linked starts schedule in (x.0, x.1, starts_bounded schedule, x.2)

    pub start_kept : Kept (barriers (start i schedule).rest) (start i schedule).kernel
    start_kept = begins (barriers (start i schedule).rest) (partition_of i) (interrupts i schedule) fits (attached schedule)

    pub always : (m : ℕ) → (let v = code i schedule m in Own v × Kept (barriers v.rest) v.kernel)
    always m = run_kept (among (behaviour i schedule)) barriers Own every behaves m (start i schedule) start_own start_kept

pub kernel_kept : BeginsKept → KeptByEvery → StepsSettle → StartSettles → EntryOpens → ReachesCallers → FourHold → KernelKept
kernel_kept begins every settles starts free reaches four i w schedule m = (always i w begins every settles starts free reaches four schedule m).1

pub four_in_every_world : BeginsKept → KeptByEvery → StepsSettle → StartSettles → EntryOpens → ReachesCallers → FourHold → FourInEveryWorld
four_in_every_world begins every settles starts free reaches four i w schedule m =
    four (is_open i (code i schedule m).rest.memory) (code i schedule m).kernel (always i w begins every settles starts free reaches four schedule m).1

pub linked_in_every_world : BeginsKept → KeptByEvery → StepsSettle → StartSettles → EntryOpens → ReachesCallers → FourHold → LinkedInEveryWorld
linked_in_every_world begins every settles starts free reaches four i w schedule m = (always i w begins every settles starts free reaches four schedule m).0.0
