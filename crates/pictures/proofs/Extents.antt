-- How far a run has gone: where the machine stands, and how many steps were taken.
use Rattle.std.proofs.Common.{◌≡◌, ◌⊎◌, ℕ, zero, suc, ◌+◌, ◌-◌, ◌≤◌, ⊎_elim, List, Some, None, refl, sym, ap, subst, ◌∙◌, arith}
use Rattle.base.specs.declared.schedule.ScheduleLine.{ScheduleLine}
use Rattle.kernel.specs.State.{Outcome}
use Rattle.image.specs.Code.{CodeWorld, code}
use Rattle.image.specs.Sections.{Sections}
use Rattle.image_laws.specs.Laws.{OutcomeStays}
use Rattle.tasking.specs.Held.{kernel_of}
use Rattle.execution.specs.Held.{HeldWorld}
use Rattle.machine.specs.Stands.{HoldsWorld}
use Rattle.machine.specs.Taken.{steps_taken}
use Rattle.machine.specs.declared.reports.Event.{Event}
use Rattle.machine.proofs.Taken.{one_taken, taken_stays}
use Rattle.pictures.proofs.Drawn.{StepsBy, stepped}

-- after n steps: the machine stands for the world, and no world before it had an outcome
pub record Counted (i : Sections) (schedule : List ScheduleLine) (n : ℕ) (h : HeldWorld) : Type 0 where
  pub image : h.image ≡ i
  pub schedule_is : h.schedule ≡ schedule
  pub stands : HoldsWorld h (code i schedule n)
  pub taken : steps_taken i schedule n ≡ n

pub none_counted : (h : HeldWorld) → HoldsWorld h (code h.image h.schedule 0) → Counted h.image h.schedule 0 h
none_counted h stands = record { image = refl; schedule_is = refl; stands = stands; taken = refl }

module _ (i : Sections) (schedule : List ScheduleLine) (n : ℕ) (h : HeldWorld) (r : Counted i schedule n h) where
  pub one_counted : (next : HeldWorld) (shown : Event) → StepsBy h next shown → (kernel_of h.tasking).outcome ≡ None → next.image ≡ h.image → next.schedule ≡ h.schedule → Counted i schedule (n + 1) next
  one_counted next shown steps going same_image same_schedule =
      let at : n + 1 ≡ suc n = omega arith in
      let before : (code i schedule n).kernel.outcome ≡ None = ap (λ (w : CodeWorld). w.kernel.outcome) r.stands ∙ going in
      subst (λ m. Counted i schedule m next) (sym at)
      (record {
        image = same_image ∙ r.image;
        schedule_is = same_schedule ∙ r.schedule_is;
        stands = (stepped i schedule n h next shown r.image r.schedule_is steps r.stands).0;
        taken = one_taken i schedule n before r.taken;
      })

  -- up to the outcome, or at the limit
  pub all_counted : OutcomeStays → (limit : ℕ) → n ≤ limit → (n ≡ limit) ⊎ ((e : Outcome) × ((kernel_of h.tasking).outcome ≡ Some e)) →
      HoldsWorld h (code i schedule limit) × (n ≡ steps_taken i schedule limit)
  all_counted stays limit le why =
      let at : n + (limit - n) ≡ limit = omega (arith, le) in
      let over : (e : Outcome) → (kernel_of h.tasking).outcome ≡ Some e → (code i schedule n).kernel.outcome ≡ Some e = λ e is. ap (λ (w : CodeWorld). w.kernel.outcome) r.stands ∙ is in
      ⊎_elim
      (λ (e : n ≡ limit). (subst (λ x. HoldsWorld h (code i schedule x)) e r.stands, subst (λ x. n ≡ steps_taken i schedule x) e (sym r.taken)))
      (λ (q : (e : Outcome) × ((kernel_of h.tasking).outcome ≡ Some e)). (
        subst (λ x. HoldsWorld h (code i schedule x)) at (subst (HoldsWorld h) (sym (stays i schedule n (limit - n) q.0 (over q.0 q.1))) r.stands),
        subst (λ x. n ≡ steps_taken i schedule x) at (sym (taken_stays i schedule n stays q.0 (over q.0 q.1) (limit - n) ∙ r.taken)),
      ))
      why
