-- Steps that are taken: one in a world without outcome, none after it.
use Rattle.std.proofs.Common.{◌≡◌, ℕ, zero, suc, ◌+◌, List, Some, None, ap, ◌∙◌, arith}
use Rattle.base.specs.declared.schedule.ScheduleLine.{ScheduleLine}
use Rattle.kernel.specs.State.{Outcome}
use Rattle.image.specs.Code.{CodeWorld, code}
use Rattle.image.specs.Sections.{Sections}
use Rattle.image_laws.specs.Laws.{OutcomeStays}
use Rattle.machine.specs.Taken.{one_without, steps_taken}

module _ (i : Sections) (schedule : List ScheduleLine) (n : ℕ) where
  -- where all steps so far are taken, and there is no outcome, the next one is taken too
  pub one_taken : (code i schedule n).kernel.outcome ≡ None → steps_taken i schedule n ≡ n → steps_taken i schedule (suc n) ≡ suc n
  one_taken going so_far =
      let one : one_without (code i schedule n).kernel.outcome ≡ 1 = ap one_without going in
      let next : steps_taken i schedule n + one_without (code i schedule n).kernel.outcome ≡ suc n = omega (arith, one, so_far) in
      next

  -- after an outcome no step is taken
  pub taken_stays : OutcomeStays → (o : Outcome) → (code i schedule n).kernel.outcome ≡ Some o → (j : ℕ) → steps_taken i schedule (n + j) ≡ steps_taken i schedule n
  taken_stays stays o is zero = let e : n + zero ≡ n = omega arith in ap (steps_taken i schedule) e
  taken_stays stays o is (suc j) =
      let e : n + suc j ≡ suc (n + j) = omega arith in
      let none : one_without (code i schedule (n + j)).kernel.outcome ≡ 0 = ap (λ (w : CodeWorld). one_without w.kernel.outcome) (stays i schedule n j o is) ∙ ap one_without is in
      let r = taken_stays stays o is j in
      let more : steps_taken i schedule (n + j) + one_without (code i schedule (n + j)).kernel.outcome ≡ steps_taken i schedule (n + j) = omega (arith, none) in
      ap (steps_taken i schedule) e ∙ more ∙ r
