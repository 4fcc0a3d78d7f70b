-- A machine that stands for the world after so many steps: its next step, and the end of its run.
use Rattle.std.proofs.Common.{◌≡◌, ℕ, suc, ◌+◌, List, ◌++◌, Option, sym, ap, subst, ◌∙◌, arith}
use Rattle.base.specs.declared.schedule.ScheduleLine.{ScheduleLine}
use Rattle.image.specs.Code.{CodeWorld, code}
use Rattle.image.specs.Sections.{Sections}
use Rattle.execution.specs.Held.{HeldWorld, lines_of, world_of}
use Rattle.execution.specs.declared.line.Line.{Line}
use Rattle.machine.specs.Stands.{EndsBy, HoldsWorld}
use Rattle.machine.specs.declared.reports.Outcome.{Outcome}

-- the world after one more step, and its lines
abbrev pub Next : Sections → List ScheduleLine → ℕ → HeldWorld → Option Line → Type 0
Next i schedule n next line =
    HoldsWorld next (code i schedule (n + 1)) × ((code i schedule (n + 1)).kernel.lines ≡ (code i schedule n).kernel.lines ++ lines_of i line)

-- a machine's step, as its contract has it
abbrev pub StepsBy : HeldWorld → HeldWorld → Option Line → Type 0
StepsBy h next line = (m : ℕ) → HoldsWorld h (code h.image h.schedule m) → Next h.image h.schedule m next line

module _ (i : Sections) (schedule : List ScheduleLine) (n : ℕ) (h : HeldWorld) where
  module _ (next : HeldWorld) (line : Option Line) (image : h.image ≡ i) (schedule_is : h.schedule ≡ schedule) (stands : HoldsWorld h (code i schedule n)) (steps : StepsBy h next line) where
    next_is : Next i schedule n next line
    next_is =
        subst (λ s. HoldsWorld h (code i s n) → Next i s n next line) schedule_is
        (subst (λ j. HoldsWorld h (code j h.schedule n) → Next j h.schedule n next line) image (steps n)) stands

    pub stands_on : HoldsWorld next (code i schedule (suc n))
    stands_on = let e : n + 1 ≡ suc n = omega arith in subst (λ m. HoldsWorld next (code i schedule m)) e next_is.0

    pub lines_on : (code i schedule (suc n)).kernel.lines ≡ (code i schedule n).kernel.lines ++ lines_of i line
    lines_on = let e : n + 1 ≡ suc n = omega arith in ap (λ m. (code i schedule m).kernel.lines) (sym e) ∙ next_is.1

  pub ends_here : HoldsWorld h (code i schedule n) → (o : Outcome) → EndsBy o (world_of h) → EndsBy o (code i schedule n)
  ends_here stands o ends =
      record { outcome = ap (λ (w : CodeWorld). w.kernel.outcome) stands ∙ ends.outcome; time = ap (λ (w : CodeWorld). w.kernel.now) stands ∙ ends.time }
