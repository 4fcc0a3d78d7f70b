-- The whole text of a run's chart.
use Rattle.std.proofs.Common.{◌≡◌, ◌∙◌, ℕ, List, [], ◌++◌, ℤ, Option, subst, sym, ap}
use Rattle.std.specs.Prelude.{unsigned_abs}
use Rattle.base.specs.declared.schedule.ScheduleLine.{ScheduleLine}
use Rattle.image.specs.Code.{code}
use Rattle.image.specs.Sections.{Sections}
use Rattle.image.specs.Texts.{names_of}
use Rattle.machine.specs.Bounds.{cut_line}
use Rattle.machine.specs.Outcomes.{ending_of, time_of}
use Rattle.machine.specs.Stands.{EndsBy}
use Rattle.machine.specs.Written.{AppendsBeginning}
use Rattle.machine.specs.declared.bound.Bound.{Bound}
use Rattle.machine.specs.declared.reports.Outcome.{Outcome}
use Rattle.charts.specs.Runs.{cells_after}
use Rattle.charts.specs.Scales.{least_scale, scale_of}
use Rattle.charts.specs.Signs.{Cells}
use Rattle.charts.specs.Tables.{HoldsCells}
use Rattle.charts.specs.Text.{chart_text, run_text}
use Rattle.charts.specs.declared.cell.Cell.{Cell}
use Rattle.charts.specs.declared.scale.TheConstants.{SCALES}

module _ (i : Sections) (names : List (List ℕ)) (schedule : List ScheduleLine) (bound : Bound) (held : Sections) (given : List ScheduleLine) (same : held ≡ i) (there : given ≡ schedule) where
  here : (P : Sections → List ScheduleLine → Type 0) → P held given → P i schedule
  here P p = subst (λ s. P i s) there (subst (λ x. P x given) same p)

  pub ends_here : (o : Outcome) → EndsBy o (code held given bound.steps) → EndsBy o (code i schedule bound.steps)
  ends_here o ends = here (λ x s. EndsBy o (code x s bound.steps)) ends

  pub whole_is : (o : Outcome) → EndsBy o (code held given bound.steps) → (scale : ℕ) (now : ℤ) → now ≡ (code i schedule bound.steps).kernel.now → scale ≡ scale_of now → (cells table : List Cell) → HoldsCells cells (cells_after scale held given bound.steps) → table ≡ cells →
      (lines : List ScheduleLine) → lines ≡ schedule → (text last : List ℕ)
      → ((shown : Cells) → HoldsCells table shown → text ≡ run_text i names lines scale now shown)
      → last ≡ cut_line bound.cut (names_of i) (ending_of o) (time_of o) → text ++ last ≡ chart_text i names schedule bound
  whole_is o ends scale now is_now is_scale cells table charted same_cells lines are text last is last_is =
      let over = ends_here o ends in
      let k = (code i schedule bound.steps).kernel in
      let scaled : scale ≡ scale_of k.now = is_scale ∙ ap scale_of is_now in
      let held_cells = subst (λ t. HoldsCells t (cells_after scale held given bound.steps)) (sym same_cells) charted in
      let first = is (cells_after scale i schedule bound.steps) (here (λ x s. HoldsCells table (cells_after scale x s bound.steps)) held_cells)
      ∙ (λ j. run_text i names (are j) (scaled j) (is_now j) (cells_after (scaled j) i schedule bound.steps)) in
      let second = last_is ∙ sym (λ j. cut_line bound.cut (names_of i) (over.outcome j) (over.time j)) in
      λ j. first j ++ second j
