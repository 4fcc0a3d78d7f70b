-- The parts of a dump over virtual time: the declarations, the instants, and the last line.
use Rattle.std.proofs.Common.{◌≡◌, ℕ, List, None, ap, ◌∙◌}
use Rattle.base.specs.declared.schedule.ScheduleLine.{ScheduleLine}
use Rattle.image.specs.Code.{code}
use Rattle.image.specs.Sections.{Sections}
use Rattle.image.specs.Texts.{names_of}
use Rattle.execution.specs.Held.{HeldWorld}
use Rattle.machine.specs.Bounds.{cut_line}
use Rattle.machine.specs.Outcomes.{ending_of, time_of}
use Rattle.machine.specs.Stands.{EndsBy}
use Rattle.machine.specs.declared.bound.Bound.{Bound}
use Rattle.machine.specs.declared.reports.Outcome.{Outcome}
use Rattle.waveforms.specs.Instants.{instants}
use Rattle.waveforms.specs.TimeWaves.{instants_text}
use Rattle.waveforms.specs.Waves.{comment_text, declarations_text}
use Rattle.waveforms.specs.declared.axis.Axis.TheVariants as axes
use Rattle.waveforms.specs.Scopes.{Scopes}
use Rattle.waveforms.specs.LastValues.{HeldRows}
use Rattle.waveforms.specs.Lines.{TaskLabel}
use Rattle.waveforms.proofs.Noted.{Noted}
use Rattle.waveforms.proofs.Whole.{labels_in, last_is}

module _ (scopes : Scopes) (i : Sections) (schedule : List ScheduleLine) (bound : Bound) where
  abbrev pub front : List ℕ
  front = declarations_text axes.Time scopes schedule (labels_in i schedule bound) i

  -- the declarations, by the schedule that the inputs are read from and the labels that rows have
  pub front_is : (r : HeldRows) → Noted i schedule (labels_in i schedule bound) 0 r → (text : List ℕ) → text ≡ declarations_text axes.Time scopes r.schedule r.lines.labels i → text ≡ front
  front_is r noted text is = is ∙ (λ j. declarations_text axes.Time scopes (noted.schedule_is j) (noted.labels_are j) i)

  abbrev pub changes : List ℕ
  changes = instants_text scopes schedule (labels_in i schedule bound) None (instants i schedule bound.steps)

  abbrev pub end_ : List ℕ
  end_ = let k = (code i schedule bound.steps).kernel in comment_text (cut_line bound.cut (names_of i) k.outcome k.now)

  module _ (h : HeldWorld) (image : h.image ≡ i) (schedule_is : h.schedule ≡ schedule) where
    pub changes_are : (labels : List TaskLabel) → labels ≡ labels_in i schedule bound → instants_text scopes h.schedule labels None (instants h.image h.schedule bound.steps) ≡ changes
    changes_are labels are = λ j. instants_text scopes (schedule_is j) (are j) None (instants (image j) (schedule_is j) bound.steps)

    pub end_is : (o : Outcome) (line text : List ℕ) → EndsBy o (code h.image h.schedule bound.steps) → line ≡ cut_line bound.cut (names_of i) (ending_of o) (time_of o) → text ≡ comment_text line →
        text ≡ (let k = (code i schedule bound.steps).kernel in comment_text (cut_line bound.cut (names_of i) k.outcome k.now))
    end_is o line text ends said text_is = text_is ∙ ap comment_text (last_is i schedule bound h image schedule_is o line ends said)
