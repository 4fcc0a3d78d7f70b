-- The text of a whole dump: what is written in front, what the steps change, and the end.
use Rattle.std.proofs.Common.{◌≡◌, ℕ, List, ◌++◌, Option, sym, ◌∙◌}
use Rattle.std.specs.Io.KnownBytes.{Appends}
use Rattle.base.specs.declared.schedule.ScheduleLine.{ScheduleLine}
use Rattle.image.specs.Code.{code}
use Rattle.image.specs.Sections.{Sections}
use Rattle.image.specs.Texts.{names_of}
use Rattle.machine.specs.Bounds.{cut_line}
use Rattle.machine.specs.Outcomes.{ending_of, time_of}
use Rattle.execution.specs.Held.{HeldWorld, world_of}
use Rattle.machine.specs.Stands.{EndsBy, HoldsWorld}
use Rattle.machine.specs.Written.{AppendsBeginning}
use Rattle.machine.specs.Taken.{steps_taken}
use Rattle.machine.specs.declared.bound.Bound.{Bound}
use Rattle.machine.specs.declared.reports.Outcome.{Outcome}
use Rattle.waveforms.specs.LastValues.{HeldRows, shown_by}
use Rattle.waveforms.specs.Lines.{TaskLabel, labels_of}
use Rattle.waveforms.specs.Signals.{values}
use Rattle.waveforms.specs.Waves.{declarations_text, ending_text, start_text, steps_text, waves_text}
use Rattle.waveforms.specs.Scopes.{Scopes}
use Rattle.waveforms.specs.declared.axis.Axis.TheVariants as axes
use Rattle.waveforms.proofs.HeldValues.{shown_held}
use Rattle.waveforms.proofs.Noted.{Noted}
use Rattle.waveforms.proofs.Parts as parts

-- the labels of the lines of a run within a bound
abbrev pub labels_in : Sections → List ScheduleLine → Bound → List TaskLabel
labels_in i schedule bound = labels_of (code i schedule bound.steps).kernel.lines

module _ (i : Sections) (scopes : Scopes) (schedule : List ScheduleLine) (bound : Bound) where
  abbrev pub front : List ℕ
  front = declarations_text axes.Steps scopes schedule (labels_in i schedule bound) i ++ start_text 0 (values scopes schedule (labels_in i schedule bound) (code i schedule 0))

  abbrev pub changes : List ℕ
  changes = steps_text i scopes schedule (labels_in i schedule bound) bound.steps

  abbrev pub end_ : List ℕ
  end_ = let k = (code i schedule bound.steps).kernel in ending_text (steps_taken i schedule bound.steps) (cut_line bound.cut (names_of i) k.outcome k.now)

  module _ (old middle : Option (List ℕ)) where
    pub front_begun : AppendsBeginning old middle front → AppendsBeginning old middle (waves_text i scopes schedule bound)
    front_begun begun = parts.front_begun front changes end_ old middle begun

    module _ (wrote : Appends old middle front) (later : Option (List ℕ)) where
      pub changes_begun : AppendsBeginning middle later changes → AppendsBeginning old later (waves_text i scopes schedule bound)
      changes_begun begun = parts.changes_begun front changes end_ old middle wrote later begun

      module _ (wrote_changes : Appends middle later changes) (last : Option (List ℕ)) where
        pub whole : Appends later last end_ → Appends old last (waves_text i scopes schedule bound)
        whole app = parts.whole front changes end_ old middle wrote later wrote_changes last app

        pub end_begun : AppendsBeginning later last end_ → AppendsBeginning old last (waves_text i scopes schedule bound)
        end_begun begun = parts.end_begun front changes end_ old middle wrote later wrote_changes last begun

-- the last line of a run, by how it ended
pub last_is : (i : Sections) (schedule : List ScheduleLine) (bound : Bound) (h : HeldWorld) → h.image ≡ i → h.schedule ≡ schedule → (o : Outcome) (line : List ℕ) →
    EndsBy o (code h.image h.schedule bound.steps) → line ≡ cut_line bound.cut (names_of i) (ending_of o) (time_of o) →
    line ≡ (let k = (code i schedule bound.steps).kernel in cut_line bound.cut (names_of i) k.outcome k.now)
last_is i schedule bound h image schedule_is o line ends said =
    said
    ∙ sym (λ j. cut_line bound.cut (names_of i) (ends.outcome j) (ends.time j))
    ∙ (λ j. let k = (code (image j) (schedule_is j) bound.steps).kernel in cut_line bound.cut (names_of i) k.outcome k.now)

-- what a machine has written of this image and schedule
module _ (i : Sections) (scopes : Scopes) (schedule : List ScheduleLine) (bound : Bound) (h : HeldWorld) (image : h.image ≡ i) (schedule_is : h.schedule ≡ schedule) where
  pub front_is : HoldsWorld h (code i schedule 0) → (r : HeldRows) → Noted i schedule (labels_in i schedule bound) 0 r → (text : List ℕ) →
      text ≡ declarations_text axes.Steps scopes r.schedule r.lines.labels i ++ start_text 0 (shown_by scopes r (world_of h)) → text ≡ front i scopes schedule bound
  front_is stands r noted text is =
      let labels = labels_in i schedule bound in
      let shown = shown_held scopes schedule labels h (code i schedule 0) stands r noted.schedule_is noted.current in
      is ∙ (λ j. declarations_text axes.Steps scopes (noted.schedule_is j) (noted.labels_are j) i ++ start_text 0 (shown j))

  pub changes_are : (labels : List TaskLabel) → labels ≡ labels_in i schedule bound → steps_text h.image scopes h.schedule labels bound.steps ≡ changes i scopes schedule bound
  changes_are labels are = λ j. steps_text (image j) scopes (schedule_is j) (are j) bound.steps

  pub end_is : (o : Outcome) (taken : ℕ) (line text : List ℕ) → taken ≡ steps_taken h.image h.schedule bound.steps → EndsBy o (code h.image h.schedule bound.steps) →
      line ≡ cut_line bound.cut (names_of i) (ending_of o) (time_of o) → text ≡ ending_text taken line → text ≡ end_ i scopes schedule bound
  end_is o taken line text is ends said text_is =
      let last = last_is i schedule bound h image schedule_is o line ends said in
      text_is ∙ (λ j. ending_text (is j) (last j)) ∙ (λ j. let k = (code i schedule bound.steps).kernel in ending_text (steps_taken (image j) (schedule_is j) bound.steps) (cut_line bound.cut (names_of i) k.outcome k.now))
