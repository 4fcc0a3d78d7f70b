-- The whole text of a picture.
use Rattle.std.proofs.Common.{◌≡◌, ◌∙◌, ℕ, List, [], ◌++◌, Option, sym, ap, length}
use Rattle.std.specs.Prelude.{unsigned_abs}
use Rattle.base.specs.declared.schedule.ScheduleLine.{ScheduleLine}
use Rattle.image.specs.Code.{code}
use Rattle.image.specs.Sections.{Sections}
use Rattle.image.specs.Texts.{names_of}
use Rattle.machine.specs.Bounds.{cut_line}
use Rattle.machine.specs.Outcomes.{ending_of, time_of}
use Rattle.machine.specs.Stands.{EndsBy}
use Rattle.machine.specs.Written.{AppendsBeginning}
use Rattle.machine.specs.Taken.{steps_taken}
use Rattle.machine.specs.declared.bound.Bound.{Bound}
use Rattle.machine.specs.declared.reports.Outcome.{Outcome}
use Rattle.tracing.specs.Traces.{rows}
use Rattle.pictures.specs.Frames.{frame_of}
use Rattle.pictures.specs.Front.{end_text, front_text}
use Rattle.pictures.specs.Pictures.{frame, picture_text}
use Rattle.pictures.specs.Text.{picture_names, rows_text}
use Rattle.pictures.specs.declared.frame.Frame.{Frame}

module _ (i : Sections) (names : List (List ℕ)) (schedule : List ScheduleLine) (bound : Bound) where
  -- the frame, by what the code asks for
  pub frame_is : (f : Frame) (tasks objects time steps : ℕ) → f ≡ frame_of tasks objects time steps → tasks ≡ length i.tasks → objects ≡ length i.objects →
      time ≡ unsigned_abs (code i schedule bound.steps).kernel.now → steps ≡ steps_taken i schedule bound.steps → f ≡ frame i schedule bound.steps
  frame_is f tasks objects time steps is are_tasks are_objects is_time are_steps = is ∙ (λ j. frame_of (are_tasks j) (are_objects j) (is_time j) (are_steps j))

  pub whole_is : (f : Frame) → f ≡ frame i schedule bound.steps → (o : Outcome) → EndsBy o (code i schedule bound.steps) → (last : List ℕ) → last ≡ cut_line bound.cut (names_of i) (ending_of o) (time_of o) →
      (none first second third : List ℕ) → none ≡ [] → first ≡ none ++ front_text f (picture_names i names) → second ≡ first ++ rows_text f (picture_names i names) (rows i schedule bound.steps) →
      third ≡ second ++ end_text f last → third ≡ picture_text i names schedule bound
  whole_is f is o ends last last_is none first second third empty front drawn ended =
      let n = picture_names i names in
      let line = last_is ∙ sym (λ j. cut_line bound.cut (names_of i) (ends.outcome j) (ends.time j)) in
      ended
      ∙ ap (λ v. v ++ end_text f last) (drawn ∙ ap (λ v. v ++ rows_text f n (rows i schedule bound.steps)) (front ∙ ap (λ v. v ++ front_text f n) empty))
      ∙ (λ j. front_text (is j) n ++ rows_text (is j) n (rows i schedule bound.steps) ++ end_text (is j) (line j))
