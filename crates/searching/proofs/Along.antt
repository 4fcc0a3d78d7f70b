-- What the run on a choice comes to, by where it stands.
use Rattle.std.proofs.Common.{◌≡◌, ℕ, ℤ, List, Some, true, refl, sym, subst}
use Rattle.std.specs.Prelude.{◌≤ℤ◌}
use Rattle.base.specs.Schedule.{is_schedule}
use Rattle.choices.specs.Places.{AreWithin}
use Rattle.choices.specs.Parts.{is_of_part}
use Rattle.choices.specs.Slots.{Slot}
use Rattle.choices.specs.declared.part.Part.{Part}
use Rattle.execution.specs.Held.{HeldWorld, Leads, world_of}
use Rattle.image.specs.Sections.{Sections}
use Rattle.image_laws.specs.Laws.{OutcomeStays}
use Rattle.kernel.specs.Laws.{LeftUnmoved}
use Rattle.kernel.specs.State.{Kernel, Line}
use Rattle.tasking.specs.Held.{kernel_of, some_outcome}
use Rattle.tasking.specs.declared.reports.Outcome.{Outcome as End}
use Rattle.searching.specs.Following.{ComesAlong, EndsAs, IsOverThere, Standing, StepsOn}
use Rattle.searching.specs.Judging.{JudgedOutcome}
use Rattle.searching.specs.Meeting.{StandsAfter, schedule_of}
use Rattle.searching.specs.declared.following.Followed.{Followed}
use Rattle.searching.specs.declared.following.Followed.TheVariants as followed
use Rattle.searching.specs.declared.one.Answer.TheVariants as answers
use Rattle.searching.specs.declared.sight.Wanted.{Wanted}
use Rattle.searching.proofs.Reaching.{has_ended}
use Rattle.searching.proofs.Standing.{answer_over}

-- of an outcome that isn't what is wanted
pub ends_over : (slots : List Slot) (wanted : Wanted) (end : End) (now : ℤ) (k : Kernel) (f : Followed) → JudgedOutcome wanted end now answers.Nothing
    → IsOverThere slots k f → EndsAs slots wanted end now k f
ends_over slots wanted end now k (followed.Over front) judged over = (judged, over)
ends_over slots wanted end now k followed.Nothing judged over = judged
ends_over slots wanted end now k (followed.Found finding) judged over = absurd over
ends_over slots wanted end now k (followed.TooLong time) judged over = absurd over
ends_over slots wanted end now k (followed.Met front) judged over = absurd over

module _ (i : Sections) (slots : List Slot) (part : Part) (places : List ℕ) (until : ℤ) (limit : ℕ) (wanted : Wanted) (h : HeldWorld) (now : ℤ) (left : ℕ)
    (s : Standing i (schedule_of slots places) until limit wanted h now left) where
  abbrev there : StandsAfter s.n i (schedule_of slots places) h
  there = record { image = s.image; schedule_is = s.schedule_is; stands = s.stands }

  -- at an outcome
  pub along_ended : LeftUnmoved → OutcomeStays → is_schedule (schedule_of slots places) ≡ true → now ≤ℤ until → (end : End) (f : Followed)
      → some_outcome (Some end) ≡ (kernel_of h.tasking).outcome → EndsAs slots wanted end now (world_of h).kernel f
      → ComesAlong i slots part until limit wanted places f
  along_ended unmoved stays lawful le end (followed.Found finding) is e =
      answer_over i (schedule_of slots places) until limit wanted h now left s unmoved stays lawful le end (answers.Found finding) is e
  along_ended unmoved stays lawful le end followed.Nothing is e =
      answer_over i (schedule_of slots places) until limit wanted h now left s unmoved stays lawful le end answers.Nothing is e
  along_ended unmoved stays lawful le end (followed.Over front) is e = (
    answer_over i (schedule_of slots places) until limit wanted h now left s unmoved stays lawful le end answers.Nothing is e.0,
    record {
      time = e.1.0;
      steps = s.n;
      ends = has_ended i slots front e.1.0 places s.n h i (schedule_of slots places) (schedule_of slots places) refl refl refl e.1.1 there e.1.2;
    },
  )
  along_ended unmoved stays lawful le end (followed.TooLong time) is e = absurd e
  along_ended unmoved stays lawful le end (followed.Met front) is e = absurd e

  -- before its next step
  pub steps_on : (next : HeldWorld) (lines : List Line) → AreWithin slots places → is_of_part part slots places ≡ true → Leads 1 h next lines
      → StepsOn slots part places until limit wanted h now left next
  steps_on next lines within is_of leads = record {
    within = within;
    is_of = is_of;
    stands = subst (λ j. Standing j (schedule_of slots places) until limit wanted h now left) (sym s.image) s;
    lines = lines;
    leads = leads;
  }
