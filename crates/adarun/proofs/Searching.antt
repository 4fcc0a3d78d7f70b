-- What the search of an image's code says of the source that means the same.
use Rattle.std.proofs.Common.{◌≡◌, ℕ, ◌+◌, ◌-◌, ◌≤◌, ℤ, List, ◌∷◌, ◌++◌, Some, true, Result, Ok, Err, refl, sym, ap, subst, ◌∙◌, inl, inr, ⊎_elim, append_assoc}
use Rattle.std.specs.Prelude.{int_le, ◌<ℤ◌, IfOk, OnOk}
use Rattle.std.proofs.Common.{arith}
use Rattle.std.proofs.lemmas.Int.{ints}
use Rattle.base.specs.Schedule.{is_schedule}
use Rattle.base.specs.declared.schedule.ScheduleLine.{ScheduleLine}
use Rattle.choices.specs.Sets.{IsChoicesText}
use Rattle.choices.specs.Parts.{IsInPart}
use Rattle.choices.specs.Places.{taken}
use Rattle.choices.specs.Slots.{Slot, are_slots}
use Rattle.choices.specs.declared.part.Part.{Part}
use Rattle.choices.proofs.Lawful.{schedule_of_choice}
use Rattle.choices.proofs.Order.{taken_is_choice}
use Rattle.image.specs.Attachments.{handling_object}
use Rattle.image.specs.Code.{code, partition_of, start}
use Rattle.image.specs.Sections.{Sections}
use Rattle.image.specs.Steps.{behaviour}
use Rattle.kernel.specs.RunLaws.{run_plus}
use Rattle.kernel.specs.State.{Kernel, Outcome, Unhandled, WaitsForever}
use Rattle.kernel.specs.Worlds.{among, run}
use Rattle.compiler.specs.ada_tree.specs.ProgramTree.{ProgramTree}
use Rattle.compiler.specs.expr_code.specs.Coming.{most_steps}
use Rattle.compiler.specs.meaning.specs.Same.{Covers, ShowSame}
use Rattle.compiler.specs.meaning.specs.SameMeaning.{KeepsCount, SameMeaning}
use Rattle.machine.specs.declared.fault.RunFault.{RunFault}
use Rattle.searching.specs.Reports.{found_text, report_text}
use Rattle.searching.specs.Searches.{ComesTo, IsFollowedOn, NeverComes, Searches, kernels}
use Rattle.searching.specs.Sights.{ShowsSight, Sighting, Stopped, Waiting, Written, sight_of}
use Rattle.searching.specs.declared.sight.Finding.{Finding}
use Rattle.searching.specs.declared.sight.Finding.TheVariants as findings
use Rattle.searching.specs.declared.sight.Wanted.{Wanted}
use Rattle.searching.specs.declared.whole.Searched.{Searched}
use Rattle.searching.specs.declared.whole.Searched.TheVariants as searched
use Rattle.likeness.proofs.Onward.{IsAhead, begins_ahead, run_onward}
use Rattle.adarun.specs.Accepted.{Compiles}
use Rattle.adarun.specs.Searching.{IsFoundReport, IsReport, outcome_by, outcome_found, outcome_of, source_kernels}
use Rattle.adarun.specs.declared.exploring.SearchOutcome.{SearchOutcome}
use Rattle.adarun.proofs.Running.{same_names}

-- what a kernel shows, one that covers it shows too
covered : (until : ℤ) (sight : Sighting) (a b : Kernel) → Covers a b → ShowsSight until sight a → ShowsSight until sight b
covered until (Stopped x t time) a b c s = let e = c.ends (Unhandled x t) s.0 in (e.outcome_is, e.now_is ∙ s.1, s.2)
covered until (Waiting time) a b c s = let e = c.ends WaitsForever s.0 in (e.outcome_is, e.now_is ∙ s.1, s.2)
covered until (Written line) a b c s =
    let h = s.0 in
    let more = c.begins.0 in (
      (h.0, h.1 ++ more, c.begins.1 ∙ (ap (λ l. l ++ more) h.2 ∙ append_assoc h.0 (line ∷ h.1) more)),
      s.1,
    )

past : (until a b : ℤ) → until <ℤ a → int_le a b ≡ true → until <ℤ b
past until a b h i = grind (arith, ints)

module _ (p : ProgramTree) (i : Sections) (means : SameMeaning p i) (counted : KeepsCount p i (most_steps i)) (schedule : List ScheduleLine)
    (lawful : is_schedule schedule ≡ true) where
  abbrev shows : ShowSame (source_kernels p schedule) (kernels i schedule)
  shows = means.shows schedule lawful

  comes_back : (until : ℤ) (sight : Sighting) → ComesTo until sight (kernels i schedule) → ComesTo until sight (source_kernels p schedule)
  comes_back until sight c =
      let x = shows.back c.steps in
      record { steps = x.0; shows = covered until sight (kernels i schedule c.steps) (source_kernels p schedule x.0) x.1 c.shows }

  comes_forth : (until : ℤ) (sight : Sighting) → ComesTo until sight (source_kernels p schedule) → ComesTo until sight (kernels i schedule)
  comes_forth until sight c =
      let x = shows.forth c.steps in
      record { steps = x.0; shows = covered until sight (source_kernels p schedule c.steps) (kernels i schedule x.0) x.1 c.shows }

  pub never_comes : (until : ℤ) (wanted : Wanted) → NeverComes until wanted (kernels i schedule) → NeverComes until wanted (source_kernels p schedule)
  never_comes until wanted never = λ sight wants c. never sight wants (comes_forth until sight c)

  onward : (m n : ℕ) → m ≤ n → int_le (kernels i schedule m).now (kernels i schedule n).now ≡ true
  onward m n le =
      let f = among (behaviour i schedule) in
      let ahead : IsAhead (kernels i schedule m) =
      (run_onward f m (start i schedule) (begins_ahead (partition_of i) (handling_object i) schedule lawful)).ahead in
      let far : m + (n - m) ≡ n = omega (arith, le) in
      let there : run f (n - m) (code i schedule m) ≡ code i schedule n =
      sym (run_plus f m (n - m) (start i schedule)) ∙ ap (code i schedule) far in
      subst (λ w. int_le (kernels i schedule m).now w.kernel.now ≡ true) there (run_onward f (n - m) (code i schedule m) ahead).now

  -- where the clock of the code has passed the end, that of the source does
  passes : (until : ℤ) (m : ℕ) → until <ℤ (kernels i schedule m).now → IsFollowedOn until (source_kernels p schedule)
  passes until m later =
      let paced = (counted schedule lawful).1 in
      let x = paced.reaches m in
      let at = (counted schedule lawful).0 in
      let on = past until (kernels i schedule m).now (kernels i schedule (at x.0)).now later (onward m (at x.0) x.1) in
      record { steps = x.0; over = inl (subst (λ k. until <ℤ k.now) (sym (paced.same x.0)) on) }

  ends : (until : ℤ) (m : ℕ) (o : Outcome) → (kernels i schedule m).outcome ≡ Some o → IsFollowedOn until (source_kernels p schedule)
  ends until m o is =
      let x = shows.back m in
      record { steps = x.0; over = inr (o, (x.1.ends o is).outcome_is) }

  pub followed_on : (until : ℤ) → IsFollowedOn until (kernels i schedule) → IsFollowedOn until (source_kernels p schedule)
  followed_on until f = ⊎_elim (λ later. passes until f.steps later) (λ over. ends until f.steps over.0 over.1) f.over

lawful_in : (part : Part) (slots : List Slot) (schedule : List ScheduleLine) → are_slots slots ≡ true → IsInPart part slots schedule → is_schedule schedule ≡ true
lawful_in part slots schedule are set =
    subst (λ s. is_schedule s ≡ true) (sym set.schedule_is)
    (schedule_of_choice slots (taken slots set.places) are (taken_is_choice slots set.places set.within))

outcome_same : (i : Sections) (finding : Finding) → outcome_found finding ≡ outcome_of (sight_of i finding)
outcome_same i (findings.Unhandled x t time) = refl
outcome_same i (findings.WaitsForever time) = refl
outcome_same i (findings.Line line) = refl

found_kind : (t input : List ℕ) (part : Part) (until : ℤ) (limit : ℕ) (wanted : Wanted) (outcome : SearchOutcome) (report : List ℕ) (sight : Sighting) → outcome ≡ outcome_of sight
    → IsFoundReport t input part until wanted outcome report → IsReport t input part until limit wanted outcome report
found_kind t input part until limit wanted outcome report (Stopped x u time) is found = subst (λ o. IsReport t input part until limit wanted o report) (sym is) (subst (λ o. IsFoundReport t input part until wanted o report) is found)
found_kind t input part until limit wanted outcome report (Waiting time) is found = subst (λ o. IsReport t input part until limit wanted o report) (sym is) (subst (λ o. IsFoundReport t input part until wanted o report) is found)
found_kind t input part until limit wanted outcome report (Written line) is found = subst (λ o. IsReport t input part until limit wanted o report) (sym is) (subst (λ o. IsFoundReport t input part until wanted o report) is found)

-- what the search of the code says is a report of the source
pub reported : (t input : List ℕ) (part : Part) (i : Sections) (slots : List Slot) (until : ℤ) (limit : ℕ) (wanted : Wanted) (found : Searched) → Compiles t i
    → IsChoicesText until input slots → are_slots slots ≡ true → Searches i slots part until limit wanted found
    → IsReport t input part until limit wanted (outcome_by found) (report_text i slots part limit found)
reported t input part i slots until limit wanted (searched.Found schedule finding) c read are s =
    let lawful = lawful_in part slots schedule are s.0 in
    let sight = sight_of i finding in
    let names = same_names c.tree i schedule lawful c.means in
    found_kind t input part until limit wanted (outcome_found finding) _ sight (outcome_same i finding) (record {
      schedule = schedule;
      sight = sight;
      finds = record {
        searched = record { tree = c.tree; accepted = c.accepted; slots = slots; are_slots = read };
        in_set = s.0;
        wants = s.1.0;
        comes = comes_back c.tree i c.means c.counted schedule lawful until sight s.1.1;
      };
      outcome_is = outcome_same i finding;
      report_is = ap (λ n. found_text n schedule sight) names;
    })
reported t input part i slots until limit wanted (searched.Nothing worlds) c read are s = record {
  finds = record {
    searched = record { tree = c.tree; accepted = c.accepted; slots = slots; are_slots = read };
    never = λ schedule set.
        never_comes c.tree i c.means c.counted schedule (lawful_in part slots schedule are set) until wanted (s schedule set).0;
    followed = λ schedule set.
        followed_on c.tree i c.means c.counted schedule (lawful_in part slots schedule are set) until (s schedule set).1;
  };
  worlds = worlds;
  report_is = refl;
}
reported t input part i slots until limit wanted (searched.TooLong schedule time) c read are s = record {
  schedule = schedule;
  time = time;
  finds = record {
    searched = record { tree = c.tree; accepted = c.accepted; slots = slots; are_slots = read };
    in_set = s.0;
    image = i;
    means = c.means;
    long = s.1;
  };
  report_is = refl;
}

-- what is so of the outcome that a report is of, where that was written, by what writing it answers
pub written_report : (result : Result SearchOutcome RunFault) (named : SearchOutcome) (Appended : Type 0) (Is : SearchOutcome → Type 0)
    → IfOk result (λ outcome. outcome ≡ named) → OnOk result Appended → (Appended → Is named) → IfOk result Is
written_report (Ok outcome) named Appended Is same appended is = subst Is (sym same) (is appended)
written_report (Err fault) named Appended Is same appended is = tt
