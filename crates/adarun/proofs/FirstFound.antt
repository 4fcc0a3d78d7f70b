-- What the search of an image's code finds first, the source comes to first.
use Rattle.std.proofs.Common.{◌≡◌, ℕ, ℤ, List, true, refl, sym, ap, subst}
use Rattle.base.specs.declared.schedule.ScheduleLine.{ScheduleLine}
use Rattle.choices.proofs.Lawful.{schedule_of_choice}
use Rattle.choices.proofs.Order.{taken_is_choice}
use Rattle.choices.specs.Places.{AreWithin, taken}
use Rattle.choices.specs.Sets.{IsChoicesText}
use Rattle.choices.specs.Slots.{Slot, are_slots, lines_of}
use Rattle.choices.specs.declared.part.Part.{Part}
use Rattle.base.specs.Schedule.{is_schedule}
use Rattle.image.specs.Sections.{Sections}
use Rattle.searching.specs.Reports.{found_text, report_text}
use Rattle.searching.specs.Searches.{FindsFirst}
use Rattle.searching.specs.Searches as searches
use Rattle.searching.specs.Sights.{sight_of}
use Rattle.searching.specs.declared.sight.Finding.{Finding}
use Rattle.searching.specs.declared.sight.Finding.TheVariants as findings
use Rattle.searching.specs.declared.sight.Wanted.{Wanted}
use Rattle.searching.specs.declared.whole.Searched.{Searched}
use Rattle.searching.specs.declared.whole.Searched.TheVariants as searched
use Rattle.adarun.specs.Accepted.{Compiles}
use Rattle.adarun.specs.FirstFound.{IsFirstFoundReport, IsFirstSchedule, ReportsFirst}
use Rattle.adarun.specs.Searching.{outcome_by, outcome_found}
use Rattle.adarun.proofs.Running.{same_names}
use Rattle.adarun.proofs.Searching.{followed_on, never_comes}

module _ (t : List ℕ) (i : Sections) (slots : List Slot) (part : Part) (until : ℤ) (limit : ℕ) (wanted : Wanted) (c : Compiles t i) (are : are_slots slots ≡ true) where
  lawful : (places : List ℕ) → AreWithin slots places → is_schedule (lines_of slots (taken slots places)) ≡ true
  lawful places w = schedule_of_choice slots (taken slots places) are (taken_is_choice slots places w)

  first_schedule : (schedule : List ScheduleLine) → searches.IsFirstFound i slots part until limit wanted schedule → IsFirstSchedule c.tree slots part until wanted schedule
  first_schedule schedule f = record {
    places = f.places;
    within = f.within;
    is_of = f.is_of;
    is = f.is;
    never = λ others w of before.
        never_comes c.tree i c.means c.counted (lines_of slots (taken slots others)) (lawful others w) until wanted (f.before others w of before).0;
    followed = λ others w of before.
        followed_on c.tree i c.means c.counted (lines_of slots (taken slots others)) (lawful others w) until (f.before others w of before).1;
  }

first_kind : (t input : List ℕ) (part : Part) (until : ℤ) (limit : ℕ) (wanted : Wanted) (report : List ℕ) (finding : Finding) → IsFirstFoundReport t input part until wanted report
    → ReportsFirst t input part until limit wanted (outcome_found finding) report
first_kind t input part until limit wanted report (findings.Unhandled x u time) first = first
first_kind t input part until limit wanted report (findings.WaitsForever time) first = first
first_kind t input part until limit wanted report (findings.Line line) first = first

pub reported_first : (t input : List ℕ) (part : Part) (i : Sections) (slots : List Slot) (until : ℤ) (limit : ℕ) (wanted : Wanted) (found : Searched) → Compiles t i
    → IsChoicesText until input slots → are_slots slots ≡ true → FindsFirst i slots part until limit wanted found
    → ReportsFirst t input part until limit wanted (outcome_by found) (report_text i slots part limit found)
reported_first t input part i slots until limit wanted (searched.Found schedule finding) c read are f =
    let sight = sight_of i finding in
    let schedule_lawful = subst (λ s. is_schedule s ≡ true) (sym f.is) (lawful t i slots part until limit wanted c are f.places f.within) in
    first_kind t input part until limit wanted _ finding (record {
      searched = record { tree = c.tree; accepted = c.accepted; slots = slots; are_slots = read };
      schedule = schedule;
      first = first_schedule t i slots part until limit wanted c are schedule f;
      sight = sight;
      report_is = ap (λ n. found_text n schedule sight) (same_names c.tree i schedule schedule_lawful c.means);
    })
reported_first t input part i slots until limit wanted (searched.Nothing worlds) c read are f = tt
reported_first t input part i slots until limit wanted (searched.TooLong schedule time) c read are f = record {
  searched = record { tree = c.tree; accepted = c.accepted; slots = slots; are_slots = read };
  schedule = schedule;
  first = first_schedule t i slots part until limit wanted c are schedule f;
  time = time;
  report_is = refl;
}
