-- What `search` leaves, by its exit status.
use Rattle.std.proofs.Common.{◌≡◌, ℕ, ℤ, List, Option, Bool, true, false, cond, refl, sym, ap, subst}
use Rattle.std.specs.Prelude.{nat_eq}
use Rattle.base.specs.declared.faults.TheConstants.{MEMORY_REFUSED}
use Rattle.choices.specs.declared.faults.ChoicesFault.{ChoicesFault}
use Rattle.choices.specs.declared.part.Part.{Part}
use Rattle.command_line.specs.Words as words_of
use Rattle.file_limits.specs.declared.TheConstants.{CHOICES_BYTES, SOURCE_BYTES}
use Rattle.searching.specs.declared.sight.Wanted.{Wanted}
use Rattle.adarun.specs.Driving.{HasSearched, LeavesGo, LeavesSearch, looks_for, search_status}
use Rattle.adarun.specs.Reading.{Contents, IsBeginningRead}
use Rattle.adarun.specs.Searching.{IsReport, IsSearched, RefusesSearching, WritesReport}
use Rattle.adarun.specs.declared.exploring.SearchFault.{SearchFault}
use Rattle.adarun.specs.declared.exploring.SearchFault.TheVariants as faults
use Rattle.adarun.specs.declared.exploring.SearchOutcome.{SearchOutcome}
use Rattle.adarun.specs.declared.exploring.SearchOutcome.TheVariants as outcomes
use Rattle.adarun.specs.declared.program.Status.{Status}
use Rattle.adarun.specs.declared.program.Status.TheVariants.{NoMemory, ScheduleRefused, SourceRefused}
use Rattle.adarun.proofs.Reading.{begun, choices_whole, source_whole}

-- what a report is true of
pub searched_by : (text input : List ℕ) (part : Part) (until : ℤ) (limit : ℕ) (wanted : Wanted) (outcome : SearchOutcome) (report : List ℕ)
    → IsReport text input part until limit wanted outcome report → IsSearched text input until
searched_by text input part until limit wanted outcomes.Unhandled report is = is.finds.searched
searched_by text input part until limit wanted outcomes.WaitsForever report is = is.finds.searched
searched_by text input part until limit wanted outcomes.Line report is = is.finds.searched
searched_by text input part until limit wanted outcomes.TooLong report is = is.finds.searched
searched_by text input part until limit wanted outcomes.Nothing report is = is.finds.searched

module _ (contents : Contents) (source : List ℕ) (known : Option (List ℕ)) (until : ℤ) (limit : ℕ) (sought : words_of.Wanted) (part : Part) (old new : Option (List ℕ)) where
  has_searched : (outcome : SearchOutcome) → HasSearched contents source known until limit sought part (search_status outcome) old new
      → LeavesSearch contents source known until limit sought part (search_status outcome) old new
  has_searched outcomes.Unhandled h = h
  has_searched outcomes.WaitsForever h = h
  has_searched outcomes.Line h = h
  has_searched outcomes.TooLong h = h
  has_searched outcomes.Nothing h = h

  pub search_leaves : (status : Status) (outcome : SearchOutcome) (text lent given input : List ℕ) (wanted : Wanted) → status ≡ search_status outcome
      → IsBeginningRead (contents source) SOURCE_BYTES text → lent ≡ text → IsBeginningRead known CHOICES_BYTES given → input ≡ given → looks_for wanted ≡ sought
      → WritesReport lent input part until limit wanted outcome old new → LeavesSearch contents source known until limit sought part status old new
  search_leaves status outcome text lent given input wanted e read same read_too same_too is writes =
      let searched = searched_by lent input part until limit wanted outcome writes.report writes.is_report in
      subst (λ s. LeavesSearch contents source known until limit sought part s old new) (sym e)
      (has_searched outcome (record {
        text = lent;
        source_read = source_whole (contents source) text lent same searched.tree read searched.accepted.is_tree;
        input = input;
        input_read = choices_whole known given input same_too until searched.slots read_too searched.are_slots;
        wanted = wanted;
        wanted_is = is;
        outcome = outcome;
        status_is = refl;
        writes = writes;
      }))

  -- a source that is refused leaves what it leaves to `go`
  pub refused_search : (b : Bool) (status : Status) → status ≡ cond b NoMemory SourceRefused → LeavesGo contents source known limit status old new
      → LeavesSearch contents source known until limit sought part status old new
  refused_search true status e h =
      subst (λ s. LeavesSearch contents source known until limit sought part s old new) (sym e)
      (subst (λ s. LeavesGo contents source known limit s old new) e h)
  refused_search false status e h =
      subst (λ s. LeavesSearch contents source known until limit sought part s old new) (sym e)
      (subst (λ s. LeavesGo contents source known limit s old new) e h)

  unchosen : (b : Bool) (x : SearchFault) (fault : ChoicesFault) (text lent given input : List ℕ) → nat_eq fault.number MEMORY_REFUSED ≡ b
      → IsBeginningRead (contents source) SOURCE_BYTES text → lent ≡ text → IsBeginningRead known CHOICES_BYTES given → input ≡ given → x ≡ faults.Choices fault
      → RefusesSearching lent input until x → new ≡ old
      → LeavesSearch contents source known until limit sought part (cond b NoMemory ScheduleRefused) old new
  unchosen true x fault text lent given input e read same read_too same_too is refused unwritten = unwritten
  unchosen false x fault text lent given input e read same read_too same_too is refused unwritten = record {
    text = lent;
    source_read =
        (let compiles = (subst (RefusesSearching lent input until) is refused).0.compiles in
        source_whole (contents source) text lent same compiles.tree read compiles.accepted.is_tree);
    input = input;
    input_read = begun known given input same_too CHOICES_BYTES read_too;
    compiles = (subst (RefusesSearching lent input until) is refused).0;
    fault = fault;
    refused = (subst (RefusesSearching lent input until) is refused).1;
    not_memory = λ h. let is = ap (λ n. nat_eq n MEMORY_REFUSED) h in absurd cc;
    unwritten = unwritten;
  }

  pub choices_leave : (status : Status) (x : SearchFault) (fault : ChoicesFault) (text lent given input : List ℕ)
      → status ≡ cond (nat_eq fault.number MEMORY_REFUSED) NoMemory ScheduleRefused → IsBeginningRead (contents source) SOURCE_BYTES text → lent ≡ text
      → IsBeginningRead known CHOICES_BYTES given → input ≡ given → x ≡ faults.Choices fault → RefusesSearching lent input until x → new ≡ old
      → LeavesSearch contents source known until limit sought part status old new
  choices_leave status x fault text lent given input e read same read_too same_too is refused unwritten =
      subst (λ s. LeavesSearch contents source known until limit sought part s old new) (sym e)
      (unchosen (nat_eq fault.number MEMORY_REFUSED) x fault text lent given input refl read same read_too same_too is refused unwritten)
