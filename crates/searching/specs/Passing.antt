-- How far a search has come in the order of choices; nobody has to believe this.
use Rattle.std.specs.Prelude.{◌≡◌, ◌≤◌, ℕ, ℤ, List, Bool, true, false}
use Rattle.choices.specs.Parts.{is_of_part}
use Rattle.choices.specs.Places.{AreWithin, IsBefore, left, taken}
use Rattle.choices.specs.Slots.{Slot, lines_of}
use Rattle.choices.specs.declared.part.Part.{Part}
use Rattle.image.specs.Sections.{Sections}
use Rattle.searching.specs.Following.{ComesAlong}
use Rattle.searching.specs.Searches.{AnswersRun, FindsFirst, Searches}
use Rattle.searching.specs.declared.following.Followed.{Followed}
use Rattle.searching.specs.declared.one.Answer.TheVariants as answers
use Rattle.searching.specs.declared.sight.Wanted.{Wanted}
use Rattle.searching.specs.declared.whole.Searched.{Searched}

-- under the schedule of this choice nothing is found
abbrev pub IsRunQuiet : Sections → List Slot → (until : ℤ) → (limit : ℕ) → Wanted → List ℕ → Type 0
IsRunQuiet i slots until limit wanted places = AnswersRun i (lines_of slots (taken slots places)) until limit wanted answers.Nothing

-- nor is it, if the choice is of another part
abbrev pub IsQuiet : Sections → List Slot → Part → (until : ℤ) → (limit : ℕ) → Wanted → List ℕ → Type 0
IsQuiet i slots part until limit wanted places = is_of_part part slots places ≡ true → IsRunQuiet i slots until limit wanted places

-- there is this choice still, and nothing is found under those before it; or nothing is found under any
abbrev pub Through : Sections → List Slot → Part → (until : ℤ) → (limit : ℕ) → Wanted → (is_more : Bool) → List ℕ → Type 0
Through i slots part until limit wanted true places =
    AreWithin slots places × ((others : List ℕ) → AreWithin slots others → IsBefore others places → IsQuiet i slots part until limit wanted others)
Through i slots part until limit wanted false places = (others : List ℕ) → AreWithin slots others → IsQuiet i slots part until limit wanted others

-- nothing is found under the choices before this one of the part, and the run on it comes to this
pub record RunComesTo (i : Sections) (slots : List Slot) (part : Part) (until : ℤ) (limit : ℕ) (wanted : Wanted) (places : List ℕ)
    (followed : Followed) : Type 0 where
  pub through : Through i slots part until limit wanted true places
  pub is_of : is_of_part part slots places ≡ true
  pub comes : ComesAlong i slots part until limit wanted places followed

-- the search may go on behind a choice
pub record MayGoOn (i : Sections) (slots : List Slot) (part : Part) (until : ℤ) (limit : ℕ) (wanted : Wanted) (before after : List ℕ) : Type 0 where
  pub through : Through i slots part until limit wanted true after
  pub quiet : IsQuiet i slots part until limit wanted after
  pub fewer : left slots after ≤ left slots before

-- what a search comes to
pub record ComesOut (i : Sections) (slots : List Slot) (part : Part) (until : ℤ) (limit : ℕ) (wanted : Wanted) (s : Searched) : Type 0 where
  pub answer : Searches i slots part until limit wanted s
  pub first : FindsFirst i slots part until limit wanted s
