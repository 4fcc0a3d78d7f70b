-- The search goes through the choices in their order: none of those before the one that stands comes to what is wanted.
use Rattle.std.proofs.Common.{◌≡◌, ℕ, suc, ◌<◌, ◌≤◌, List, Bool, true, false, cond, sym, subst, ◌∙◌, ⊎_elim, arith, take}
use Rattle.std.specs.Prelude.{ℤ}
use Rattle.base.specs.declared.schedule.ScheduleLine.{ScheduleLine}
use Rattle.choices.specs.Places.{AreWithin, IsBefore, firsts, left, taken}
use Rattle.choices.specs.Parts.{IsInPart, front_of, is_of_part}
use Rattle.choices.specs.Slots.{Slot, are_each_slots, are_slots, lines_of}
use Rattle.choices.specs.Stepping.{IsFurther, MovesOn}
use Rattle.choices.specs.declared.part.Part.{Part}
use Rattle.choices.proofs.Order.{before_next, fewer_left, last_of_all, none_before_firsts}
use Rattle.choices.proofs.Parting.{same_part}
use Rattle.image.specs.Sections.{Sections}
use Rattle.kernel.specs.Laws.{LeftUnmoved}
use Rattle.image_laws.specs.Laws.{OutcomeStays}
use Rattle.likeness.proofs.Meeting.{LinesBehind}
use Rattle.searching.specs.Following.{HasMetQuietly, IsOverBefore}
use Rattle.searching.specs.Passing.{ComesOut, IsQuiet, IsRunQuiet, MayGoOn, Through}
use Rattle.searching.specs.Searches.{AnswersRun, IsFirstFound, Searches}
use Rattle.searching.specs.declared.one.Answer.TheVariants as answers
use Rattle.searching.specs.declared.sight.Finding.{Finding}
use Rattle.searching.specs.declared.sight.Wanted.{Wanted}
use Rattle.searching.specs.declared.whole.Searched.TheVariants as searched
use Rattle.searching.proofs.Merging.{all_quiet, ended_quiet, through_raised}

module _ (i : Sections) (slots : List Slot) (part : Part) (until : ℤ) (limit : ℕ) (wanted : Wanted) where
  abbrev pub RunQuiet : List ℕ → Type 0
  RunQuiet places = IsRunQuiet i slots until limit wanted places

  abbrev pub Quiet : List ℕ → Type 0
  Quiet places = IsQuiet i slots part until limit wanted places

  abbrev pub IsThrough : (is_more : Bool) → List ℕ → Type 0
  IsThrough is_more places = Through i slots part until limit wanted is_more places

  abbrev pub GoesOnFrom : (before after : List ℕ) → Type 0
  GoesOnFrom before after = MayGoOn i slots part until limit wanted before after

  pub through_first : (places : List ℕ) → places ≡ firsts slots → AreWithin slots places → IsThrough true places
  through_first places is w = (w, λ others v before. absurd (none_before_firsts slots others (subst (IsBefore others) is before)))

  pub through_next : (is_more : Bool) (places later : List ℕ) → IsThrough true places → Quiet places → MovesOn is_more slots places later → IsThrough is_more later
  through_next true places later t quiet m = (
    m.1,
    λ others v before.
        ⊎_elim (λ same. subst Quiet (sym same) quiet) (λ earlier. t.1 others v earlier) (before_next slots places later others t.0 v m.0 before),
  )
  through_next false places later t quiet m = λ others v.
      ⊎_elim (λ same. subst Quiet (sym same) quiet) (λ earlier. t.1 others v earlier) (last_of_all slots places others t.0 v m.0)

  -- what is of other parts, too
  pub left_out : (before after : List ℕ) → IsThrough true before → is_of_part part slots before ≡ false → IsFurther slots (front_of part slots) before after
      → IsThrough true after × Quiet after
  left_out before after t not_of further =
      let none : (others : List ℕ) → AreWithin slots others → take (front_of part slots) others ≡ take (front_of part slots) before → Quiet others =
      λ others v same of. absurd (let no_yes : false ≡ true = sym not_of ∙ (sym (same_part part slots before others same) ∙ of) in cc) in (
        (further.within, through_raised slots Quiet (front_of part slots) before after t.0 further t.1 none),
        none after further.within further.front_is,
      )

  pub passed_as : (before after place : List ℕ) → place ≡ after → GoesOnFrom before after → GoesOnFrom before place
  passed_as before after place is p = subst (GoesOnFrom before) (sym is) p

  -- the run on this choice comes to nothing
  pub passed_quiet : (before : List ℕ) → IsThrough true before → RunQuiet before → GoesOnFrom before before
  passed_quiet before t quiet = record { through = t; quiet = λ of. quiet; fewer = omega arith }

  -- nothing is found under any choice with its front
  passed_with : (before after : List ℕ) (front : ℕ) → IsThrough true before
      → ((others : List ℕ) → AreWithin slots others → take front others ≡ take front before → Quiet others) → IsFurther slots front before after
      → GoesOnFrom before after
  passed_with before after front t all further = record {
    through = (further.within, through_raised slots Quiet front before after t.0 further t.1 all);
    quiet = all after further.within further.front_is;
    fewer = further.fewer;
  }

  -- its run has met an earlier one
  pub passed_met : LeftUnmoved → OutcomeStays → LinesBehind i → are_slots slots ≡ true → (before after : List ℕ) (front : ℕ) → IsThrough true before
      → HasMetQuietly i slots part until wanted before front → IsFurther slots front before after → GoesOnFrom before after
  passed_met unmoved stays behind lawful before after front t has further =
      let m = has.met in
      passed_with before after front t
      (λ others v same of.
      all_quiet unmoved stays i behind slots lawful until limit wanted front m.time m.last m.earlier before m.steps has.n m.met t.0 has.none part m.is_of m.no_less t.1
      others v same)
      further

  -- its run has come to its end, and to nothing
  pub passed_over : LeftUnmoved → OutcomeStays → LinesBehind i → are_slots slots ≡ true → (before after : List ℕ) (front : ℕ) → IsThrough true before
      → RunQuiet before → IsOverBefore i slots before front → IsFurther slots front before after → GoesOnFrom before after
  passed_over unmoved stays behind lawful before after front t quiet over further =
      passed_with before after front t
      (λ others v same of. ended_quiet unmoved stays i behind slots lawful until limit wanted front over.time before over.steps over.ends t.0 quiet others v same)
      further

  pub passed_by_front : (before after : List ℕ) → IsThrough true before → is_of_part part slots before ≡ false
      → IsFurther slots (front_of part slots) before after → GoesOnFrom before after
  passed_by_front before after t not_of further =
      let later = left_out before after t not_of further in
      record { through = later.0; quiet = later.1; fewer = further.fewer }

  pub first_found : (places : List ℕ) (schedule : List ScheduleLine) → IsThrough true places → is_of_part part slots places ≡ true
      → schedule ≡ lines_of slots (taken slots places) → IsFirstFound i slots part until limit wanted schedule
  first_found places schedule t of is = record {
    places = places;
    within = t.0;
    is_of = of;
    is = is;
    before = λ others v of_too before. t.1 others v before of_too;
  }

  pub through_all : (places : List ℕ) (worlds : ℕ) → IsThrough false places → Searches i slots part until limit wanted (searched.Nothing worlds)
  through_all places worlds t schedule set =
      subst (λ s. AnswersRun i s until limit wanted answers.Nothing) (sym set.schedule_is) (t set.places set.within set.is_of)

pub in_part : (part : Part) (slots : List Slot) (places : List ℕ) (schedule : List ScheduleLine) → AreWithin slots places → is_of_part part slots places ≡ true
    → schedule ≡ lines_of slots (taken slots places) → IsInPart part slots schedule
in_part part slots places schedule w of is = record { places = places; within = w; is_of = of; schedule_is = is }

-- how many runs are left
abbrev pub runs_left : List Slot → (is_more : Bool) → List ℕ → ℕ
runs_left slots is_more places = cond is_more (suc (left slots places)) 0

pub fewer_runs : (slots : List Slot) (is_more : Bool) (places later : List ℕ) → are_each_slots slots ≡ true → MovesOn is_more slots places later
    → runs_left slots is_more later < runs_left slots true places
fewer_runs slots true places later lawful m = let h = fewer_left slots places later lawful m.0 in omega (arith, h)
fewer_runs slots false places later lawful m = omega arith

pub fewer_passed : (slots : List Slot) (is_more : Bool) (before after later : List ℕ) → are_each_slots slots ≡ true → left slots after ≤ left slots before
    → MovesOn is_more slots after later → runs_left slots is_more later < runs_left slots true before
fewer_passed slots is_more before after later lawful fewer m =
    let less = fewer_runs slots is_more after later lawful m in omega (arith, less, fewer)

-- what a search comes to where the run on a choice comes to what is wanted, or takes too long
module _ (i : Sections) (slots : List Slot) (part : Part) (until : ℤ) (limit : ℕ) (wanted : Wanted) (places : List ℕ) (schedule : List ScheduleLine)
    (through : Through i slots part until limit wanted true places) (is_of : is_of_part part slots places ≡ true)
    (is : schedule ≡ lines_of slots (taken slots places)) where
  pub comes_out_found : (finding : Finding) → AnswersRun i (lines_of slots (taken slots places)) until limit wanted (answers.Found finding)
      → ComesOut i slots part until limit wanted (searched.Found schedule finding)
  comes_out_found finding a = record {
    answer = (in_part part slots places schedule through.0 is_of is, subst (λ s. AnswersRun i s until limit wanted (answers.Found finding)) (sym is) a);
    first = first_found i slots part until limit wanted places schedule through is_of is;
  }

  pub comes_out_long : (time : ℤ) → AnswersRun i (lines_of slots (taken slots places)) until limit wanted (answers.TooLong time)
      → ComesOut i slots part until limit wanted (searched.TooLong schedule time)
  comes_out_long time a = record {
    answer = (in_part part slots places schedule through.0 is_of is, subst (λ s. AnswersRun i s until limit wanted (answers.TooLong time)) (sym is) a);
    first = first_found i slots part until limit wanted places schedule through is_of is;
  }
