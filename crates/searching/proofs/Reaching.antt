-- Runs that take so many steps, each of which leads on in the code.
use Rattle.std.proofs.Common.{◌≡◌, ℕ, zero, suc, ◌+◌, ◌<◌, ℤ, List, [], ◌∷◌, ◌++◌, true, refl, sym, ap, subst, ◌∙◌, arith, drop, get_or, length, take}
use Rattle.std.specs.Prelude.{int_le, int_lt, ◌≤ℤ◌, ◌<ℤ◌}
use Rattle.std.proofs.lemmas.Int.{ints}
use Rattle.base.specs.declared.schedule.ScheduleLine.{ScheduleLine}
use Rattle.kernel.specs.State.{Kernel, Line}
use Rattle.kernel.specs.Laws.{LeftUnmoved}
use Rattle.kernel.specs.RunLaws.{run_plus}
use Rattle.kernel.specs.Worlds.{among, run}
use Rattle.image.specs.Code.{CodeWorld, code, start}
use Rattle.image.specs.Sections.{Sections}
use Rattle.image.specs.Steps.{behaviour}
use Rattle.execution.specs.Held.{HeldWorld, Leads, world_of, world_with}
use Rattle.choices.specs.Places.{AreWithin}
use Rattle.choices.specs.Slots.{Slot}
use Rattle.choices.specs.Stepping.{IsEarlierInFront}
use Rattle.likeness.specs.Worlds.{IsEarly, IsLastBefore, NoneSooner, ReadsNothing}
use Rattle.searching.specs.Meeting.{AgreeUnlessSet, AreEachBefore, AreEachFrom, AreLike, ArePartedAt, EndsBefore, HaveMet, IsAtEnd, MeetThere, StandsAfter, schedule_of}
use Rattle.searching.proofs.Standing.{begins_without}

pub stands_first : LeftUnmoved → (h : HeldWorld) → world_of h ≡ start h.image h.schedule → StandsAfter 0 h.image h.schedule h
stands_first unmoved h is = record {
  image = refl;
  schedule_is = refl;
  stands = sym is ∙ ap (λ l. world_with l h) (sym (begins_without unmoved h.image h.schedule));
}

-- the world after one step more
pub next_world : (n : ℕ) (i : Sections) (schedule : List ScheduleLine) (h next : HeldWorld) (told : List Line) → StandsAfter n i schedule h → Leads 1 h next told
    → code i schedule (n + 1) ≡ world_with ((code i schedule n).kernel.lines ++ told) next
next_world n i schedule h next told s leads =
    let f = among (behaviour i schedule) in
    let lines = (code i schedule n).kernel.lines in
    let l : run f 1 (world_with lines h) ≡ world_with (lines ++ told) next =
    subst (λ x. run (among (behaviour i x)) 1 (world_with lines h) ≡ world_with (lines ++ told) next) s.schedule_is
    (subst (λ j. run (among (behaviour j h.schedule)) 1 (world_with lines h) ≡ world_with (lines ++ told) next) s.image (leads.world lines)) in
    run_plus f n 1 (start i schedule) ∙ (ap (run f 1) s.stands ∙ l)

pub stands_next : (n : ℕ) (i : Sections) (schedule : List ScheduleLine) (h next : HeldWorld) (told : List Line) → StandsAfter n i schedule h → Leads 1 h next told
    → StandsAfter (n + 1) i schedule next
stands_next n i schedule h next told s leads =
    let e = next_world n i schedule h next told s leads in
    record {
      image = leads.image ∙ s.image;
      schedule_is = leads.schedule ∙ s.schedule_is;
      stands = e ∙ ap (λ l. world_with l next) (sym (ap (λ (w : CodeWorld). w.kernel.lines) e));
    }

-- ---- what is seen of what is held is true of the worlds of code

module _ (time : ℤ) (one other after : HeldWorld) (met : MeetThere time one other after) (i : Sections) (r s : List ScheduleLine) (n m : ℕ) (here : StandsAfter n i r one)
    (there : StandsAfter m i s other) where
  early : IsEarly time (code i r n).kernel
  early = record {
    now = subst (λ (w : CodeWorld). int_lt w.kernel.now time ≡ true) (sym here.stands) met.before.now;
    on = ap (λ (w : CodeWorld). w.kernel.outcome) here.stands ∙ met.before.on;
  }

  alike : AreLike (code i r n) (code i s m)
  alike =
      subst (λ v. AreLike v (code i s m)) (sym here.stands)
      (subst (λ w. AreLike (world_with (code i r n).kernel.lines one) w) (sym there.stands)
      (record { kernel = ap (λ (k : Kernel). record k { lines = (code i r n).kernel.lines }) met.alike.kernel; rest = met.alike.rest }))

  crossed : IsEarly time (code i r (n + 1)).kernel → ⊥
  crossed h =
      let e = next_world n i r one after met.lines here met.leads in
      met.crossed (record {
        now = subst (λ (w : CodeWorld). int_lt w.kernel.now time ≡ true) e h.now;
        on = sym (ap (λ (w : CodeWorld). w.kernel.outcome) e) ∙ h.on;
      })

  none : NoneSooner time (code i r n)
  none x xs e = met.none x xs (sym (ap (λ (w : CodeWorld). w.kernel.pending) here.stands) ∙ e)

  none_there : NoneSooner time (code i s m)
  none_there x xs e = met.none_other x xs (sym (ap (λ (w : CodeWorld). w.kernel.pending) there.stands) ∙ e)

  blind : ReadsNothing i (code i r n)
  blind = subst (ReadsNothing i) (sym here.stands) (subst (λ j. ReadsNothing j (world_of one)) here.image met.blind)

-- so both have met
pub has_met : (i : Sections) (slots : List Slot) (front : ℕ) (time last : ℤ) (earlier places : List ℕ) (m n : ℕ) (one other after : HeldWorld) → ArePartedAt time front slots
    → IsLastBefore last time → AreWithin slots earlier → IsEarlierInFront front earlier places
    → AgreeUnlessSet (drop front slots) time last (schedule_of slots places) (schedule_of slots earlier) → StandsAfter n i (schedule_of slots places) one → StandsAfter m i (schedule_of slots earlier) other → MeetThere time one other after
    → HaveMet i slots front time last earlier places m n
has_met i slots front time last earlier places m n one other after parted is_last within order agree here there met =
    let r = schedule_of slots places in
    let s = schedule_of slots earlier in
    record {
      parted = parted;
      last_is = is_last;
      within = within;
      order = order;
      before = early time one other after met i r s n m here there;
      alike = alike time one other after met i r s n m here there;
      none = none time one other after met i r s n m here there;
      none_earlier = none_there time one other after met i r s n m here there;
      blind = blind time one other after met i r s n m here there;
      crossed = crossed time one other after met i r s n m here there;
      agree = agree;
    }

-- slots before a time, and from it on, one after the other
before_suc : (time : ℤ) (n : ℕ) (slots : List Slot) (s : Slot) → AreEachBefore time (take n slots) → int_lt s.time time ≡ true → s ≡ get_or slots n s → n < length slots
    → AreEachBefore time (take (suc n) slots)
before_suc time n [] s b lt is h = absurd (omega (arith, h))
before_suc time zero (x ∷ slots) s b lt is h = (subst (λ y. int_lt y.time time ≡ true) is lt, tt)
before_suc time (suc n) (x ∷ slots) s b lt is h = (b.0, before_suc time n slots s b.1 lt is (omega (arith, h)))

pub before_more : (time : ℤ) (n : ℕ) (slots : List Slot) (s : Slot) → AreEachBefore time (take n slots) → s.time <ℤ time → s ≡ get_or slots n s → n < length slots
    → AreEachBefore time (take (n + 1) slots)
before_more time n slots s b lt is h =
    let e : suc n ≡ n + 1 = omega arith in subst (λ k. AreEachBefore time (take k slots)) e (before_suc time n slots s b (is_lt s.time time lt) is h)
  where
    is_lt : (a b : ℤ) → a <ℤ b → int_lt a b ≡ true
    is_lt a b h = grind (arith, ints)

from_suc : (time : ℤ) (n : ℕ) (slots : List Slot) (s : Slot) → AreEachFrom time (take n slots) → int_le time s.time ≡ true → s ≡ get_or slots n s → n < length slots
    → AreEachFrom time (take (suc n) slots)
from_suc time n [] s b le is h = absurd (omega (arith, h))
from_suc time zero (x ∷ slots) s b le is h = (subst (λ y. int_le time y.time ≡ true) is le, tt)
from_suc time (suc n) (x ∷ slots) s b le is h = (b.0, from_suc time n slots s b.1 le is (omega (arith, h)))

pub from_more : (time : ℤ) (n : ℕ) (slots : List Slot) (s : Slot) → AreEachFrom time (take n slots) → time ≤ℤ s.time → s ≡ get_or slots n s → n < length slots
    → AreEachFrom time (take (n + 1) slots)
from_more time n slots s b le is h =
    let e : suc n ≡ n + 1 = omega arith in subst (λ k. AreEachFrom time (take k slots)) e (from_suc time n slots s b (is_le time s.time le) is h)
  where
    is_le : (a b : ℤ) → a ≤ℤ b → int_le a b ≡ true
    is_le a b h = grind (arith, ints)

-- a run that has come to its end
pub has_ended : (i : Sections) (slots : List Slot) (front : ℕ) (time : ℤ) (places : List ℕ) (n : ℕ) (h : HeldWorld) (j : Sections) (r here : List ScheduleLine)
    → j ≡ i → r ≡ here → here ≡ schedule_of slots places → ArePartedAt time front slots → StandsAfter n j r h → IsAtEnd time (world_of h).kernel
    → EndsBefore i slots front time places n
has_ended i slots front time places n h j r here ji rh hs parted stands end_ =
    let s : StandsAfter n i (schedule_of slots places) h = subst (λ x. StandsAfter n x (schedule_of slots places) h) ji (subst (λ a. StandsAfter n j a h) (rh ∙ hs) stands) in
    record {
      parted = parted;
      before = record {
        now = subst (λ (w : CodeWorld). int_lt w.kernel.now time ≡ true) (sym s.stands) end_.0.now;
        on = λ is. end_.0.on (sym (ap (λ (w : CodeWorld). w.kernel.outcome) s.stands) ∙ is);
      };
      outcome = end_.1.0;
      over = ap (λ (w : CodeWorld). w.kernel.outcome) s.stands ∙ end_.1.1;
    }
