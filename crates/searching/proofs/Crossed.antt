-- Where the step of a run passes the time of slots from a world that a row has, the run has met that of the row.
use Rattle.std.proofs.Common.{◌≡◌, ℕ, zero, suc, ◌+◌, ◌-◌, ◌<◌, ◌≤◌, ℤ, List, [], ◌∷◌, ◌++◌, Option, Some, None, true, drop, get_or, length, take, inl, inr, refl, sym, ap, subst, ◌∙◌, ⊎_elim, arith, rules}
use Rattle.std.proofs.lemmas.Int.{ints}
use Rattle.std.specs.Prelude.{◌⊎◌, IfSome, ◌<ℤ◌, int_le, int_lt, nat_le}
use Rattle.std.proofs.lemmas.Bool.{and_parts}
use Rattle.base.specs.Schedule.{input}
use Rattle.base.specs.declared.limits.TheConstants.{CHANNELS}
use Rattle.base.specs.declared.schedule.ScheduleLine.{ScheduleLine}
use Rattle.choices.specs.Parts.{front_of, is_of_part}
use Rattle.choices.specs.Places.{AreWithin}
use Rattle.choices.specs.Slots.{Slot}
use Rattle.choices.specs.declared.part.Part.{Part}
use Rattle.image.specs.Sections.{Sections}
use Rattle.tasking.specs.Held.{Held, kernel_of}
use Rattle.tasking.specs.Orderly.{time_ahead}
use Rattle.execution.specs.Held.{HeldWorld, world_of}
use Rattle.likeness.specs.Worlds.{IsEarly, IsLastBefore, NoneSooner}
use Rattle.searching.specs.Following.{AreCheckpoints, AreValues, CrossesAt, CrossesFrom, HasMetAfter, HasMetQuietly, IsCheckpoint, IsMomentOf, IsPauseOf, IsRow, KeptCheckpoint, KeptMoment, KeptRow, MeetsRow, NoneBefore, Standing, StepsOn}
use Rattle.searching.specs.Meeting.{AgreeUnlessSet, IsSetAnew, MeetThere, StandsAfter, schedule_of}
use Rattle.searching.specs.declared.sight.Wanted.{Wanted}
use Rattle.execution.proofs.Encoded.{ahead_same}
use Rattle.searching.proofs.Alike.{worlds_like}
use Rattle.searching.proofs.Encoded.{alike_by}
use Rattle.searching.proofs.Reaching.{has_met}

some_same : {X : Type 0} (x y : X) → Some x ≡ Some y → x ≡ y
some_same x y e = search (rules, e)

pub is_lt : (a b : ℤ) → a <ℤ b → int_lt a b ≡ true
is_lt a b h = grind (arith, ints)

-- the next interrupt isn't sooner
none_sooner : (time : ℤ) (h : HeldWorld) (next : Option ℤ) → next ≡ time_ahead (kernel_of h.tasking).pending → NoneBefore time next → NoneSooner time (world_of h)
none_sooner time h None e n x xs is = absurd (let bad = e ∙ ap time_ahead is in cc)
none_sooner time h (Some next) e n x xs is = subst (λ z. int_le time z ≡ true) (some_same next x.time (e ∙ ap time_ahead is)) n

-- values, told of what is the same
pub values_of : (slots told : List Slot) (front : ℕ) (t time : ℤ) (schedule own : List ScheduleLine) (l last : ℤ) (values : List ℤ) → told ≡ slots → t ≡ time
    → schedule ≡ own → l ≡ last → AreValues (drop front told) t schedule l values → AreValues (drop front slots) time own last values
values_of slots told front t time schedule own l last values slots_are time_is schedule_is last_is are =
    subst (λ z. AreValues (drop front slots) time own z values) last_is
    (subst (λ s. AreValues (drop front slots) time s l values) schedule_is
    (subst (λ z. AreValues (drop front slots) z schedule l values) time_is (subst (λ s. AreValues (drop front s) t schedule l values) slots_are are)))

-- equal values of the channels are equal inputs, but for those that are set anew
agree_by : (tail : List Slot) (time : ℤ) (r s : List ScheduleLine) (last : ℤ) (values others : List ℤ) → AreValues tail time r last values
    → AreValues tail time s last others → others ≡ values → AgreeUnlessSet tail time last r s
agree_by tail time r s last values others a b same channel known =
    let both = and_parts (nat_le 1 channel) (nat_le channel CHANNELS) known in
    let low : 1 ≤ channel = search (rules, both.0) in
    let high : channel ≤ CHANNELS = search (rules, both.1) in
    let place = channel - 1 in
    let lt : place < CHANNELS = omega (arith, low, high) in
    let is : place + 1 ≡ channel = omega (arith, low) in
    subst (λ c. IsSetAnew time c tail ⊎ (input r c last ≡ input s c last)) is
    (⊎_elim (λ anew. inl anew)
    (λ one. ⊎_elim (λ anew. inl anew) (λ other. inr (sym one ∙ (ap (λ l. get_or l place last) (sym same) ∙ other))) (b.each place last lt)) (a.each place last lt))

module _ (slots : List Slot) (part : Part) (places : List ℕ) (h : HeldWorld) (n : ℕ) (next : HeldWorld) (m : KeptMoment)
    (from : CrossesFrom slots part places h n next m) (front : ℕ) (time : ℤ) (at : CrossesAt slots m next front time) where
  pub early_there : IsEarly time (world_of h).kernel
  early_there = record {
    now = subst (λ z. int_lt z time ≡ true) from.moment.seen.time at.early;
    on = from.moment.seen.on;
  }

  pub none_there : NoneSooner time (world_of h)
  none_there = none_sooner time h m.next from.moment.next at.none

  pub meets : (r : KeptRow) (last : ℤ) (values : List ℤ) → IsRow h.image slots part r → IsLastBefore last time
      → AreValues (drop front slots) time (schedule_of slots places) last values → MeetsRow r places front time values m.words → front_of part slots ≤ front
      → HasMetAfter h.image slots part places n front
  meets r last values row is_last own met no_less =
      let there = subst (λ z. IsLastBefore last z) (sym met.time_is) is_last in
      let others : AreValues (drop front slots) time (schedule_of slots r.choice) last row.values =
      subst (λ f. AreValues (drop f slots) time (schedule_of slots r.choice) last row.values) met.front_is
      (subst (λ z. AreValues (drop r.front slots) z (schedule_of slots r.choice) last row.values) met.time_is (row.are_values last there)) in
      let parts = ahead_same row.values values row.encoded m.words (others.count ∙ sym own.count) (sym row.words ∙ met.words_are) in
      let one = from.moment.encoded in
      let other = row.is_encoded in
      let same = sym one.are ∙ (sym parts.1 ∙ other.are) in
      let many = one.seen.contents.fits.count ∙ (ap (λ i. length i.tasks + 1) (sym row.stands.image) ∙ sym other.seen.contents.fits.count) in
      let meeting : MeetThere time h row.held next = record {
        before = early_there;
        alike = worlds_like h row.held one.world other.world (sym row.stands.image) one.seen other.seen (alike_by one.world other.world many same);
        none = none_there;
        none_other = subst (λ z. NoneSooner z (world_of row.held)) met.time_is row.none;
        blind = from.moment.blind;
        lines = from.lines;
        leads = from.leads;
        crossed = at.crossed;
      } in
      let all =
      has_met h.image slots front time last r.choice places row.steps n h row.held next at.parted is_last row.within met.order
      (agree_by (drop front slots) time (schedule_of slots places) (schedule_of slots r.choice) last values row.values own others parts.0) from.stands
      row.stands meeting in
      record { earlier = r.choice; time = time; last = last; steps = row.steps; met = all; is_of = row.is_of; no_less = no_less }

  -- the world is kept as a row
  pub row_of_it : (digested : KeptRow) (last : ℤ) (values : List ℤ) → digested.front ≡ front → digested.time ≡ time → digested.choice ≡ places
      → digested.words ≡ values ++ m.words → IsLastBefore last time → AreValues (drop front slots) time (schedule_of slots places) last values
      → IsRow h.image slots part digested
  row_of_it r last values front_is time_is choice_is words_are is_last own = record {
    held = h;
    steps = n;
    within = subst (AreWithin slots) (sym choice_is) from.within;
    is_of = subst (λ c. is_of_part part slots c ≡ true) (sym choice_is) from.is_of;
    stands = subst (λ c. StandsAfter n h.image (schedule_of slots c) h) (sym choice_is) from.stands;
    none = subst (λ z. NoneSooner z (world_of h)) (sym time_is) none_there;
    values = values;
    encoded = m.words;
    words = words_are;
    are_values =
        λ other before.
        subst (λ f. AreValues (drop f slots) r.time (schedule_of slots r.choice) other values) (sym front_is)
        (subst (λ z. AreValues (drop front slots) z (schedule_of slots r.choice) other values) (sym time_is)
        (subst (λ c. AreValues (drop front slots) time (schedule_of slots c) other values) (sym choice_is)
        (subst (λ z. AreValues (drop front slots) time (schedule_of slots places) z values)
        (one_last last other is_last (subst (IsLastBefore other) time_is before)) own)));
    is_encoded = from.moment.encoded;
  }
    where
      -- there is one last time before another
      one_last : (a b : ℤ) → IsLastBefore a time → IsLastBefore b time → a ≡ b
      one_last a b x y = both a b (y.all a x.early) (x.all b y.early)
        where
          both : (a b : ℤ) → int_le a b ≡ true → int_le b a ≡ true → a ≡ b
          both a b h i = grind (arith, ints)

-- ---- the step of a run on the way of a search

module _ (slots : List Slot) (part : Part) (places : List ℕ) (until : ℤ) (limit : ℕ) (wanted : Wanted) (h : HeldWorld) (now : ℤ) (left : ℕ) (next : HeldWorld) where
  pub crosses_from : (m : KeptMoment) (s : StepsOn slots part places until limit wanted h now left next) → IsMomentOf h m
      → CrossesFrom slots part places h s.stands.n next m
  crosses_from m s moment = record {
    within = s.within;
    is_of = s.is_of;
    stands = record { image = refl; schedule_is = s.stands.schedule_is; stands = s.stands.stands };
    moment = moment;
    lines = s.lines;
    leads = s.leads;
  }

  -- so far nothing was found
  pub met_quietly : (s : StepsOn slots part places until limit wanted h now left next) (met : Option ℕ)
      → IfSome met (HasMetAfter h.image slots part places s.stands.n) → IfSome met (HasMetQuietly h.image slots part until wanted places)
  met_quietly s None is = tt
  met_quietly s (Some front) is = record { n = s.stands.n; met = is; none = s.stands.none }

-- the world of a moment is kept as a checkpoint
pub checkpoint_of : (slots : List Slot) (until : ℤ) (limit : ℕ) (wanted : Wanted) (places : List ℕ) (h : HeldWorld) (m : KeptMoment) (now : ℤ) (left : ℕ)
    (next : HeldWorld) (front : ℕ) (time : ℤ) (pause : Held) → IsMomentOf h m → AreWithin slots places
    → Standing h.image (schedule_of slots places) until limit wanted h now left → CrossesAt slots m next front time → m.pause ≡ Some pause
    → IsCheckpoint h.image slots until limit wanted (record { choice = places; front = front; time = time; left = left; world = m.world; pause = pause })
checkpoint_of slots until limit wanted places h m now left next front time pause is within stands at copied = record {
  held = h;
  stands = subst (λ z. Standing h.image (schedule_of slots places) until limit wanted h z left) (stands.now_is ∙ sym is.seen.time) stands;
  seen = is.seen;
  pause = subst (λ o. IfSome o (IsPauseOf h)) copied is.pause;
  within = within;
  parted = at.parted;
  early = record { now = subst (λ z. int_lt z time ≡ true) is.seen.time at.early; on = is.seen.on };
  none = none_sooner time h m.next is.next at.none;
}

-- ---- rows and checkpoints among others

module _ (i : Sections) (slots : List Slot) (until : ℤ) (limit : ℕ) (wanted : Wanted) where
  pub checkpoint_at : (cs : List KeptCheckpoint) (place : ℕ) (d : KeptCheckpoint) → place < length cs → AreCheckpoints i slots until limit wanted cs
      → IsCheckpoint i slots until limit wanted (get_or cs place d)
  checkpoint_at [] place d lt all = absurd (omega (arith, lt))
  checkpoint_at (c ∷ cs) zero d lt all = all.0
  checkpoint_at (c ∷ cs) (suc place) d lt all = checkpoint_at cs place d (omega (arith, lt)) all.1

  pub checkpoints_taken : (count : ℕ) (cs : List KeptCheckpoint) → AreCheckpoints i slots until limit wanted cs → AreCheckpoints i slots until limit wanted (take count cs)
  checkpoints_taken zero cs all = tt
  checkpoints_taken (suc count) [] all = tt
  checkpoints_taken (suc count) (c ∷ cs) all = (all.0, checkpoints_taken count cs all.1)

  pub checkpoints_behind : (cs : List KeptCheckpoint) → AreCheckpoints i slots until limit wanted cs → AreCheckpoints i slots until limit wanted (drop 1 cs)
  checkpoints_behind [] all = tt
  checkpoints_behind (c ∷ cs) all = all.1

  pub checkpoints_both : (cs ds : List KeptCheckpoint) → AreCheckpoints i slots until limit wanted cs → AreCheckpoints i slots until limit wanted ds
      → AreCheckpoints i slots until limit wanted (cs ++ ds)
  checkpoints_both [] ds all more = more
  checkpoints_both (c ∷ cs) ds all more = (all.0, checkpoints_both cs ds all.1 more)
