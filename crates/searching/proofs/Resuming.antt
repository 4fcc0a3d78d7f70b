-- The run on another choice with the same front goes on from a checkpoint.
use Rattle.std.proofs.Common.{◌≡◌, ℕ, zero, suc, ◌+◌, ◌-◌, ℤ, List, [], ◌∷◌, ◌++◌, Some, None, true, false, cond, drop, take, length, refl, sym, ap, subst, ◌∙◌, arith}
use Rattle.std.specs.Prelude.{int_le, int_lt}
use Rattle.std.specs.List.{prefix_len}
use Rattle.std.proofs.Math.Seq.{drop-append_seam}
use Rattle.std.proofs.lemmas.Int.{ints}
use Rattle.base.specs.Schedule.{is_schedule}
use Rattle.base.specs.declared.schedule.ScheduleLine.{ScheduleLine}
use Rattle.choices.specs.Places.{AreWithin}
use Rattle.choices.specs.Slots.{Slot, are_slots}
use Rattle.kernel.specs.State.{Kernel, Line, WaitsForever}
use Rattle.kernel.specs.Worlds.{among, run, step}
use Rattle.image.specs.Attachments.{interrupts}
use Rattle.image.specs.Code.{CodeWorld, code, start}
use Rattle.image.specs.Rules.{IsWellFormed}
use Rattle.image.specs.Sections.{Sections}
use Rattle.image.specs.Steps.{behaviour}
use Rattle.image_laws.specs.Laws.{OutcomeStays}
use Rattle.image_laws.specs.Whole.{IsWhole, StartsWhole, StepsWhole}
use Rattle.tasking.specs.Held.{kernel_of}
use Rattle.tasking.specs.Laws.{KeptWithLines}
use Rattle.execution.specs.Held.{HeldWorld, rest_of, task_at, world_of, world_with}
use Rattle.execution.specs.Saving.{AreContentsOf, world_in}
use Rattle.likeness.specs.Schedules.{AreBefore, AreFrom}
use Rattle.likeness.specs.Worlds.{IsEarly, IsSure, NoneSooner}
use Rattle.likeness.proofs.Meeting.{other_world, paired, sure}
use Rattle.searching.specs.Following.{IsCheckpoint, KeptCheckpoint, Standing}
use Rattle.searching.specs.Meeting.{schedule_of}
use Rattle.searching.specs.Searches.{kernels}
use Rattle.searching.specs.Sights.{HasLine}
use Rattle.searching.specs.declared.sight.Wanted.{Wanted}
use Rattle.searching.proofs.Merging.{before_lines, from_lines, schedule_lawful, schedule_parts, split_of, within_front}

-- lines of which the first are before a time, and the next isn't
pub count_is : (time : ℤ) (c d : List ScheduleLine) → AreBefore time c → AreFrom time d → prefix_len (λ l. int_lt l.time time) (c ++ d) ≡ length c
count_is time [] [] before from = refl
count_is time [] (l ∷ d) before from = ap (λ b. cond b (1 + prefix_len (λ x. int_lt x.time time) d) 0) (not_before time l.time from.0)
  where
    not_before : (t at : ℤ) → int_le t at ≡ true → int_lt at t ≡ false
    not_before t at h = grind (arith, ints)
count_is time (l ∷ c) d before from =
    ap (λ b. cond b (1 + prefix_len (λ x. int_lt x.time time) (c ++ d)) 0) before.0
    ∙ (ap (λ n. 1 + n) (count_is time c d before.1 from) ∙ (let e : 1 + length c ≡ length (l ∷ c) = omega arith in e))

-- every world of an image's runs is whole
whole_run : (i : Sections) → IsWellFormed i → StepsWhole → (schedule : List ScheduleLine) (n : ℕ) (w : CodeWorld) → IsWhole i w
    → IsWhole i (run (among (behaviour i schedule)) n w)
whole_run i well steps schedule zero w h = h
whole_run i well steps schedule (suc n) w h = whole_run i well steps schedule n (step (among (behaviour i schedule)) w) (steps i well schedule w h)

pub whole_code : (i : Sections) → IsWellFormed i → StartsWhole → StepsWhole → (schedule : List ScheduleLine) (n : ℕ) → IsWhole i (code i schedule n)
whole_code i well starts steps schedule n = whole_run i well steps schedule n (start i schedule) (starts i well schedule)

-- lines matter to no whole world
without_lines : KeptWithLines → (i : Sections) (w : CodeWorld) (lines : List Line) → IsWhole i w → IsWhole i (record { kernel = record w.kernel { lines = lines }; rest = w.rest })
without_lines with_lines i w lines h = record {
  kept = with_lines _ w.kernel lines h.kept;
  linked = h.linked;
  handled = h.handled;
  bounded = record { running = h.bounded.running; ready = h.bounded.ready; sleepers = h.bounded.sleepers; pending = h.bounded.pending; queued = h.bounded.queued; callers = h.bounded.callers; now = h.bounded.now };
  partition = h.partition;
}

module _ (stays : OutcomeStays) (i : Sections) (slots : List Slot) (lawful : are_slots slots ≡ true) (until : ℤ) (limit : ℕ) (wanted : Wanted) (c : KeptCheckpoint)
    (is : IsCheckpoint i slots until limit wanted c) (places : List ℕ) (v : AreWithin slots places) (same : take c.front places ≡ take c.front c.choice) where
  abbrev n : ℕ
  n = is.stands.n

  abbrev front : List ScheduleLine
  front = schedule_of (take c.front slots) (take c.front c.choice)

  abbrev old : List ScheduleLine
  old = schedule_of (drop c.front slots) (drop c.front c.choice)

  abbrev pub tail : List ScheduleLine
  tail = schedule_of (drop c.front slots) (drop c.front places)

  old_is : schedule_of slots c.choice ≡ front ++ old
  old_is =
      ap (schedule_of slots) (sym (split_of c.front c.choice))
      ∙ schedule_parts c.front slots (take c.front c.choice) (drop c.front c.choice) (within_front c.front slots c.choice is.within)

  pub new_is : schedule_of slots places ≡ front ++ tail
  new_is =
      ap (schedule_of slots) (sym (split_of c.front places) ∙ ap (λ l. l ++ drop c.front places) same)
      ∙ schedule_parts c.front slots (take c.front c.choice) (drop c.front places) (within_front c.front slots c.choice is.within)

  before_front : AreBefore c.time front
  before_front = before_lines c.time (take c.front slots) (take c.front c.choice) is.parted.before

  from_old : AreFrom c.time old
  from_old = from_lines c.time (drop c.front slots) (drop c.front c.choice) is.parted.from

  from_tail : AreFrom c.time tail
  from_tail = from_lines c.time (drop c.front slots) (drop c.front places) is.parted.from

  -- the lines of the front have passed
  pub passed_is : (lines : List ScheduleLine) (passed : ℕ) → lines ≡ schedule_of slots places → passed ≡ prefix_len (λ l. int_lt l.time c.time) lines
      → drop passed lines ≡ tail
  passed_is lines passed lines_are is_count =
      let all : lines ≡ front ++ tail = lines_are ∙ new_is in
      let count : passed ≡ length front = is_count ∙ (ap (λ l. prefix_len (λ x. int_lt x.time c.time) l) all ∙ count_is c.time front tail before_front from_tail) in
      (λ j. drop (count j) (all j)) ∙ drop-append_seam front tail

  lawful_old : is_schedule (front ++ old) ≡ true
  lawful_old = subst (λ s. is_schedule s ≡ true) old_is (schedule_lawful slots c.choice lawful is.within)

  stands_old : code i (front ++ old) n ≡ world_with (kernels i (front ++ old) n).lines is.held
  stands_old = subst (λ s. code i s n ≡ world_with (kernels i s n).lines is.held) old_is is.stands.stands

  early : IsEarly c.time (code i (front ++ old) n).kernel
  early = record {
    now = subst (λ (w : CodeWorld). int_lt w.kernel.now c.time ≡ true) (sym stands_old) is.early.now;
    on = ap (λ (w : CodeWorld). w.kernel.outcome) stands_old ∙ is.early.on;
  }

  none : NoneSooner c.time (code i (front ++ old) n)
  none x xs e = is.none x xs (sym (ap (λ (w : CodeWorld). w.kernel.pending) stands_old) ∙ e)

  other : code i (front ++ tail) n ≡ record { kernel = record (code i (front ++ old) n).kernel { pending = interrupts i tail }; rest = (code i (front ++ old) n).rest }
  other = other_world i c.time front old tail before_front from_old from_tail lawful_old n (sure c.time (code i (front ++ old) n).kernel early) none

  -- the world at which both stand, with what is pending under the other schedule
  abbrev lines : List Line
  lines = (kernels i (front ++ old) n).lines

  there : code i (front ++ tail) n
      ≡ record { kernel = record (kernel_of is.held.tasking) { lines = lines; pending = interrupts i tail }; rest = rest_of is.held }
  there = other ∙ (λ j. record { kernel = record (stands_old j).kernel { pending = interrupts i tail }; rest = (stands_old j).rest })

  pub resumed_is : world_in i c.world.contents c.pause (interrupts i tail)
      ≡ record { kernel = record (kernel_of is.held.tasking) { pending = interrupts i tail }; rest = rest_of is.held }
  resumed_is = λ j. record { kernel = record (is.pause.kernel j) { pending = interrupts i tail }; rest = rest_is j }
    where
      contents : AreContentsOf is.held c.world.contents
      contents = is.seen.contents

      rest_is : (world_in i c.world.contents c.pause (interrupts i tail)).rest ≡ rest_of is.held
      rest_is =
          subst (λ x. (world_in x c.world.contents c.pause (interrupts i tail)).rest ≡ rest_of is.held) is.stands.image
          (λ j. record { memory = contents.words j; tasks = task_at is.held.image (is.pause.handler j) (contents.tasks j) })

  -- it is that of code
  resumed_there : code i (schedule_of slots places) n
      ≡ record { kernel = record (world_in i c.world.contents c.pause (interrupts i tail)).kernel { lines = lines }; rest = (world_in i c.world.contents c.pause (interrupts i tail)).rest }
  resumed_there =
      ap (λ s. code i s n) new_is
      ∙ (there ∙ (λ j. record { kernel = record (sym resumed_is j).kernel { lines = lines }; rest = (sym resumed_is j).rest }))

  pub resumed_whole : KeptWithLines → IsWellFormed i → StartsWhole → StepsWhole → IsWhole i (world_in i c.world.contents c.pause (interrupts i tail))
  resumed_whole with_lines well starts steps =
      without_lines with_lines i _ [] (subst (IsWhole i) resumed_there (whole_code i well starts steps (schedule_of slots places) n))

  -- the time was the same as many steps before
  first_early : IsSure c.time (code i (front ++ old) is.stands.since.first).kernel
  first_early = record {
    now = subst (λ z. int_lt z c.time ≡ true) (sym now_there) (subst (λ z. int_lt z c.time ≡ true) (sym is.stands.now_is) is.early.now);
    on = λ o.
        absurd (let on : (code i (front ++ old) n).kernel.outcome ≡ Some WaitsForever =
        ap (λ m. (code i (front ++ old) m).kernel.outcome) (sym is.stands.since.at)
        ∙ (ap (λ (w : CodeWorld). w.kernel.outcome) (stays i (front ++ old) is.stands.since.first (limit - c.left) WaitsForever o) ∙ o) in
        let bad : None ≡ Some WaitsForever = sym early.on ∙ on in cc);
  }
    where
      now_there : (code i (front ++ old) is.stands.since.first).kernel.now ≡ c.world.time
      now_there = subst (λ s. (kernels i s is.stands.since.first).now ≡ c.world.time) old_is is.stands.since.same

  first_same : (kernels i (schedule_of slots places) is.stands.since.first).now ≡ c.world.time
  first_same =
      let p = paired i c.time front old tail before_front from_old from_tail lawful_old is.stands.since.first first_early in
      ap (λ s. (kernels i s is.stands.since.first).now) new_is
      ∙ (ap (λ (k : Kernel). k.now) p.kernels.there
      ∙ (ap (λ s. (kernels i s is.stands.since.first).now) (sym old_is) ∙ is.stands.since.same))

  pub resumed_stands : (h : HeldWorld) → h.image ≡ i → h.schedule ≡ schedule_of slots places
      → world_of h ≡ world_in i c.world.contents c.pause (interrupts i tail)
      → Standing i (schedule_of slots places) until limit wanted h c.world.time c.left
  resumed_stands h image schedule world = record {
    n = n;
    image = image;
    schedule_is = schedule;
    stands = resumed_there ∙ ((λ j. record { kernel = record (sym world j).kernel { lines = lines }; rest = (sym world j).rest }) ∙ ap (λ l. world_with l h) (sym lines_there));
    now_is = is.stands.now_is ∙ (sym (ap (λ (w : CodeWorld). w.kernel.now) resumed_is) ∙ sym (ap (λ (w : CodeWorld). w.kernel.now) world));
    none = λ line has. is.stands.none line (subst (λ l. HasLine l line) (lines_there ∙ ap (λ s. (kernels i s n).lines) (sym old_is)) has);
    since = record { first = is.stands.since.first; at = is.stands.since.at; few = is.stands.since.few; same = first_same };
  }
    where
      lines_there : (kernels i (schedule_of slots places) n).lines ≡ lines
      lines_there = ap (λ (w : CodeWorld). w.kernel.lines) resumed_there
