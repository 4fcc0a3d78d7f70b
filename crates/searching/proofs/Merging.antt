-- Where the run on a choice has met that of an earlier one, nothing is found under any choice with the same front.
use Rattle.std.proofs.Common.{◌≡◌, ℕ, zero, suc, ◌+◌, ◌≤◌, ℤ, pos, List, [], ◌∷◌, ◌++◌, true, Option, Some, None, drop, take, refl, sym, ap, subst, ◌∙◌, ⊎_elim, append_assoc}
use Rattle.std.specs.Prelude.{int_le, int_lt, slice_get, ◌≤ℤ◌}
use Rattle.base.specs.Schedule.{input, is_schedule}
use Rattle.base.specs.declared.schedule.ScheduleLine.{ScheduleLine}
use Rattle.choices.specs.Parts.{front_of, is_of_part}
use Rattle.choices.specs.declared.part.Part.{Part}
use Rattle.choices.proofs.Parting.{mixed_part}
use Rattle.choices.specs.Places.{AreWithin, IsBefore, flat, taken}
use Rattle.choices.specs.Slots.{Slot, are_slots, line_of}
use Rattle.choices.specs.Stepping.{IsFurther}
use Rattle.choices.proofs.Lawful.{schedule_of_choice}
use Rattle.choices.proofs.Moving.{long_as}
use Rattle.choices.proofs.Order.{taken_is_choice}
use Rattle.choices.proofs.Raising.{before_front, before_whole}
use Rattle.kernel.specs.State.{Line}
use Rattle.kernel.specs.Laws.{LeftUnmoved}
use Rattle.image.specs.Code.{code}
use Rattle.image.specs.Sections.{Sections}
use Rattle.image_laws.specs.Laws.{OutcomeStays}
use Rattle.likeness.specs.Schedules.{AgreeFrom, AreBefore, AreFrom}
use Rattle.likeness.specs.Worlds.{IsEarly, IsSure, NoneSooner, ReadsNothing}
use Rattle.likeness.proofs.Inputs.{after_both, front_input, same_from}
use Rattle.likeness.proofs.Meeting.{HaveOneFuture, LinesBehind, have_one_end, have_one_future}
use Rattle.searching.specs.Following.{NoneWanted}
use Rattle.searching.specs.Meeting.{AreEachBefore, AreEachFrom, AreLike, EndsBefore, HaveMet, schedule_of}
use Rattle.searching.specs.Searches.{AnswersRun, kernels}
use Rattle.searching.specs.Sights.{HasLine, IsWanted, Written}
use Rattle.searching.specs.declared.one.Answer.TheVariants as answers
use Rattle.searching.specs.declared.sight.Wanted.{Wanted}
use Rattle.searching.proofs.Anew.{set_anew}
use Rattle.searching.proofs.Quiet.{quiet_too}

-- ---- the front and the tail of choices and of their schedules

pub within_front : (n : ℕ) (slots : List Slot) (ps : List ℕ) → AreWithin slots ps → AreWithin (take n slots) (take n ps)
within_front zero slots ps w = tt
within_front (suc n) [] [] w = tt
within_front (suc n) [] (p ∷ ps) w = absurd w
within_front (suc n) (s ∷ slots) [] w = absurd w
within_front (suc n) (s ∷ slots) (p ∷ ps) w = (w.0, within_front n slots ps w.1)

pub within_tail : (n : ℕ) (slots : List Slot) (ps : List ℕ) → AreWithin slots ps → AreWithin (drop n slots) (drop n ps)
within_tail zero slots ps w = w
within_tail (suc n) [] [] w = tt
within_tail (suc n) [] (p ∷ ps) w = absurd w
within_tail (suc n) (s ∷ slots) [] w = absurd w
within_tail (suc n) (s ∷ slots) (p ∷ ps) w = within_tail n slots ps w.1

within_both : (n : ℕ) (slots : List Slot) (ps qs : List ℕ) → AreWithin (take n slots) ps → AreWithin (drop n slots) qs → AreWithin slots (ps ++ qs)
within_both zero slots [] qs w v = v
within_both zero slots (p ∷ ps) qs w v = absurd w
within_both (suc n) [] [] qs w v = v
within_both (suc n) [] (p ∷ ps) qs w v = absurd w
within_both (suc n) (s ∷ slots) [] qs w v = absurd w
within_both (suc n) (s ∷ slots) (p ∷ ps) qs w v = (w.0, within_both n slots ps qs w.1 v)

-- the schedule of two parts of a choice
behind_line : (s : Slot) (a : Option ℤ) (xs ys : List ScheduleLine) → line_of s a ++ (xs ++ ys) ≡ (line_of s a ++ xs) ++ ys
behind_line s a xs ys = sym (append_assoc (line_of s a) xs ys)

pub schedule_parts : (n : ℕ) (slots : List Slot) (ps qs : List ℕ) → AreWithin (take n slots) ps
    → schedule_of slots (ps ++ qs) ≡ schedule_of (take n slots) ps ++ schedule_of (drop n slots) qs
schedule_parts zero slots [] qs w = refl
schedule_parts zero slots (p ∷ ps) qs w = absurd w
schedule_parts (suc n) [] [] qs w = refl
schedule_parts (suc n) [] (p ∷ ps) qs w = absurd w
schedule_parts (suc n) (s ∷ slots) [] qs w = absurd w
schedule_parts (suc n) (s ∷ slots) (p ∷ ps) qs w =
    let a = flat (slice_get s.alternatives p) in
    ap (λ l. line_of s a ++ l) (schedule_parts n slots ps qs w.1) ∙ behind_line s a (schedule_of (take n slots) ps) (schedule_of (drop n slots) qs)

pub split_of : (n : ℕ) (ps : List ℕ) → take n ps ++ drop n ps ≡ ps
split_of zero ps = refl
split_of (suc n) [] = refl
split_of (suc n) (p ∷ ps) = ap (λ l. p ∷ l) (split_of n ps)

one_before : (time : ℤ) (s : Slot) (a : Option ℤ) (rest : List ScheduleLine) → int_lt s.time time ≡ true → AreBefore time rest → AreBefore time (line_of s a ++ rest)
one_before time s None rest here more = more
one_before time s (Some value) rest here more = (here, more)

pub before_lines : (time : ℤ) (slots : List Slot) (ps : List ℕ) → AreEachBefore time slots → AreBefore time (schedule_of slots ps)
before_lines time [] ps b = tt
before_lines time (s ∷ slots) [] b = tt
before_lines time (s ∷ slots) (p ∷ ps) b =
    one_before time s (flat (slice_get s.alternatives p)) (schedule_of slots ps) b.0 (before_lines time slots ps b.1)

one_from : (time : ℤ) (s : Slot) (a : Option ℤ) (rest : List ScheduleLine) → int_le time s.time ≡ true → AreFrom time rest → AreFrom time (line_of s a ++ rest)
one_from time s None rest here more = more
one_from time s (Some value) rest here more = (here, more)

pub from_lines : (time : ℤ) (slots : List Slot) (ps : List ℕ) → AreEachFrom time slots → AreFrom time (schedule_of slots ps)
from_lines time [] ps b = tt
from_lines time (s ∷ slots) [] b = tt
from_lines time (s ∷ slots) (p ∷ ps) b =
    one_from time s (flat (slice_get s.alternatives p)) (schedule_of slots ps) b.0 (from_lines time slots ps b.1)

pub schedule_lawful : (slots : List Slot) (ps : List ℕ) → are_slots slots ≡ true → AreWithin slots ps → is_schedule (schedule_of slots ps) ≡ true
schedule_lawful slots ps ok w = schedule_of_choice slots (taken slots ps) ok (taken_is_choice slots ps w)

module _ (unmoved : LeftUnmoved) (stays : OutcomeStays) (i : Sections) (behind : LinesBehind i) (slots : List Slot) (lawful : are_slots slots ≡ true) (until : ℤ)
    (limit : ℕ) (wanted : Wanted) where
  abbrev IsQuietOn : List ℕ → Type 0
  IsQuietOn ps = AnswersRun i (schedule_of slots ps) until limit wanted answers.Nothing

  module _ (front : ℕ) (time last : ℤ) (earlier places : List ℕ) (m n : ℕ) (met : HaveMet i slots front time last earlier places m n) (within : AreWithin slots places)
      (none : NoneWanted until wanted (kernels i (schedule_of slots places) n).lines) where
    abbrev c : List ScheduleLine
    c = schedule_of (take front slots) (take front places)

    abbrev e : List ScheduleLine
    e = schedule_of (take front slots) (take front earlier)

    abbrev first : List ScheduleLine
    first = schedule_of (drop front slots) (drop front places)

    here_is : schedule_of slots places ≡ c ++ first
    here_is =
        ap (schedule_of slots) (sym (split_of front places))
        ∙ schedule_parts front slots (take front places) (drop front places) (within_front front slots places within)

    there_is : schedule_of slots earlier ≡ e ++ first
    there_is =
        ap (schedule_of slots) (sym (split_of front earlier) ∙ ap (λ l. take front earlier ++ l) met.order.behind)
        ∙ schedule_parts front slots (take front earlier) (drop front places) (within_front front slots earlier met.within)

    tail_from : AreFrom time first
    tail_from = from_lines time (drop front slots) (drop front places) met.parted.from

    -- the last values under the fronts are those under the whole schedules
    fronts_agree : (channel : ℕ) → input (schedule_of slots places) channel last ≡ input (schedule_of slots earlier) channel last
        → input c channel last ≡ input e channel last
    fronts_agree channel same =
        sym (front_input time last c first channel tail_from met.last_is)
        ∙ (ap (λ s. input s channel last) (sym here_is)
        ∙ (same ∙ (ap (λ s. input s channel last) there_is ∙ front_input time last e first channel tail_from met.last_is)))

    module _ (others : List ℕ) (v : AreWithin slots others) (same : take front others ≡ take front places) where
      abbrev d : List ScheduleLine
      d = schedule_of (drop front slots) (drop front others)

      -- the earlier front with the others' tail
      abbrev mixed : List ℕ
      mixed = take front earlier ++ drop front others

      mixed_within : AreWithin slots mixed
      mixed_within = within_both front slots (take front earlier) (drop front others) (within_front front slots earlier met.within) (within_tail front slots others v)

      pub mixed_before : IsBefore mixed places
      mixed_before =
          subst (IsBefore mixed) (split_of front places)
          (before_whole (take front earlier) (take front places) (drop front others) (drop front places) met.order.before)

      others_are : schedule_of slots others ≡ c ++ d
      others_are =
          ap (schedule_of slots) (sym (split_of front others) ∙ ap (λ l. l ++ drop front others) same)
          ∙ schedule_parts front slots (take front places) (drop front others) (within_front front slots places within)

      mixed_is : schedule_of slots mixed ≡ e ++ d
      mixed_is = schedule_parts front slots (take front earlier) (drop front others) (within_front front slots earlier met.within)

      agree : AgreeFrom (c ++ d) (e ++ d) time
      agree now le channel known =
          ⊎_elim
          (λ anew.
          after_both (pos 0) c d channel now
          ∙ (set_anew time channel (drop front slots) (drop front others) anew (within_tail front slots others v) (input c channel now) (input e channel now) now le
          ∙ sym (after_both (pos 0) e d channel now)))
          (λ same.
          same_from time last c e d channel now (before_lines time (take front slots) (take front places) met.parted.before)
          (before_lines time (take front slots) (take front earlier) met.parted.before) met.last_is le (fronts_agree channel same))
          (met.agree channel known)

      future : HaveOneFuture i (c ++ d) (e ++ d) n m (code i (c ++ first) n).kernel.lines (code i (e ++ first) m).kernel.lines
      future =
          have_one_future i behind time c e d first
          (before_lines time (take front slots) (take front places) met.parted.before)
          (before_lines time (take front slots) (take front earlier) met.parted.before)
          (from_lines time (drop front slots) (drop front others) met.parted.from)
          (from_lines time (drop front slots) (drop front places) met.parted.from)
          (subst (λ s. is_schedule s ≡ true) here_is (schedule_lawful slots places lawful within))
          (subst (λ s. is_schedule s ≡ true) there_is (schedule_lawful slots earlier lawful met.within))
          (subst (λ s. is_schedule s ≡ true) others_are (schedule_lawful slots others lawful v))
          n m
          (subst (λ s. IsEarly time (code i s n).kernel) here_is met.before)
          kernel_same
          rest_same
          (subst (λ s. NoneSooner time (code i s n)) here_is met.none)
          (subst (λ s. NoneSooner time (code i s m)) there_is met.none_earlier)
          (subst (λ s. ReadsNothing i (code i s n)) here_is met.blind)
          (subst (λ s. IsEarly time (code i s (n + 1)).kernel → ⊥) here_is met.crossed)
          agree
        where
          alike : AreLike (code i (c ++ first) n) (code i (e ++ first) m)
          alike = subst (λ r. AreLike (code i r n) (code i (e ++ first) m)) here_is (subst (λ s. AreLike (code i (schedule_of slots places) n) (code i s m)) there_is met.alike)

          kernel_same : (code i (c ++ first) n).kernel
              ≡ record (code i (e ++ first) m).kernel { pending = (code i (c ++ first) n).kernel.pending; lines = (code i (c ++ first) n).kernel.lines }
          kernel_same = alike.kernel

          rest_same : (code i (c ++ first) n).rest ≡ (code i (e ++ first) m).rest
          rest_same = alike.rest

      -- before the meeting nothing was found
      none_so_far : (line : Line) → HasLine (code i (c ++ first) n).kernel.lines line → IsWanted wanted (Written line) → line.time ≤ℤ until → ⊥
      none_so_far line has wants le = none line (subst (λ s. HasLine (code i s n).kernel.lines line) (sym here_is) has) wants le

      pub quiet_behind : IsQuietOn mixed → IsQuietOn others
      quiet_behind q =
          subst (λ s. AnswersRun i s until limit wanted answers.Nothing) (sym others_are)
          (quiet_too unmoved stays i (c ++ d) (e ++ d) (subst (λ s. is_schedule s ≡ true) others_are (schedule_lawful slots others lawful v))
          (subst (λ s. is_schedule s ≡ true) mixed_is (schedule_lawful slots mixed lawful mixed_within)) n m (code i (c ++ first) n).kernel.lines
          (code i (e ++ first) m).kernel.lines future until limit wanted none_so_far
          (subst (λ s. AnswersRun i s until limit wanted answers.Nothing) mixed_is q))

    -- where nothing is found under what is before this choice, nothing is found under any with its front
    pub all_quiet : (part : Part) → is_of_part part slots earlier ≡ true → front_of part slots ≤ front
        → ((others : List ℕ) → AreWithin slots others → IsBefore others places → is_of_part part slots others ≡ true → IsQuietOn others)
        → (others : List ℕ) → AreWithin slots others → take front others ≡ take front places → IsQuietOn others
    all_quiet part is_of no_less through others v same =
        quiet_behind others v same
        (through (mixed others v same) (mixed_within others v same) (mixed_before others v same)
        (mixed_part part slots front earlier (drop front others) met.within no_less ∙ is_of))

  -- the same where the run has come to its end before
  module _ (front : ℕ) (time : ℤ) (places : List ℕ) (n : ℕ) (ended : EndsBefore i slots front time places n) (within : AreWithin slots places)
      (quiet : IsQuietOn places) (others : List ℕ) (v : AreWithin slots others) (same : take front others ≡ take front places) where
    abbrev start_lines : List ScheduleLine
    start_lines = schedule_of (take front slots) (take front places)

    abbrev own : List ScheduleLine
    own = schedule_of (drop front slots) (drop front places)

    abbrev other : List ScheduleLine
    other = schedule_of (drop front slots) (drop front others)

    own_is : schedule_of slots places ≡ start_lines ++ own
    own_is =
        ap (schedule_of slots) (sym (split_of front places))
        ∙ schedule_parts front slots (take front places) (drop front places) (within_front front slots places within)

    other_is : schedule_of slots others ≡ start_lines ++ other
    other_is =
        ap (schedule_of slots) (sym (split_of front others) ∙ ap (λ l. l ++ drop front others) same)
        ∙ schedule_parts front slots (take front places) (drop front others) (within_front front slots places within)

    abbrev lines_then : List Line
    lines_then = (code i (start_lines ++ own) n).kernel.lines

    end_future : HaveOneFuture i (start_lines ++ other) (start_lines ++ own) n n lines_then lines_then
    end_future =
        have_one_end i time start_lines own other (before_lines time (take front slots) (take front places) ended.parted.before)
        (from_lines time (drop front slots) (drop front places) ended.parted.from) (from_lines time (drop front slots) (drop front others) ended.parted.from)
        (subst (λ s. is_schedule s ≡ true) own_is (schedule_lawful slots places lawful within)) n
        (subst (λ s. IsSure time (code i s n).kernel) own_is ended.before) ended.outcome
        (subst (λ s. (code i s n).kernel.outcome ≡ Some ended.outcome) own_is ended.over)

    none_then : (line : Line) → HasLine lines_then line → IsWanted wanted (Written line) → line.time ≤ℤ until → ⊥
    none_then line has wants le =
        quiet.0 (Written line) wants (record { steps = n; shows = (subst (λ s. HasLine (code i s n).kernel.lines line) (sym own_is) has, le) })

    pub ended_quiet : IsQuietOn others
    ended_quiet =
        subst (λ s. AnswersRun i s until limit wanted answers.Nothing) (sym other_is)
        (quiet_too unmoved stays i (start_lines ++ other) (start_lines ++ own)
        (subst (λ s. is_schedule s ≡ true) other_is (schedule_lawful slots others lawful v))
        (subst (λ s. is_schedule s ≡ true) own_is (schedule_lawful slots places lawful within)) n n lines_then lines_then end_future until limit wanted none_then
        (subst (λ s. AnswersRun i s until limit wanted answers.Nothing) own_is quiet))

-- so the search may go on behind the last of them
pub through_raised : (slots : List Slot) (IsQuiet : List ℕ → Type 0) (front : ℕ) (places raised : List ℕ) → AreWithin slots places
    → IsFurther slots front places raised → ((others : List ℕ) → AreWithin slots others → IsBefore others places → IsQuiet others)
    → ((others : List ℕ) → AreWithin slots others → take front others ≡ take front places → IsQuiet others)
    → (others : List ℕ) → AreWithin slots others → IsBefore others raised → IsQuiet others
through_raised slots IsQuiet front places raised w r before same others v b =
    ⊎_elim (λ e. same others v e) (λ earlier. before others v earlier)
    (before_front front others raised places r.front_is (long_as slots others v ∙ sym (long_as slots raised r.within))
    (long_as slots raised r.within ∙ sym (long_as slots places w)) b)
