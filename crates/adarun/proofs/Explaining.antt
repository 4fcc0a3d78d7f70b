-- The numbers that texts, schedules and sets of schedules are refused with are those of faults that are explained.
use Rattle.std.proofs.Common.{◌≡◌, ◌≤◌, ◌+◌, ℕ, ℤ, pos, List, length, Bool, true, false, Option, Some, None, if◌then◌else◌, inl, inr, ap₂, sym, subst, refl}
use Rattle.std.specs.Prelude.{◌&&◌, ◌||◌, int_lt, not, nat_eq, nat_lt}
use Rattle.std.proofs.lemmas.Bool.{le-leb, or_left, or_right}
use Rattle.std.proofs.lemmas.Option.{none-some}
use Rattle.base.specs.declared.limits.TheConstants.{SCHEDULE_LINES}
use Rattle.choices.specs.Faults as sets
use Rattle.choices.specs.Faults.{RefusesChoicesText, slots_in}
use Rattle.choices.specs.Texts as lines_of_sets
use Rattle.choices.specs.Texts.{SlotLine, alternatives_of, count_of, has_twice, latest}
use Rattle.choices.specs.declared.faults.ChoicesFault.{ChoicesFault}
use Rattle.choices.specs.declared.faults.TheConstants as choices
use Rattle.choices.specs.declared.slot.TheConstants.{ALTERNATIVES}
use Rattle.clock.specs.Schedules.{RefusesSchedule, is_channel, last_time, line_fault}
use Rattle.clock.specs.Texts.{LineText, line_at}
use Rattle.clock.specs.declared.faults.TheConstants.{TIME_GOES_BACK, TOO_MANY_LINES, UNKNOWN_CHANNEL}
use Rattle.clock.specs.declared.schedule.ScheduleFault.{ScheduleFault}
use Rattle.diagnostics.specs.explanations.Explained.{is_fault_number, is_from}
use Rattle.adarun.specs.Accepted.{IsTextFault}

between : (first last n : ℕ) → first ≤ n → n ≤ last → is_from first last n ≡ true
between first last n low high = ap₂ (λ a b. a && b) (le-leb first n low) (le-leb n last high)

-- what follows the first test, the second one, and those up to that of memory
behind_one : (n : ℕ)
    → (is_from 10 23 n || (is_from 30 39 n || (is_from 40 47 n || (is_from 50 53 n || (nat_eq n 60 || (is_from 70 73 n || (nat_eq n 80 || is_from 82 86 n))))))) ≡ true
    → is_fault_number n ≡ true
behind_one n e = or_right (is_from 1 7 n) _ e

behind_two : (n : ℕ)
    → (is_from 30 39 n || (is_from 40 47 n || (is_from 50 53 n || (nat_eq n 60 || (is_from 70 73 n || (nat_eq n 80 || is_from 82 86 n)))))) ≡ true
    → is_fault_number n ≡ true
behind_two n e = behind_one n (or_right (is_from 10 23 n) _ e)

behind_memory : (n : ℕ) → is_from 70 73 n ≡ true → is_fault_number n ≡ true
behind_memory n e =
    behind_two n (or_right (is_from 30 39 n) _ (or_right (is_from 40 47 n) _ (or_right (is_from 50 53 n) _ (or_right (nat_eq n 60) _ (or_left (is_from 70 73 n) _ e)))))

pub text_number : (n : ℕ) → IsTextFault n → is_fault_number n ≡ true
text_number n (inl spelling) = or_left (is_from 1 7 n) _ (between 1 7 n spelling.0 spelling.1)
text_number n (inr (inl rule)) = behind_one n (or_left (is_from 10 23 n) _ (between 10 23 n rule.0 rule.1))
text_number n (inr (inr (inl restriction))) = behind_two n (or_left (is_from 30 39 n) _ (between 30 39 n restriction.0 restriction.1))
text_number n (inr (inr (inr (inl handler)))) = behind_memory n (between 70 73 n handler.0 handler.1)
text_number n (inr (inr (inr (inr memory)))) = subst (λ k. is_fault_number k ≡ true) (sym memory) refl

same_number : (known n : ℕ) → is_fault_number known ≡ true → Some known ≡ Some n → is_fault_number n ≡ true
same_number known n e is = subst (λ k. is_fault_number k ≡ true) (let same : known ≡ n = cc in same) e

of_read : (known later : Bool) (n : ℕ)
    → (if not known then Some UNKNOWN_CHANNEL else (if not later then Some TIME_GOES_BACK else None)) ≡ Some n → is_fault_number n ≡ true
of_read false later n e = same_number UNKNOWN_CHANNEL n refl e
of_read true false n e = same_number TIME_GOES_BACK n refl e
of_read true true n e = absurd (none-some n e)

of_line : (last : ℤ) (read : Option (LineText × List ℕ)) (n : ℕ) → line_fault last read ≡ Some n → is_fault_number n ≡ true
of_line last None n e = same_number _ n refl e
of_line last (Some read) n e = of_read (is_channel read.0.channel) _ n e

of_next : (full : Bool) (last : ℤ) (read : Option (LineText × List ℕ)) (n : ℕ)
    → (if full then Some TOO_MANY_LINES else line_fault last read) ≡ Some n → is_fault_number n ≡ true
of_next true last read n e = same_number TOO_MANY_LINES n refl e
of_next false last read n e = of_line last read n e

pub schedule_number : (text : List ℕ) (fault : ScheduleFault) → RefusesSchedule text fault → is_fault_number fault.number ≡ true
schedule_number text fault (inl memory) = subst (λ f. is_fault_number f.number ≡ true) (sym memory) refl
schedule_number text fault (inr first) =
    of_next (nat_eq (length first.lines) SCHEDULE_LINES) (last_time first.lines) (line_at first.rest) fault.number first.breaks

of_rule : (known many twice full late : Bool) (n : ℕ)
    → (if not known then Some choices.UNKNOWN_CHANNEL
    else (if many then Some choices.TOO_MANY_ALTERNATIVES
    else (if twice then Some choices.SAME_ALTERNATIVE
    else (if full then Some choices.TOO_MANY_SLOTS else (if late then Some choices.SLOT_TOO_LATE else None))))) ≡ Some n
    → is_fault_number n ≡ true
of_rule false many twice full late n e = same_number choices.UNKNOWN_CHANNEL n refl e
of_rule true true twice full late n e = same_number choices.TOO_MANY_ALTERNATIVES n refl e
of_rule true false true full late n e = same_number choices.SAME_ALTERNATIVE n refl e
of_rule true false false true late n e = same_number choices.TOO_MANY_SLOTS n refl e
of_rule true false false false true n e = same_number choices.SLOT_TOO_LATE n refl e
of_rule true false false false false n e = absurd (none-some n e)

of_slot_line : (until : ℤ) (slots : ℕ) (read : Option (SlotLine × List ℕ)) (n : ℕ) → sets.line_fault until slots read ≡ Some n → is_fault_number n ≡ true
of_slot_line until slots None n e = same_number choices.WRONG_CHOICES_LINE n refl e
of_slot_line until slots (Some read) n e =
    let l = read.0 in
    of_rule (is_channel l.channel) (nat_lt ALTERNATIVES (length (alternatives_of l.ranges))) (has_twice l.ranges)
    (nat_lt SCHEDULE_LINES (slots + count_of l.times)) (int_lt until (pos (latest l.times))) n e

pub choices_number : (until : ℤ) (text : List ℕ) (fault : ChoicesFault) → RefusesChoicesText until text fault → is_fault_number fault.number ≡ true
choices_number until text fault (inl memory) = subst (λ f. is_fault_number f.number ≡ true) (sym memory) refl
choices_number until text fault (inr first) = of_slot_line until (slots_in first.lines) (lines_of_sets.line_at first.rest) fault.number first.breaks
