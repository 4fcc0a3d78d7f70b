-- One line more behind the lines that a text begins with.
use Rattle.std.proofs.Common.{◌≡◌, ◌<◌, ◌≤◌, ℕ, ℤ, pos, List, [], ◌∷◌, ◌++◌, length, Some, Bool, true, false, ◌&&◌, IsTrue, int_le, nat_le, rules, refl, ap, length-append, ◌∙◌, arith}
use Rattle.base.specs.Schedule.{is_line, are_lines, are_ordered_from, is_schedule}
use Rattle.base.specs.declared.schedule.ScheduleLine.{ScheduleLine}
use Rattle.clock.specs.Texts.{line_at}
use Rattle.clock.specs.Schedules.{BeginsWithLines, text_of, time_after, last_time}

pub begins_more : (text : List ℕ) (lines : List ScheduleLine) (rest : List ℕ) (line : ScheduleLine) (behind : List ℕ) → BeginsWithLines text lines rest
    → line_at rest ≡ Some (text_of line, behind) → BeginsWithLines text (lines ++ line ∷ []) behind
begins_more text [] rest line behind h is = (behind, ap line_at h ∙ is, refl)
begins_more text (l ∷ lines) rest line behind h is = (h.0, h.1, begins_more h.0 lines rest line behind h.2 is)

pub last_of_more : (time : ℤ) (lines : List ScheduleLine) (line : ScheduleLine) → time_after time (lines ++ line ∷ []) ≡ line.time
last_of_more time [] line = refl
last_of_more time (l ∷ lines) line = last_of_more l.time lines line

are_lines_more : (lines : List ScheduleLine) (line : ScheduleLine) → are_lines lines ≡ true → is_line line ≡ true → are_lines (lines ++ line ∷ []) ≡ true
are_lines_more [] line h is = rw is refl
are_lines_more (l ∷ lines) line h is = search (rules, are_lines_more lines line)

ordered_more : (time : ℤ) (lines : List ScheduleLine) (line : ScheduleLine) → are_ordered_from time lines ≡ true → int_le (time_after time lines) line.time ≡ true
    → are_ordered_from time (lines ++ line ∷ []) ≡ true
ordered_more time [] line h is = rw is refl
ordered_more time (l ∷ lines) line h is = search (rules, ordered_more l.time lines line)

both : (a b : Bool) → (a && b) ≡ true → (a ≡ true) × (b ≡ true)
both true true h = (refl, refl)
both true false h = absurd cc
both false b h = absurd cc

all_three : (a b c : Bool) → a ≡ true → b ≡ true → c ≡ true → (a && b && c) ≡ true
all_three a b c h i j = rw h (rw i (rw j refl))

within : (n m : ℕ) → n ≤ m → nat_le n m ≡ true
within n m h = search rules

one_more : (lines : List ScheduleLine) (line : ScheduleLine) → length lines < 4096 → length (lines ++ line ∷ []) ≤ 4096
one_more lines line few = rw (length-append lines (line ∷ [])) (omega (arith))

pub schedule_more : (lines : List ScheduleLine) (line : ScheduleLine) → IsTrue (is_schedule lines) → length lines < 4096 → IsTrue (is_line line)
    → IsTrue (int_le (last_time lines) line.time) → IsTrue (is_schedule (lines ++ line ∷ []))
schedule_more lines line h few is after =
    let p = both (nat_le (length lines) 4096 && are_lines lines) (are_ordered_from (pos 0) lines) h in
    let q = both (nat_le (length lines) 4096) (are_lines lines) p.0 in
    all_three (nat_le (length (lines ++ line ∷ [])) 4096) (are_lines (lines ++ line ∷ [])) (are_ordered_from (pos 0) (lines ++ line ∷ []))
    (within (length (lines ++ line ∷ [])) 4096 (one_more lines line few)) (are_lines_more lines line q.1 is) (ordered_more (pos 0) lines line p.1 after)
