-- A line that breaks no rule, from what was read of it.
use Rattle.std.proofs.Common.{◌≡◌, ℕ, ◌+◌, ◌≤◌, ℤ, pos, List, length, Option, Some, None, Bool, true, false, cond, refl, sym, ap, subst, ◌∙◌, rules}
use Rattle.std.specs.Prelude.{int_lt, nat_lt, not}
use Rattle.base.specs.declared.limits.TheConstants.{SCHEDULE_LINES}
use Rattle.clock.specs.Capped.{known_channel}
use Rattle.clock.specs.Schedules.{is_channel}
use Rattle.choices.specs.Faults.{rule_broken}
use Rattle.choices.specs.Shapes.{AreLawfulTimes, IsNextLine, PartsRead, field_read, fields_read}
use Rattle.choices.specs.Texts as texts
use Rattle.choices.specs.Texts.{SlotLine, alternatives_of, count_of, fields_at, has_twice, latest, line_at, line_of, ranges_of, with_ranges}
use Rattle.choices.specs.declared.faults.TheConstants.{SAME_ALTERNATIVE, SLOT_TOO_LATE, TOO_MANY_ALTERNATIVES, TOO_MANY_SLOTS, UNKNOWN_CHANNEL}
use Rattle.choices.specs.declared.form.Fields.{Fields}
use Rattle.choices.specs.declared.ranges.Range.{Range}
use Rattle.choices.specs.declared.set.Line.{Line}
use Rattle.choices.specs.declared.slot.TheConstants.{ALTERNATIVES}
use Rattle.choices.proofs.Within.{ranges_lawful}

-- the parts in the text, by the parts as they were read
record Behind (o : Option (texts.LineParts × List ℕ)) (fields : PartsRead) (behind : List ℕ) : Type 0 where
  parts : texts.LineParts
  is : o ≡ Some (parts, behind)
  times : parts.times ≡ fields.times
  channel : known_channel parts.channel ≡ fields.channel
  alternatives : parts.alternatives ≡ fields.alternatives

parts_of : (o : Option (texts.LineParts × List ℕ)) (fields : PartsRead) (behind : List ℕ) → Some (fields, behind) ≡ field_read o → Behind o fields behind
parts_of None fields behind e = absurd cc
parts_of (Some read) fields behind e =
    let there : PartsRead × List ℕ = (record { times = read.0.times; channel = known_channel read.0.channel; alternatives = read.0.alternatives }, read.1) in
    let here : PartsRead × List ℕ = (fields, behind) in
    let same : here ≡ there = search (rules, e) in
    record {
      parts = read.0;
      is = ap (λ b. Some (read.0, b)) (sym (ap (λ p. p.1) same));
      times = sym (ap (λ p. p.0.times) same);
      channel = sym (ap (λ p. p.0.channel) same);
      alternatives = sym (ap (λ p. p.0.alternatives) same);
    }

record Known (n channel : ℕ) : Type 0 where
  lawful : is_channel n ≡ true
  same : n ≡ channel

known : (n channel : ℕ) → known_channel n ≡ Some channel → Known n channel
known n channel e = by (is_channel n) refl e
  where
    by : (b : Bool) → is_channel n ≡ b → cond b (Some n) None ≡ Some channel → Known n channel
    by true t f = record { lawful = t; same = search (rules, f) }
    by false t f = absurd cc

abbrev chosen : (p q r s t : Bool) → Option ℕ
chosen p q r s t =
    cond (not p) (Some UNKNOWN_CHANNEL) (cond q (Some TOO_MANY_ALTERNATIVES) (cond r (Some SAME_ALTERNATIVE) (cond s (Some TOO_MANY_SLOTS) (cond t (Some SLOT_TOO_LATE) None))))

none_broken : (until : ℤ) (slots : ℕ) (l : SlotLine) → is_channel l.channel ≡ true → nat_lt ALTERNATIVES (length (alternatives_of l.ranges)) ≡ false
    → has_twice l.ranges ≡ false → nat_lt SCHEDULE_LINES (slots + count_of l.times) ≡ false → int_lt until (pos (latest l.times)) ≡ false
    → rule_broken until slots l ≡ None
none_broken until slots l a b c d e =
    all (is_channel l.channel) (nat_lt ALTERNATIVES (length (alternatives_of l.ranges))) (has_twice l.ranges) (nat_lt SCHEDULE_LINES (slots + count_of l.times))
    (int_lt until (pos (latest l.times))) a b c d e
  where
    all : (p q r s t : Bool) → p ≡ true → q ≡ false → r ≡ false → s ≡ false → t ≡ false
        → chosen p q r s t ≡ None
    all p q r s t a b c d e = rw a (rw b (rw c (rw d (rw e refl))))

not_less : (m n : ℕ) → n ≤ m → nat_lt m n ≡ false
not_less m n h = search (rules, h)

pub next_line : (until : ℤ) (slots : ℕ) (rest : List ℕ) (fields : Fields) (behind : List ℕ) (channel : ℕ) (ranges : List Range) (line : Line)
    → Some (fields_read fields, behind) ≡ field_read (fields_at rest)
    → AreLawfulTimes fields.times
    → Some ranges ≡ ranges_of fields.alternatives.now
    → fields.channel ≡ Some channel
    → line.alternatives.items ≡ alternatives_of ranges
    → length line.alternatives.items ≤ ALTERNATIVES
    → has_twice ranges ≡ false
    → slots + count_of fields.times ≤ SCHEDULE_LINES
    → int_lt until (pos (latest fields.times)) ≡ false
    → line.times ≡ fields.times
    → line.channel ≡ channel
    → IsNextLine until slots rest line behind
next_line until slots rest fields behind channel ranges line read lawful are known_is items few once room early times channel_is =
    let b = parts_of (fields_at rest) (fields_read fields) behind read in
    let k = known b.parts.channel channel (b.channel ∙ known_is) in
    let text : SlotLine = record { times = b.parts.times; channel = b.parts.channel; ranges = ranges } in
    let fits : length (alternatives_of ranges) ≤ ALTERNATIVES = subst (λ l. length l ≤ ALTERNATIVES) items few in
    record {
      text = text;
      begins = ap line_of b.is ∙ ap (λ o. with_ranges b.parts behind o) (ap ranges_of b.alternatives ∙ sym are);
      lawful =
          none_broken until slots text k.lawful (not_less ALTERNATIVES (length (alternatives_of ranges)) fits) once
          (not_less SCHEDULE_LINES (slots + count_of b.parts.times) (subst (λ t. slots + count_of t ≤ SCHEDULE_LINES) (sym b.times) room))
          (subst (λ t. int_lt until (pos (latest t)) ≡ false) (sym b.times) early);
      times = times ∙ sym b.times;
      channel = channel_is ∙ sym k.same;
      alternatives = items;
      lawful_times = subst AreLawfulTimes (sym b.times) lawful;
      values = (ranges_lawful fields.alternatives.now ranges are).0;
      some = (ranges_lawful fields.alternatives.now ranges are).1;
    }
