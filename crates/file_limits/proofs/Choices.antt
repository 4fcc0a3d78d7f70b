-- How many bytes a set of schedules has.
use Rattle.std.proofs.Common.{◌≡◌, ◌<◌, ◌≤◌, ◌+◌, ◌*◌, ◌^◌, ◌∙◌, ℕ, zero, suc, ℤ, pos, List, [], ◌∷◌, length, take, drop, Bool, true, false, ◌&&◌, not, Option, Some, None, nat_le, nat_lt, int_le, if◌then◌else◌, arith, rules, refl, sym, ap, subst}
use Rattle.std.specs.Prelude.{int_lt, is_some, option_map, unwrap_or}
use Rattle.std.specs.List.{onto_first, prefix_len, slice_split}
use Rattle.std.proofs.lemmas.List.{length-append, take-append-drop}
use Rattle.std.proofs.lemmas.List.Splits.{slice_split-cons_no, slice_split-cons_yes}
use Rattle.std.proofs.lemmas.Option.{none-some}
use Rattle.base.specs.Arithmetic.{is_in_base_range}
use Rattle.clock.specs.Capped.{ranged_value}
use Rattle.clock.specs.Schedules.{is_channel}
use Rattle.clock.specs.Texts.{behind_byte, followed_by, number_at, value_at}
use Rattle.choices.specs.Faults.{AreLawful, BeginsWithSlotLines, rule_broken}
use Rattle.choices.specs.declared.faults.TheConstants.{UNKNOWN_CHANNEL, TOO_MANY_SLOTS, TOO_MANY_ALTERNATIVES, SAME_ALTERNATIVE, SLOT_TOO_LATE}
use Rattle.choices.specs.Texts.{LineParts, SlotLine, alternatives_in, alternatives_of, behind_dots, behind_one_dot, count_of, distance, field_at, fields_at, has_twice, is_bar, is_dash, is_empty, is_in_line, latest, line_at, line_of, range_and, range_from, range_of, ranges_in, ranges_of, times_at, times_behind, times_of, up_to, value_behind, values_from, with_ranges, with_rest_if}
use Rattle.file_limits.specs.Lengths.{ChoicesEnd}
use Rattle.file_limits.proofs.Numbers.{number_bytes, pair_of, value_bytes}
use Rattle.file_limits.proofs.Schedules.{and_then_of, behind_byte_bytes, both, followed}

-- ---- a test that passed

if_some : {X : Type 0} (b : Bool) (o : Option X) (x : X) → (if b then o else None) ≡ Some x → (b ≡ true) × (o ≡ Some x)
if_some true o x h = (refl, h)
if_some false o x h = absurd (none-some x h)

some_if : {X : Type 0} (b : Bool) (x : X) → is_some (if b then Some x else None) ≡ true → b ≡ true
some_if true x h = refl
some_if false x h = absurd (let no : false ≡ true = h in cc)

-- what holds of both arms holds of a choice
by_test : {X : Type 0} (P : X → Type 0) (b : Bool) (x y : X) → (b ≡ true → P x) → (b ≡ false → P y) → P (if b then x else y)
by_test P true x y first second = first refl
by_test P false x y first second = second refl

-- what follows wherever either arm of a choice has a value
some_by : {T : Type 0} (Q : Type 0) (b : Bool) (x y : Option T) → (b ≡ true → is_some x ≡ true → Q) → (b ≡ false → is_some y ≡ true → Q)
    → is_some (if b then x else y) ≡ true → Q
some_by Q true x y first second = first refl
some_by Q false x y first second = second refl

below : (n m : ℕ) → nat_lt n m ≡ true → n < m
below n m h = search rules

at_most : (n m : ℕ) → nat_le n m ≡ true → n ≤ m
at_most n m h = search rules

-- ---- times

dots_bytes : (text rest : List ℕ) → behind_dots text ≡ Some rest → length text ≡ length rest + 2
dots_bytes text rest h = by (behind_byte 46 text) refl h
  where
    by : (o : Option (List ℕ)) → behind_byte 46 text ≡ o → behind_one_dot o ≡ Some rest → length text ≡ length rest + 2
    by None e found = absurd (none-some rest found)
    by (Some t) e found =
        let first = behind_byte_bytes 46 text t e in
        let second = behind_byte_bytes 46 t rest found in
        omega (arith, first, second)

with_rest_of : {X : Type 0} (o : Option X) (rest : List ℕ) (x : X) (t : List ℕ) → with_rest_if o rest ≡ Some (x, t) → (o ≡ Some x) × (rest ≡ t)
with_rest_of None rest x t h = absurd (none-some (x, t) h)
with_rest_of (Some y) rest x t h = let parts = pair_of y x rest t h in (ap Some parts.0, parts.1)

record AreShort (first last step : ℕ) : Type 0 where
  pub on : first ≤ last
  pub last_is : last < 2 ^ 63
  pub step_is : step < 2 ^ 63

are_short : (first last step : ℕ) → is_some (times_of first last step) ≡ true → AreShort first last step
are_short first last step h =
    let p = some_if (nat_lt last (2 ^ 63) && (nat_lt step (2 ^ 63) && (nat_le first last && nat_lt 0 step))) _ h in
    let q = both (nat_lt last (2 ^ 63)) _ p in
    let r = both (nat_lt step (2 ^ 63)) _ q.1 in
    let s = both (nat_le first last) _ r.1 in
    record { on = at_most first last s.0; last_is = below last (2 ^ 63) q.0; step_is = below step (2 ^ 63) r.0 }

under : (n : ℕ) → n < 2 ^ 63 → n < 10 ^ 19
under n h = omega (arith, h)

times_bytes : (text : List ℕ) (t : _) (rest : List ℕ) → times_at text ≡ Some (t, rest) → length text ≤ 60 + length rest
unfolding times_at
times_bytes text t rest h =
    let a = and_then_of (number_at text) _ _ h in
    by a.0 a.1 a.2 (behind_dots a.1) refl a.3
  where
    by : (first : ℕ) (left : List ℕ) → number_at text ≡ Some (first, left) → (o : Option (List ℕ)) → behind_dots left ≡ o → times_behind first left o ≡ Some (t, rest)
        → length text ≤ 60 + length rest
    by first left is None e found =
        let w = with_rest_of (times_of first first 1) left t rest found in
        let short = are_short first first 1 (ap is_some w.0) in
        let one = number_bytes 19 text first left (omega arith) is (under first short.last_is) in
        let same : length left ≡ length rest = ap length w.1 in
        omega (arith, one, same)
    by first left is (Some more) e found =
        let b = and_then_of (followed_by 47 (number_at more)) _ _ found in
        let c = and_then_of (number_at b.1) _ _ b.3 in
        let w = with_rest_of (times_of first b.0 c.0) c.1 t rest c.3 in
        let short = are_short first b.0 c.0 (ap is_some w.0) in
        let slash = followed 47 (number_at more) b.0 b.1 b.2 in
        let before : first < 2 ^ 63 = (let on = short.on in let last = short.last_is in omega (arith, on, last)) in
        let one = number_bytes 19 text first left (omega arith) is (under first before) in
        let two = number_bytes 19 more b.0 slash.0 (omega arith) slash.1 (under b.0 short.last_is) in
        let three = number_bytes 19 b.1 c.0 c.1 (omega arith) c.2 (under c.0 short.step_is) in
        let dots = dots_bytes left more e in
        let same : length c.1 ≡ length rest = ap length w.1 in
        omega (arith, one, two, three, dots, slash.2, same)

-- ---- alternatives

dash_bytes : (text : List ℕ) → is_dash text ≡ true → length text ≤ 42
dash_bytes [] h = omega arith
dash_bytes (c ∷ []) h = omega arith
dash_bytes (c ∷ d ∷ text) h = absurd (let no : false ≡ true = h in cc)

empty_bytes : (text : List ℕ) → is_empty text ≡ true → length text ≤ 0
empty_bytes [] h = omega arith
empty_bytes (c ∷ text) h = absurd (let no : false ≡ true = h in cc)

ranged_of : (o : Option (ℤ × List ℕ)) (z : ℤ) (rest : List ℕ) → ranged_value o ≡ Some (z, rest) → (o ≡ Some (z, rest)) × (is_in_base_range z ≡ true)
ranged_of None z rest h = absurd (none-some (z, rest) h)
ranged_of (Some (y, left)) z rest h =
    let p = if_some (is_in_base_range y) (Some (y, left)) (z, rest) h in
    let parts = pair_of y z left rest p.1 in
    (p.1, ap is_in_base_range (sym parts.0) ∙ p.0)

value_then : (text : List ℕ) (z : ℤ) (rest : List ℕ) → ranged_value (value_at text) ≡ Some (z, rest) → length text ≤ 20 + length rest
value_then text z rest h = let p = ranged_of (value_at text) z rest h in value_bytes text z rest p.0 p.1

last_bytes : (first : ℤ) (text : List ℕ) → is_some (up_to first (value_behind (behind_dots text))) ≡ true → length text ≤ 22
last_bytes first text h = by (behind_dots text) refl h
  where
    by : (o : Option (List ℕ)) → behind_dots text ≡ o → is_some (up_to first (value_behind o)) ≡ true → length text ≤ 22
    by None e found = absurd (let no : false ≡ true = found in cc)
    by (Some more) e found = last (ranged_value (value_at more)) refl found
      where
        last : (o : Option (ℤ × List ℕ)) → ranged_value (value_at more) ≡ o → is_some (up_to first o) ≡ true → length text ≤ 22
        last None is found = absurd (let no : false ≡ true = found in cc)
        last (Some (z, rest)) is found =
            let p = some_if (is_empty rest && int_le first z) _ found in
            let none = empty_bytes rest (both (is_empty rest) _ p).0 in
            let value = value_then more z rest is in
            let dots = dots_bytes text more e in
            omega (arith, none, value, dots)

from_bytes : (text : List ℕ) (o : Option (ℤ × List ℕ)) → ranged_value (value_at text) ≡ o → is_some (range_from o) ≡ true → length text ≤ 42
from_bytes text None e = λ found. absurd (let no : false ≡ true = found in cc)
from_bytes text (Some (z, rest)) e =
    some_by (length text ≤ 42) (is_empty rest) _ _
    (λ is h. let none = empty_bytes rest is in let value = value_then text z rest e in omega (arith, none, value))
    (λ is h. let last = last_bytes z rest h in let value = value_then text z rest e in omega (arith, last, value))

range_bytes : (text : List ℕ) → is_some (range_of text) ≡ true → length text ≤ 42
unfolding range_of
range_bytes text = some_by (length text ≤ 42) (is_dash text) _ _ (λ e h. dash_bytes text e) (λ e. from_bytes text (ranged_value (value_at text)) refl)

some_values : (z : ℤ) (n : ℕ) → 1 ≤ n → 1 ≤ length (values_from z n)
some_values z zero h = absurd (omega (arith, h))
some_values z (suc n) h = omega arith

-- how many alternatives a text between two bars is, or 1 where it is none
abbrev alternatives_at : List ℕ → ℕ
alternatives_at text = unwrap_or (option_map (λ r. length (alternatives_in r)) (range_of text)) 1

some_up_to : (first : ℤ) (o : Option (ℤ × List ℕ)) → 1 ≤ unwrap_or (option_map (λ r. length (alternatives_in r)) (up_to first o)) 1
some_up_to first None = omega arith
some_up_to first (Some (z, rest)) =
    by_test (λ o. 1 ≤ unwrap_or (option_map (λ r. length (alternatives_in r)) o) 1) (is_empty rest && int_le first z) _ _
    (λ e. some_values first (distance first z + 1) (omega arith)) (λ e. omega arith)

some_alternatives : (text : List ℕ) → 1 ≤ alternatives_at text
unfolding range_of
some_alternatives text =
    by_test (λ o. 1 ≤ unwrap_or (option_map (λ r. length (alternatives_in r)) o) 1) (is_dash text) _ _ (λ e. omega arith)
    (λ e. from (ranged_value (value_at text)))
  where
    from : (o : Option (ℤ × List ℕ)) → 1 ≤ unwrap_or (option_map (λ r. length (alternatives_in r)) (range_from o)) 1
    from None = omega arith
    from (Some (z, rest)) =
        by_test (λ o. 1 ≤ unwrap_or (option_map (λ r. length (alternatives_in r)) o) 1) (is_empty rest) _ _
        (λ e. some_values z (distance z z + 1) (omega arith)) (λ e. some_up_to z (value_behind (behind_dots rest)))

-- the bytes of parts, and one more for each
bytes_in : List (List ℕ) → ℕ
bytes_in [] = 0
bytes_in (p ∷ parts) = length p + 1 + bytes_in parts

first_bytes : (c : ℕ) (parts : List (List ℕ)) (n : ℕ) → bytes_in parts ≡ n + 1 → bytes_in (onto_first c parts) ≡ n + 2
unfolding bytes_in
first_bytes c [] n h = absurd (omega (arith, h))
first_bytes c (p ∷ parts) n h = omega (arith, h)

split_bytes : (text : List ℕ) → bytes_in (slice_split is_bar text) ≡ length text + 1
unfolding bytes_in
split_bytes [] = omega arith
split_bytes (c ∷ text) = by (is_bar c) refl (split_bytes text)
  where
    by : (b : Bool) → is_bar c ≡ b → bytes_in (slice_split is_bar text) ≡ length text + 1 → bytes_in (slice_split is_bar (c ∷ text)) ≡ length (c ∷ text) + 1
    by true e others = ap bytes_in (slice_split-cons_yes is_bar c text e) ∙ omega (arith, others)
    by false e others = ap bytes_in (slice_split-cons_no is_bar c text e) ∙ first_bytes c (slice_split is_bar text) (length text) others ∙ omega arith

abbrev alternatives_of_parts : List (List ℕ) → ℕ
alternatives_of_parts parts = unwrap_or (option_map (λ rs. length (alternatives_of rs)) (ranges_in parts)) 0

ranges_bytes : (parts : List (List ℕ)) → is_some (ranges_in parts) ≡ true → bytes_in parts ≤ 43 * alternatives_of_parts parts
unfolding bytes_in
ranges_bytes [] h = omega arith
ranges_bytes (p ∷ parts) h = by (ranges_bytes parts) (range_of p) refl (ranges_in parts) refl h
  where
    by : (is_some (ranges_in parts) ≡ true → bytes_in parts ≤ 43 * alternatives_of_parts parts)
        → (o : _) → range_of p ≡ o → (os : _) → ranges_in parts ≡ os → is_some (range_and o os) ≡ true
        → bytes_in (p ∷ parts) ≤ 43 * unwrap_or (option_map (λ rs. length (alternatives_of rs)) (range_and o os)) 0
    by later None e os es found = absurd (let no : false ≡ true = found in cc)
    by later (Some r) e None es found = absurd (let no : false ≡ true = found in cc)
    by later (Some r) e (Some rs) es found =
        let one = range_bytes p (ap is_some e) in
        let others : bytes_in parts ≤ 43 * length (alternatives_of rs) =
        subst (λ o. bytes_in parts ≤ 43 * unwrap_or (option_map (λ rs. length (alternatives_of rs)) o) 0) es (later (ap is_some es)) in
        let some : 1 ≤ length (alternatives_in r) = subst (λ o. 1 ≤ unwrap_or (option_map (λ r. length (alternatives_in r)) o) 1) e (some_alternatives p) in
        let joined = length-append (alternatives_in r) (alternatives_of rs) in
        omega (arith, one, others, some, joined)

-- ---- lines

record IsFew (until : ℤ) (slots : ℕ) (line : SlotLine) : Type 0 where
  pub channel : line.channel < 10 ^ 1
  pub alternatives : length (alternatives_of line.ranges) ≤ 4096
  pub slots_are : slots + count_of line.times ≤ 4096

channel_bytes : (n : ℕ) → is_channel n ≡ true → n < 10 ^ 1
channel_bytes n h = let p = both (nat_le 1 n) (nat_le n 8) h in let less = at_most n 8 p.1 in omega (arith, less)

is_few : (until : ℤ) (slots : ℕ) (line : SlotLine) → rule_broken until slots line ≡ None → IsFew until slots line
is_few until slots line h = by (is_channel line.channel) refl (nat_lt 4096 (length (alternatives_of line.ranges))) refl (has_twice line.ranges)
    (nat_lt 4096 (slots + count_of line.times)) refl h
  where
    not_less : (n m : ℕ) → nat_lt n m ≡ false → m ≤ n
    not_less n m e = search rules

    by : (k : Bool) → is_channel line.channel ≡ k → (a : Bool) → nat_lt 4096 (length (alternatives_of line.ranges)) ≡ a → (t c : Bool) → nat_lt 4096 (slots + count_of line.times) ≡ c
        → (if not k then Some UNKNOWN_CHANNEL
        else (if a then Some TOO_MANY_ALTERNATIVES
        else (if t then Some SAME_ALTERNATIVE
        else (if c then Some TOO_MANY_SLOTS
        else (if int_lt until (pos (latest line.times)) then Some SLOT_TOO_LATE else None))))) ≡ None → IsFew until slots line
    by true ek false ea false false ec found = record {
      channel = channel_bytes line.channel ek;
      alternatives = not_less 4096 (length (alternatives_of line.ranges)) ea;
      slots_are = not_less 4096 (slots + count_of line.times) ec;
    }
    by false ek a ea t c ec found = absurd (none-some _ (sym found))
    by true ek true ea t c ec found = absurd (none-some _ (sym found))
    by true ek false ea true c ec found = absurd (none-some _ (sym found))
    by true ek false ea false true ec found = absurd (none-some _ (sym found))

-- the alternatives of a line, and what comes after them
record HasAlternatives (line : SlotLine) (behind : List ℕ) (text : List ℕ) : Type 0 where
  pub fields : LineParts
  pub fields_are : fields_at text ≡ Some (fields, behind)
  pub channel_is : fields.channel ≡ line.channel
  pub ranges_are : ranges_of fields.alternatives ≡ Some line.ranges

has_alternatives : (text : List ℕ) (line : SlotLine) (behind : List ℕ) → line_at text ≡ Some (line, behind) → HasAlternatives line behind text
has_alternatives text line behind h = by (fields_at text) refl h
  where
    by : (o : Option (LineParts × List ℕ)) → fields_at text ≡ o → line_of o ≡ Some (line, behind) → HasAlternatives line behind text
    by None e found = absurd (none-some (line, behind) found)
    by (Some (fields, rest)) e found = ranges (ranges_of fields.alternatives) refl found
      where
        ranges : (o : _) → ranges_of fields.alternatives ≡ o → with_ranges fields rest o ≡ Some (line, behind) → HasAlternatives line behind text
        ranges None is found = absurd (none-some (line, behind) found)
        ranges (Some rs) is found =
            let parts = pair_of (record { times = fields.times; channel = fields.channel; ranges = rs }) line rest behind found in
            record {
              fields = fields;
              fields_are = e ∙ ap (λ r. Some (fields, r)) parts.1;
              channel_is = ap (λ l. l.channel) parts.0;
              ranges_are = is ∙ ap (λ l. Some l.ranges) parts.0;
            }

line_bytes : (until : ℤ) (slots : ℕ) (text : List ℕ) (line : SlotLine) (behind : List ℕ) → line_at text ≡ Some (line, behind) → IsFew until slots line
    → length text ≤ 176191 + length behind
unfolding fields_at
line_bytes until slots text line behind is few =
    let has = has_alternatives text line behind is in
    let a = and_then_of (followed_by 32 (times_at text)) _ _ has.fields_are in
    let b = and_then_of (followed_by 32 (number_at a.1)) _ _ a.3 in
    let c = and_then_of (field_at b.1) _ _ b.3 in
    let d = pair_of (record { times = a.0; channel = b.0; alternatives = c.0 }) has.fields c.1 behind c.3 in
    let times = followed 32 (times_at text) a.0 a.1 a.2 in
    let channel = followed 32 (number_at a.1) b.0 b.1 b.2 in
    let p = prefix_len is_in_line b.1 in
    let field = followed 10 (Some (take p b.1, drop p b.1)) c.0 c.1 c.2 in
    let inside = pair_of (take p b.1) c.0 (drop p b.1) field.0 field.1 in
    let split : length b.1 ≡ length (take p b.1) + length (drop p b.1) = ap length (sym (take-append-drop p b.1)) ∙ length-append (take p b.1) (drop p b.1) in
    let same : take p b.1 ≡ has.fields.alternatives = inside.0 ∙ ap (λ f. f.alternatives) d.0 in
    let long : length (take p b.1) ≡ length has.fields.alternatives = ap length same in
    let left : length (drop p b.1) ≡ length field.0 = ap length inside.1 in
    let ranges = ranges_bytes (slice_split is_bar has.fields.alternatives) (ap is_some has.ranges_are) in
    let parts = split_bytes has.fields.alternatives in
    let counted : alternatives_of_parts (slice_split is_bar has.fields.alternatives) ≡ length (alternatives_of line.ranges) =
    ap (λ o. unwrap_or (option_map (λ rs. length (alternatives_of rs)) o) 0) has.ranges_are in
    let most = few.alternatives in
    let one = times_bytes text a.0 times.0 times.1 in
    let below_ten : b.0 < 10 ^ 1 = subst (λ n. n < 10 ^ 1) (sym (ap (λ f. f.channel) d.0 ∙ has.channel_is)) few.channel in
    let two = number_bytes 1 a.1 b.0 channel.0 (omega arith) channel.1 below_ten in
    let last : length c.1 ≡ length behind = ap length d.1 in
    omega (arith, one, two, split, long, left, ranges, parts, counted, most, times.2, channel.2, field.2, last)

count_some : (line : SlotLine) → 1 ≤ count_of line.times
count_some line = omega arith

few_lines : (until : ℤ) (slots : ℕ) (lines : List SlotLine) → AreLawful until slots lines → slots ≤ 4096 → slots + length lines ≤ 4096
few_lines until slots [] h few = omega (arith, few)
few_lines until slots (line ∷ lines) h few =
    let one = (is_few until slots line h.0).slots_are in
    let others = few_lines until (slots + count_of line.times) lines h.1 one in
    let some = count_some line in
    omega (arith, others, some)

lines_bytes : (until : ℤ) (slots : ℕ) (text : List ℕ) (lines : List SlotLine) → BeginsWithSlotLines text lines [] → AreLawful until slots lines
    → length text ≤ 176191 * length lines
lines_bytes until slots text [] begins h = let none : length text ≡ 0 = ap length begins in omega (arith, none)
lines_bytes until slots text (line ∷ lines) begins h =
    let one = line_bytes until slots text line begins.0 begins.1 (is_few until slots line h.0) in
    let others = lines_bytes until (slots + count_of line.times) begins.0 lines begins.2 h.1 in
    omega (arith, one, others)

pub choices_end : ChoicesEnd
choices_end until text slots is =
    let few = few_lines until 0 is.lines is.lawful (omega arith) in
    let all = lines_bytes until 0 text is.lines is.begins is.lawful in
    omega (arith, few, all)
