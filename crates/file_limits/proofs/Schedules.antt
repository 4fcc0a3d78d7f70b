-- How many bytes a schedule has.
use Rattle.std.proofs.Common.{◌≡◌, ◌<◌, ◌≤◌, ◌+◌, ◌*◌, ◌^◌, ◌∙◌, ℕ, ℤ, pos, List, [], ◌∷◌, length, Bool, true, false, ◌&&◌, Option, Some, None, nat_eq, nat_le, nat_lt, if◌then◌else◌, arith, rules, refl, sym, ap}
use Rattle.std.proofs.lemmas.Option.{none-some}
use Rattle.base.specs.Arithmetic.{is_in_base_range}
use Rattle.base.specs.Schedule.{are_lines, are_ordered_from, is_line}
use Rattle.base.specs.declared.schedule.ScheduleLine.{ScheduleLine}
use Rattle.clock.specs.Schedules.{BeginsWithLines, text_of}
use Rattle.clock.specs.Texts.{LineText, and_then, behind_byte, followed_by, line_at, number_at, ranged, value_at, with_rest}
use Rattle.file_limits.specs.Lengths.{SchedulesEnd}
use Rattle.file_limits.proofs.Numbers.{number_bytes, pair_of, value_bytes}

-- what is read, and what comes after it is read
pub and_then_of : {X Y : Type 0} (o : Option (X × List ℕ)) (next : X → List ℕ → Option (Y × List ℕ)) (r : Y × List ℕ) → and_then o next ≡ Some r
    → (x : X) × (t : List ℕ) × (o ≡ Some (x, t)) × (next x t ≡ Some r)
and_then_of None next r h = absurd (none-some r h)
and_then_of (Some (x, t)) next r h = (x, t, refl, h)

pub behind_byte_bytes : (byte : ℕ) (text rest : List ℕ) → behind_byte byte text ≡ Some rest → length text ≡ length rest + 1
behind_byte_bytes byte [] rest h = absurd (none-some rest h)
behind_byte_bytes byte (c ∷ text) rest h = by (nat_eq c byte) refl
  where
    by : (b : Bool) → nat_eq c byte ≡ b → length (c ∷ text) ≡ length rest + 1
    by true e =
        let found : Some text ≡ Some rest = ap (λ b. if b then Some text else None) (sym e) ∙ h in
        let same : text ≡ rest = cc in
        let long : length text ≡ length rest = ap length same in
        omega (arith, long)
    by false e = let found : None ≡ Some rest = ap (λ b. if b then Some text else None) (sym e) ∙ h in absurd (none-some rest found)

-- a byte is read after it
pub followed : {X : Type 0} (byte : ℕ) (o : Option (X × List ℕ)) (x : X) (t : List ℕ) → followed_by byte o ≡ Some (x, t)
    → (rest : List ℕ) × (o ≡ Some (x, rest)) × (length rest ≡ length t + 1)
followed {X} byte None x t h = absurd (none-some (x, t) h)
followed {X} byte (Some (y, rest)) x t h = by (behind_byte byte rest) refl h
  where
    by : (o : Option (List ℕ)) → behind_byte byte rest ≡ o → with_rest y o ≡ Some (x, t) → (r : List ℕ) × (◌≡◌ {A = Option (X × List ℕ)} (Some (y, rest)) (Some (x, r))) × (length r ≡ length t + 1)
    by None e found = absurd (none-some (x, t) found)
    by (Some left) e found =
        let parts = pair_of y x left t found in
        let same : ◌≡◌ {A = Option (X × List ℕ)} (Some (y, rest)) (Some (x, rest)) = ap (λ z. Some (z, rest)) parts.0 in
        (rest, same, behind_byte_bytes byte rest t (e ∙ ap Some parts.1))

pub both : (a b : Bool) → (a && b) ≡ true → (a ≡ true) × (b ≡ true)
both true true h = (refl, refl)
both true false h = absurd cc
both false b h = absurd cc

in_time : (n : ℕ) (z : ℤ) → pos n ≡ z → is_in_base_range z ≡ true → n < 10 ^ 19
in_time n z is h = let less : n < 2 ^ 63 = (let e : nat_lt n (2 ^ 63) ≡ true = ap is_in_base_range is ∙ h in search rules) in omega (arith, less)

in_channel : (n m : ℕ) → n ≡ m → nat_le m 8 ≡ true → n < 10 ^ 1
in_channel n m is h = let less : m ≤ 8 = search rules in omega (arith, less, is)

ranged_of : (read line : LineText) (t behind : List ℕ) → ranged read t ≡ Some (line, behind) → (read ≡ line) × (t ≡ behind)
ranged_of read line t behind h = by (is_in_base_range read.time && is_in_base_range read.value) refl
  where
    by : (b : Bool) → (is_in_base_range read.time && is_in_base_range read.value) ≡ b → (read ≡ line) × (t ≡ behind)
    by true e =
        let found : Some (read, t) ≡ Some (line, behind) = ap (λ b. if b then Some (read, t) else None) (sym e) ∙ h in
        pair_of read line t behind found
    by false e = let found : None ≡ Some (line, behind) = ap (λ b. if b then Some (read, t) else None) (sym e) ∙ h in absurd (none-some (line, behind) found)

line_bytes : (text : List ℕ) (line : ScheduleLine) (behind : List ℕ) → line_at text ≡ Some (text_of line, behind) → is_line line ≡ true
    → length text ≤ 43 + length behind
unfolding line_at
line_bytes text line behind is h =
    let a = and_then_of (followed_by 32 (number_at text)) _ _ is in
    let b = and_then_of (followed_by 32 (number_at a.1)) _ _ a.3 in
    let c = and_then_of (followed_by 10 (value_at b.1)) _ _ b.3 in
    let d = ranged_of (record { time = pos a.0; channel = b.0; value = c.0 }) (text_of line) c.1 behind c.3 in
    let time = followed 32 (number_at text) a.0 a.1 a.2 in
    let channel = followed 32 (number_at a.1) b.0 b.1 b.2 in
    let value = followed 10 (value_at b.1) c.0 c.1 c.2 in
    let p = both _ (is_in_base_range line.value) h in
    let q = both _ (nat_le line.channel 8) p.0 in
    let r = both _ (nat_le 1 line.channel) q.0 in
    let s = both _ (is_in_base_range line.time) r.0 in
    let one = number_bytes 19 text a.0 time.0 (omega arith) time.1 (in_time a.0 line.time (ap (λ l. l.time) d.0) s.1) in
    let two = number_bytes 1 a.1 b.0 channel.0 (omega arith) channel.1 (in_channel b.0 line.channel (ap (λ l. l.channel) d.0) q.1) in
    let three = value_bytes b.1 c.0 value.0 value.1 (ap (λ l. is_in_base_range l.value) d.0 ∙ p.1) in
    let last : length c.1 ≡ length behind = ap length d.1 in
    omega (arith, one, two, three, time.2, channel.2, value.2, last)

lines_bytes : (text : List ℕ) (lines : List ScheduleLine) → BeginsWithLines text lines [] → are_lines lines ≡ true → length text ≤ 43 * length lines
lines_bytes text [] begins h = let none : length text ≡ 0 = ap length begins in omega (arith, none)
lines_bytes text (line ∷ lines) begins h =
    let p = both (is_line line) (are_lines lines) h in
    let one = line_bytes text line begins.0 begins.1 p.0 in
    let others = lines_bytes begins.0 lines begins.2 p.1 in
    omega (arith, one, others)

pub schedules_end : SchedulesEnd
schedules_end text lines is =
    let p = both _ (are_ordered_from (pos 0) lines) is.1 in
    let q = both (nat_le (length lines) 4096) (are_lines lines) p.0 in
    let few : length lines ≤ 4096 = (let e = q.0 in search rules) in
    let all = lines_bytes text lines is.0 q.1 in
    omega (arith, few, all)
