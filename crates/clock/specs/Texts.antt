-- The text of a schedule (docs/FORMATS.md, "Schedule"): what a line of it says.
use Rattle.std.specs.Prelude.{ℕ, ℤ, pos, negsuc, zero, suc, ◌+◌, ◌*◌, ◌-◌, List, [], ◌∷◌, take, drop, Bool, true, false, ◌&&◌, not, nat_eq, nat_le, Option, Some, None, if◌then◌else◌}
use Rattle.std.specs.List.{prefix_len}
use Rattle.base.specs.Arithmetic.{is_in_base_range}

-- a line as it is written; its channel may be any number
pub record LineText : Type 0 where
  pub time : ℤ
  pub channel : ℕ
  pub value : ℤ

abbrev pub is_digit : ℕ → Bool
is_digit c = nat_le 48 c && nat_le c 57

-- digits are a number where no 0 stands before others
abbrev pub is_number : List ℕ → Bool
is_number [] = false
is_number (d ∷ []) = true
is_number (d ∷ e ∷ ds) = not (nat_eq d 48)

abbrev pub value_after : ℕ → List ℕ → ℕ
value_after n [] = n
value_after n (d ∷ ds) = value_after (n * 10 + (d - 48)) ds

-- the number that digits write
abbrev pub digits_value : List ℕ → ℕ
digits_value ds = value_after 0 ds

abbrev pub split_number : List ℕ → List ℕ → Option (ℕ × List ℕ)
split_number digits behind = if is_number digits then Some (digits_value digits, behind) else None

-- the number at the front of a text, and what stands behind it
unfoldable pub number_at : List ℕ → Option (ℕ × List ℕ)
number_at text = split_number (take (prefix_len is_digit text) text) (drop (prefix_len is_digit text) text)

abbrev pub as_positive : Option (ℕ × List ℕ) → Option (ℤ × List ℕ)
as_positive None = None
as_positive (Some n) = Some (pos n.0, n.1)

-- there is no -0
abbrev pub negated : ℕ → List ℕ → Option (ℤ × List ℕ)
negated zero behind = None
negated (suc n) behind = Some (negsuc n, behind)

abbrev pub as_negative : Option (ℕ × List ℕ) → Option (ℤ × List ℕ)
as_negative None = None
as_negative (Some n) = negated n.0 n.1

-- the value at the front: a number, or a minus before one that isn't 0
unfoldable pub value_at : List ℕ → Option (ℤ × List ℕ)
value_at [] = None
value_at (c ∷ text) = if nat_eq c 45 then as_negative (number_at text) else as_positive (number_at (c ∷ text))

-- what stands behind this byte, if it stands at the front
abbrev pub behind_byte : ℕ → List ℕ → Option (List ℕ)
behind_byte byte [] = None
behind_byte byte (c ∷ text) = if nat_eq c byte then Some text else None

abbrev pub with_rest : {X : Type 0} → X → Option (List ℕ) → Option (X × List ℕ)
with_rest x None = None
with_rest x (Some rest) = Some (x, rest)

-- what was read, where this byte follows it
abbrev pub followed_by : {X : Type 0} → ℕ → Option (X × List ℕ) → Option (X × List ℕ)
followed_by byte None = None
followed_by byte (Some read) = with_rest read.0 (behind_byte byte read.1)

abbrev pub and_then : {X Y : Type 0} → Option (X × List ℕ) → (X → List ℕ → Option (Y × List ℕ)) → Option (Y × List ℕ)
and_then None next = None
and_then (Some read) next = next read.0 read.1

-- times and values have 64 bits
abbrev pub ranged : LineText → List ℕ → Option (LineText × List ℕ)
ranged line behind = if is_in_base_range line.time && is_in_base_range line.value then Some (line, behind) else None

-- the line at the front of a text, and what stands behind it: time, space, channel, space, value, line feed
unfoldable pub line_at : List ℕ → Option (LineText × List ℕ)
line_at text =
    and_then (followed_by 32 (number_at text))
    (λ time t. and_then (followed_by 32 (number_at t))
    (λ channel u. and_then (followed_by 10 (value_at u))
    (λ value behind. ranged (record { time = pos time; channel = channel; value = value }) behind)))
