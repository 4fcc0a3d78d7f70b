-- The characters of a text (RM 2.1, 2.2) by their bytes, beside those that crate lexer has.
use Rattle.std.specs.Prelude.{ℕ, ◌-◌, Bool, if◌then◌else◌, ◌&&◌, ◌||◌, ◌==◌, not, nat_le}
use Rattle.std.specs.Char.{is_ascii_digit, to_ascii_uppercase}

abbrev pub plus_sign : ℕ
plus_sign = 43

abbrev pub minus_sign : ℕ
minus_sign = 45

abbrev pub point : ℕ
point = 46

abbrev pub is_apostrophe : ℕ → Bool
is_apostrophe c = c == 39

-- the letter of an exponent, in either case
abbrev pub is_exponent_mark : ℕ → Bool
is_exponent_mark c = c == 69 || c == 101

-- a space, or a format effector: tab, line feed, line tabulation, form feed, carriage return
abbrev pub is_separator : ℕ → Bool
is_separator c = (nat_le 9 c && nat_le c 13) || c == 32

-- each format effector but the tab ends a line
abbrev pub stays_on_line : ℕ → Bool
stays_on_line c = not (nat_le 10 c && nat_le c 13)

-- a graphic character, or a byte from 128 on, which is one or a part of one
abbrev pub is_graphic : ℕ → Bool
is_graphic c = (nat_le 32 c && nat_le c 126) || nat_le 128 c

-- the value of an extended digit: 10 to 35 of a letter, in either case
abbrev pub digit_value : ℕ → ℕ
digit_value c = if is_ascii_digit c then c - 48 else to_ascii_uppercase c - 55
