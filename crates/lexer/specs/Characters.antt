-- The characters of a text (RM 2.1), by their bytes.
use Rattle.std.specs.Prelude.{ℕ, Bool, false, List, [], ◌∷◌, ◌&&◌, ◌||◌, ◌==◌, not, nat_le}
use Rattle.std.specs.Char.{is_ascii_alphabetic, is_ascii_digit}
pub use Rattle.base.specs.Names.{is_label_character}

abbrev pub line_feed : ℕ
line_feed = 10

abbrev pub quotation_mark : ℕ
quotation_mark = 34

abbrev pub number_sign : ℕ
number_sign = 35

abbrev pub hyphen : ℕ
hyphen = 45

abbrev pub is_quotation_mark : ℕ → Bool
is_quotation_mark c = c == quotation_mark

abbrev pub is_hyphen : ℕ → Bool
is_hyphen c = c == hyphen

abbrev pub is_underline : ℕ → Bool
is_underline c = c == 95

-- the characters of identifiers and reserved words
abbrev pub is_word_character : ℕ → Bool
is_word_character c = is_ascii_alphabetic c || is_ascii_digit c || is_underline c

-- the characters of numerals
abbrev pub is_numeral_character : ℕ → Bool
is_numeral_character c = is_ascii_digit c || is_underline c

-- what may not follow a numeral at once, an underline aside, which belongs to it
abbrev pub runs_on : ℕ → Bool
runs_on c = is_ascii_alphabetic c || c == number_sign

-- a tab, a line feed, a carriage return or a space
abbrev pub is_white : ℕ → Bool
is_white c = c == 9 || c == line_feed || c == 13 || c == 32

abbrev pub stays_on_line : ℕ → Bool
stays_on_line c = not (c == line_feed)

-- what a comment may hold: also bytes from 128 on
abbrev pub is_comment_character : ℕ → Bool
is_comment_character c = c == 9 || c == 13 || (nat_le 32 c && nat_le c 126) || nat_le 128 c

-- what runs up to the quotation mark that closes a string literal
abbrev pub is_string_character : ℕ → Bool
is_string_character c = not (is_quotation_mark c) && stays_on_line c

-- the first character, if there is one, passes the test
abbrev pub begins : (ℕ → Bool) → List ℕ → Bool
begins test [] = false
begins test (c ∷ text) = test c
