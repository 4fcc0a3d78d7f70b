-- What tests of characters say of one another.
use Rattle.std.proofs.Common.{◌≡◌, ℕ, Bool, true, false, ◌||◌, refl, arith}
use Rattle.std.specs.Prelude.{◌==◌}
use Rattle.std.specs.Char.{is_ascii_alphabetic, is_ascii_digit}
use Rattle.std.proofs.lemmas.Bool.Decides.{nat_tests}
use Rattle.lexer.specs.Characters.{is_quotation_mark, is_white, is_word_character, is_numeral_character, is_comment_character, stays_on_line, is_string_character, is_label_character}

or_left : (a b : Bool) → a ≡ true → (a || b) ≡ true
or_left true b e = refl
or_left false b e = cc

pub letter_in_word : (c : ℕ) → is_ascii_alphabetic c ≡ true → is_word_character c ≡ true
letter_in_word c e = or_left (is_ascii_alphabetic c || is_ascii_digit c) (c == 95) (or_left (is_ascii_alphabetic c) (is_ascii_digit c) e)

pub digit_in_numeral : (c : ℕ) → is_ascii_digit c ≡ true → is_numeral_character c ≡ true
digit_in_numeral c e = or_left (is_ascii_digit c) (c == 95) e

pub digit_no_letter : (c : ℕ) → is_ascii_digit c ≡ true → is_ascii_alphabetic c ≡ false
digit_no_letter c e = grind (arith, nat_tests)

pub letter_not_white : (c : ℕ) → is_ascii_alphabetic c ≡ true → is_white c ≡ false
letter_not_white c e = grind (arith, nat_tests)

pub digit_not_white : (c : ℕ) → is_ascii_digit c ≡ true → is_white c ≡ false
digit_not_white c e = grind (arith, nat_tests)

pub label_is_string : (c : ℕ) → is_label_character c ≡ true → is_string_character c ≡ true
label_is_string c e = grind (arith, nat_tests)

-- a comment may hold no line feed
pub comment_on_line : (c : ℕ) → is_comment_character c ≡ true → stays_on_line c ≡ true
comment_on_line c e = grind (arith, nat_tests)

pub line_is_no_mark : (c : ℕ) → stays_on_line c ≡ false → is_quotation_mark c ≡ false
line_is_no_mark c e = grind (arith, nat_tests)
