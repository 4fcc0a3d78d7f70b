-- Character and string literals (RM 2.5, 2.6): where they end.
use Rattle.std.specs.Prelude.{ℕ, ◌+◌, Bool, true, false, ◌&&◌, if◌then◌else◌, List, [], ◌∷◌, Result, Ok, Err}
use Rattle.lexer.specs.Characters.{begins, is_quotation_mark}
use Rattle.ada2012_lexer.specs.Characters.{is_apostrophe, is_graphic}

-- Where a string literal ends of which the text is the rest from the place `at` on, `inside` after an odd number of its quotation marks. After an even number
-- it goes on only if another one follows: two in a row are one character of the string. Err gives the place of what can't be in it: the end of its line or of
-- the text, or a character that is not graphic.
abbrev pub string_end : (inside : Bool) → (at : ℕ) → List ℕ → Result ℕ ℕ
string_end true at [] = Err at
string_end false at [] = Ok at
string_end true at (c ∷ text) =
    if is_quotation_mark c then string_end false (at + 1) text
    else (if is_graphic c then string_end true (at + 1) text
    else Err at)
string_end false at (c ∷ text) = if is_quotation_mark c then string_end true (at + 1) text else Ok at

-- a graphic character, of one byte, and then an apostrophe are at the front of a text, so that they close a character literal
abbrev pub closes_character : List ℕ → Bool
closes_character [] = false
closes_character (c ∷ text) = is_graphic c && begins is_apostrophe text
