-- What is said of a number or a label that is misspelled (RM 2.4.1, 2.6).
use Rattle.std.specs.Prelude.{ℕ, ◌&&◌, ◌||◌, Bool, true, false, List, [], ◌∷◌, if◌then◌else◌, nat_eq, nat_le, not}
use Rattle.remedies.specs.declared.spelling.TheConstants.{BASED_NUMBER, BLANK_IN_LABEL, EXPONENT, LETTER_IN_NUMBER, OPEN_LABEL, PLAIN_LABEL, PLAIN_NUMBER}

-- a digit or an underline
abbrev pub is_of_number : ℕ → Bool
is_of_number c = (nat_le 48 c && nat_le c 57) || nat_eq c 95

abbrev pub is_letter : ℕ → Bool
is_letter c = (nat_le 65 c && nat_le c 90) || (nat_le 97 c && nat_le c 122)

abbrev pub after_digits : List ℕ → List ℕ
after_digits [] = []
after_digits (c ∷ rest) = if is_of_number c then after_digits rest else c ∷ rest

-- by the byte after its digits: `#`, `x` and `X`; `e` and `E`; another letter
abbrev pub of_number_byte : ℕ → List ℕ
of_number_byte c =
    if nat_eq c 35 || nat_eq c 120 || nat_eq c 88 then BASED_NUMBER.now
    else (if nat_eq c 101 || nat_eq c 69 then EXPONENT.now
    else (if is_letter c then LETTER_IN_NUMBER.now
    else PLAIN_NUMBER.now))

abbrev pub of_rest : List ℕ → List ℕ
of_rest [] = PLAIN_NUMBER.now
of_rest (c ∷ rest) = of_number_byte c

-- of a text that begins with it
abbrev pub of_number : List ℕ → List ℕ
of_number text = of_rest (after_digits text)

-- a quotation mark stands on the first line
abbrev pub is_closed : List ℕ → Bool
is_closed [] = false
is_closed (c ∷ rest) = if nat_eq c 34 then true else (if nat_eq c 10 then false else is_closed rest)

-- a blank stands before the first quotation mark
abbrev pub has_blank : List ℕ → Bool
has_blank [] = false
has_blank (c ∷ rest) = if nat_eq c 32 then true else (if nat_eq c 34 then false else has_blank rest)

-- of what stands after the opening quotation mark
abbrev pub of_label : List ℕ → List ℕ
of_label text = if not (is_closed text) then OPEN_LABEL.now else (if has_blank text then BLANK_IN_LABEL.now else PLAIN_LABEL.now)
