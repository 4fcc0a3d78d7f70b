-- Numeric literals (RM 2.4): how far one goes, and its value.
use Rattle.std.specs.Prelude.{ℕ, ◌*◌, ◌+◌, ◌^◌, Bool, true, false, not, ◌&&◌, ◌||◌, ◌==◌, nat_le, nat_lt, if◌then◌else◌, List, [], ◌∷◌, take, drop, length, filter, Option, Some, None, Result, Ok, Err}
use Rattle.std.specs.List.{list_all, prefix_len}
use Rattle.std.specs.Char.{is_ascii_digit}
use Rattle.base.specs.declared.limits.TheConstants.{LARGEST_NUMBER}
use Rattle.lexer.specs.Characters.{begins, is_numeral_character, is_underline, is_word_character, number_sign}
use Rattle.lexer.specs.Elements.{has_single_underlines}
use Rattle.ada2012_lexer.specs.Characters.{digit_value, is_exponent_mark, minus_sign, plus_sign, point}
use Rattle.ada2012_lexer.specs.declared.fault.FaultKind.{FaultKind}
use Rattle.ada2012_lexer.specs.declared.fault.FaultKind.TheVariants as faults

-- what was read, where nothing was wrong with it
abbrev pub and_then : {X Y : Type 0} → Result X FaultKind → (X → Result Y FaultKind) → Result Y FaultKind
and_then (Err fault) next = Err fault
and_then (Ok x) next = next x

-- ---- digits

-- a digit of this base, or an underline
abbrev pub is_digit_of : (base c : ℕ) → Bool
is_digit_of base c = is_underline c || nat_lt (digit_value c) base

-- what is wrong with digits of a base: there has to be one at least, and each underline is between two of them
abbrev pub digits_fault : (base : ℕ) → List ℕ → Option FaultKind
digits_fault base [] = Some faults.MissingDigit
digits_fault base (c ∷ digits) =
    if is_underline c || not (has_single_underlines (c ∷ digits)) then Some faults.NumberUnderline
    else (if not (list_all (is_digit_of base) (c ∷ digits)) then Some faults.WrongDigit
    else None)

abbrev pub unless : {X : Type 0} → Option FaultKind → X → Result X FaultKind
unless (Some fault) x = Err fault
unless None x = Ok x

-- the first `count` characters, which are digits of this base, and what follows them
abbrev pub digits_at : (base count : ℕ) → List ℕ → Result (List ℕ × List ℕ) FaultKind
digits_at base count text = unless (digits_fault base (take count text)) (take count text, drop count text)

-- numeral ::= digit {[underline] digit}
unfoldable pub numeral_at : List ℕ → Result (List ℕ × List ℕ) FaultKind
numeral_at text = digits_at 10 (prefix_len is_numeral_character text) text

-- based_numeral ::= extended_digit {[underline] extended_digit}
unfoldable pub based_numeral_at : (base : ℕ) → List ℕ → Result (List ℕ × List ℕ) FaultKind
based_numeral_at base text = digits_at base (prefix_len is_word_character text) text

-- ---- values

-- each digit counts as many times as much as the one after it as the base says
abbrev pub value_of_digits : (base : ℕ) → List ℕ → ℕ
value_of_digits base [] = 0
value_of_digits base (c ∷ digits) = digit_value c * base ^ length digits + value_of_digits base digits

-- underlines mean nothing
abbrev pub value : (base : ℕ) → List ℕ → ℕ
value base text = value_of_digits base (filter (λ c. not (is_underline c)) text)

-- ---- literals

-- a literal by its parts, each with its underlines: the digits before the point, and those of the exponent, which are none where it has no exponent
pub record Literal : Type 0 where
  pub base : ℕ
  pub digits : List ℕ
  pub real : Bool
  pub exponent : List ℕ

-- the value of an integer literal, where it is small enough
abbrev pub within_limit : ℕ → Option ℕ
within_limit n = if nat_le n LARGEST_NUMBER then Some n else None

abbrev pub value_of : Literal → Option ℕ
value_of literal = within_limit (value literal.base literal.digits * literal.base ^ value 10 literal.exponent)

-- exponent ::= E [+] numeral | E - numeral, of which an integer literal may not have the second
abbrev pub signed_at : (real : Bool) → List ℕ → Result (List ℕ × List ℕ) FaultKind
signed_at real [] = numeral_at []
signed_at real (c ∷ text) =
    if c == plus_sign then numeral_at text
    else (if c == minus_sign then (if real then numeral_at text else Err faults.NegativeExponent)
    else numeral_at (c ∷ text))

unfoldable pub exponent_at : (real : Bool) → List ℕ → Result (List ℕ × List ℕ) FaultKind
exponent_at real [] = Ok ([], [])
exponent_at real (c ∷ text) = if is_exponent_mark c then signed_at real text else Ok ([], c ∷ text)

-- a point and digits, read as `digits` says, or none: whether there is a point, and what follows
abbrev pub with_point : Result (List ℕ × List ℕ) FaultKind → Result (Bool × List ℕ) FaultKind
with_point read = and_then read (λ parts. Ok (true, parts.1))

-- the point of a decimal literal has a digit after it
unfoldable pub fraction_at : List ℕ → Result (Bool × List ℕ) FaultKind
fraction_at [] = Ok (false, [])
fraction_at (c ∷ text) = if c == point && begins is_ascii_digit text then with_point (numeral_at text) else Ok (false, c ∷ text)

unfoldable pub based_fraction_at : (base : ℕ) → List ℕ → Result (Bool × List ℕ) FaultKind
based_fraction_at base [] = Ok (false, [])
based_fraction_at base (c ∷ text) = if c == point then with_point (based_numeral_at base text) else Ok (false, c ∷ text)

-- what follows a number sign, which is to be at the front
abbrev pub after_sign : List ℕ → Result (List ℕ) FaultKind
after_sign [] = Err faults.OpenBasedLiteral
after_sign (c ∷ text) = if c == number_sign then Ok text else Err faults.OpenBasedLiteral

-- a literal whose parts up to its exponent these are, with the exponent at the front of a text
abbrev pub with_exponent : (base : ℕ) → (digits : List ℕ) → (real : Bool) → List ℕ → Result (Literal × List ℕ) FaultKind
with_exponent base digits real text =
    and_then (exponent_at real text) (λ exponent. Ok (record { base = base; digits = digits; real = real; exponent = exponent.0 }, exponent.1))

-- decimal_literal ::= numeral [.numeral] [exponent], after its first numeral
unfoldable pub decimal_at : (digits : List ℕ) → List ℕ → Result (Literal × List ℕ) FaultKind
decimal_at digits text = and_then (fraction_at text) (λ fraction. with_exponent 10 digits fraction.0 fraction.1)

-- a base is one of 2 to 16
abbrev pub base_of : (numeral : List ℕ) → Option ℕ
base_of numeral = if nat_le 2 (value 10 numeral) && nat_le (value 10 numeral) 16 then Some (value 10 numeral) else None

-- based_literal ::= base # based_numeral [.based_numeral] # [exponent], after its first number sign
unfoldable pub based_at : (base : ℕ) → List ℕ → Result (Literal × List ℕ) FaultKind
based_at base text =
    and_then (based_numeral_at base text) (λ digits.
    and_then (based_fraction_at base digits.1) (λ fraction.
    and_then (after_sign fraction.1) (λ rest. with_exponent base digits.0 fraction.0 rest)))

abbrev pub if_base : Option ℕ → List ℕ → Result (Literal × List ℕ) FaultKind
if_base None text = Err faults.WrongBase
if_base (Some base) text = based_at base text

abbrev pub based_or_decimal : (numeral : List ℕ) → List ℕ → Result (Literal × List ℕ) FaultKind
based_or_decimal numeral [] = decimal_at numeral []
based_or_decimal numeral (c ∷ text) = if c == number_sign then if_base (base_of numeral) text else decimal_at numeral (c ∷ text)

-- the literal may not be joined to an identifier, a reserved word or another literal (RM 2.2)
abbrev pub apart : Literal × List ℕ → Result (Literal × List ℕ) FaultKind
apart read = if begins is_word_character read.1 then Err faults.JoinedNumber else Ok read

-- the numeric literal at the front of a text that begins with a digit, and what follows it
unfoldable pub literal_at : List ℕ → Result (Literal × List ℕ) FaultKind
literal_at text = and_then (numeral_at text) (λ numeral. and_then (based_or_decimal numeral.0 numeral.1) apart)
