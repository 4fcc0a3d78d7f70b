-- What may follow a token without becoming part of it.
use Rattle.std.proofs.Common.{◌≡◌, ℕ, Bool, true, false, ◌&&◌, ◌||◌, ◌⊎◌, List, [], ◌∷◌, ◌++◌, length, take, drop, get_or, None, refl, sym, ap, ◌∙◌, subst, inl, inr, arith}
use Rattle.std.specs.List.{list_all, prefix_len}
use Rattle.std.specs.Char.{is_ascii_alphabetic, is_ascii_digit}
use Rattle.std.proofs.Math.Seq.{take-append_seam, drop-append_seam}
use Rattle.std.proofs.lemmas.Bool.Decides.{nat_tests}
use Rattle.lexer.specs.declared.token.TokenKind.{TokenKind}
use Rattle.lexer.specs.declared.token.TokenKind.TheVariants as kinds
use Rattle.lexer.specs.declared.delimiter.Delimiter.{Delimiter}
use Rattle.lexer.specs.declared.delimiter.Delimiter.TheVariants as delimiters
use Rattle.lexer.specs.declared.element.Compound.TheVariants as compounds
use Rattle.lexer.specs.Characters.{is_hyphen, is_word_character, is_numeral_character, runs_on, is_string_character, is_label_character, begins}
use Rattle.lexer.specs.Delimiters.{delimiter_text}
use Rattle.lexer.specs.Elements.{is_word, is_numeral, IsLongest, IsToken}
use Rattle.lexer.specs.Reading.{compound_of, compound_at}
use Rattle.lexer.proofs.CharacterTests.{label_is_string}
use Rattle.lexer.proofs.Fronts.{and_left, and_right, front_ends, weaker}
use Rattle.lexer.proofs.Longest.{word_longest, numeral_longest, string_longest, simple_longest, compound_longest}
use Rattle.printing.specs.declared.symbol.Symbol.{Symbol}
use Rattle.printing.specs.declared.symbol.Symbol.TheVariants as symbols
use Rattle.printing.specs.Constructs.{symbol_of}
use Rattle.printing.specs.Spacing.{are_joined, begins_operand, is_dot, is_prefix, is_selector, is_sign, joins_next, joins_previous}

-- the character of a delimiter that has one; of another one a character that no delimiter begins with
abbrev pub single : Delimiter → ℕ
single delimiters.LeftParenthesis = 40
single delimiters.RightParenthesis = 41
single delimiters.Comma = 44
single delimiters.Semicolon = 59
single delimiters.Colon = 58
single delimiters.Dot = 46
single delimiters.Apostrophe = 39
single delimiters.Plus = 43
single delimiters.Minus = 45
single delimiters.Asterisk = 42
single delimiters.Slash = 47
single delimiters.Equals = 61
single delimiters.LessThan = 60
single delimiters.GreaterThan = 62
single delimiters.VerticalLine = 124
single d = 0

-- no longer element than such a token is at the front where this text follows it
abbrev pub Apart : Symbol → List ℕ → Type 0
Apart symbols.Identifier text = begins is_word_character text ≡ false
Apart (symbols.Word word) text = begins is_word_character text ≡ false
Apart symbols.Number text = (begins is_numeral_character text ≡ false) × (begins runs_on text ≡ false)
Apart symbols.Label text = text ≡ text
Apart (symbols.Delimiter d) text = (compound_at (single d) text ≡ None) × ((is_hyphen (single d) && begins is_hyphen text) ≡ false)

-- the token at the front of another text
pub record StandsBefore (kind : TokenKind) (element text : List ℕ) : Type 0 where
  pub longest : IsLongest element text
  pub token : IsToken kind element text

begins_front : (test : ℕ → Bool) (front behind : List ℕ) → begins test front ≡ true → begins test (front ++ behind) ≡ true
begins_front test [] behind e = cc
begins_front test (c ∷ front) behind e = e

split : (n : ℕ) (front behind : List ℕ) → n ≡ length front → IsLongest (take n (front ++ behind)) (drop n (front ++ behind)) → IsLongest front behind
split n front behind is longest =
    subst (λ s. IsLongest s behind) (take-append_seam front behind)
    (subst (λ s. IsLongest (take (length front) (front ++ behind)) s) (drop-append_seam front behind) (subst (λ m. IsLongest (take m (front ++ behind)) (drop m (front ++ behind))) is longest))

word_stands : (element text : List ℕ) → is_word element ≡ true → begins is_word_character text ≡ false → IsLongest element text
word_stands element text shape stop =
    let letter : begins is_ascii_alphabetic (element ++ text) ≡ true = begins_front is_ascii_alphabetic element text (and_left (begins is_ascii_alphabetic element) (list_all is_word_character element) shape) in
    let size : prefix_len is_word_character (element ++ text) ≡ length element = front_ends is_word_character element text (and_right (begins is_ascii_alphabetic element) (list_all is_word_character element) shape) stop in
    split (prefix_len is_word_character (element ++ text)) element text size (word_longest (element ++ text) letter)

numeral_stands : (element text : List ℕ) → is_numeral element ≡ true → begins is_numeral_character text ≡ false → IsLongest element text
numeral_stands element text shape stop =
    let digit : begins is_ascii_digit (element ++ text) ≡ true = begins_front is_ascii_digit element text (and_left (begins is_ascii_digit element) (list_all is_numeral_character element) shape) in
    let size : prefix_len is_numeral_character (element ++ text) ≡ length element = front_ends is_numeral_character element text (and_right (begins is_ascii_digit element) (list_all is_numeral_character element) shape) stop in
    split (prefix_len is_numeral_character (element ++ text)) element text size (numeral_longest (element ++ text) digit)

delimiter_stands : (d : Delimiter) (text : List ℕ) → Apart (symbols.Delimiter d) text → IsLongest (delimiter_text d) text
delimiter_stands delimiters.LeftParenthesis text a = simple_longest 40 delimiters.LeftParenthesis text refl refl a.0 a.1
delimiter_stands delimiters.RightParenthesis text a = simple_longest 41 delimiters.RightParenthesis text refl refl a.0 a.1
delimiter_stands delimiters.Comma text a = simple_longest 44 delimiters.Comma text refl refl a.0 a.1
delimiter_stands delimiters.Semicolon text a = simple_longest 59 delimiters.Semicolon text refl refl a.0 a.1
delimiter_stands delimiters.Colon text a = simple_longest 58 delimiters.Colon text refl refl a.0 a.1
delimiter_stands delimiters.Dot text a = simple_longest 46 delimiters.Dot text refl refl a.0 a.1
delimiter_stands delimiters.Apostrophe text a = simple_longest 39 delimiters.Apostrophe text refl refl a.0 a.1
delimiter_stands delimiters.Plus text a = simple_longest 43 delimiters.Plus text refl refl a.0 a.1
delimiter_stands delimiters.Minus text a = simple_longest 45 delimiters.Minus text refl refl a.0 a.1
delimiter_stands delimiters.Asterisk text a = simple_longest 42 delimiters.Asterisk text refl refl a.0 a.1
delimiter_stands delimiters.Slash text a = simple_longest 47 delimiters.Slash text refl refl a.0 a.1
delimiter_stands delimiters.Equals text a = simple_longest 61 delimiters.Equals text refl refl a.0 a.1
delimiter_stands delimiters.LessThan text a = simple_longest 60 delimiters.LessThan text refl refl a.0 a.1
delimiter_stands delimiters.GreaterThan text a = simple_longest 62 delimiters.GreaterThan text refl refl a.0 a.1
delimiter_stands delimiters.VerticalLine text a = simple_longest 124 delimiters.VerticalLine text refl refl a.0 a.1
delimiter_stands delimiters.Arrow text a = compound_longest 61 62 delimiters.Arrow (compounds.Delimiter delimiters.Arrow) text refl refl refl
delimiter_stands delimiters.DoubleDot text a = compound_longest 46 46 delimiters.DoubleDot (compounds.Delimiter delimiters.DoubleDot) text refl refl refl
delimiter_stands delimiters.Assignment text a = compound_longest 58 61 delimiters.Assignment (compounds.Delimiter delimiters.Assignment) text refl refl refl
delimiter_stands delimiters.Inequality text a = compound_longest 47 61 delimiters.Inequality (compounds.Delimiter delimiters.Inequality) text refl refl refl
delimiter_stands delimiters.LessOrEqual text a = compound_longest 60 61 delimiters.LessOrEqual (compounds.Delimiter delimiters.LessOrEqual) text refl refl refl
delimiter_stands delimiters.GreaterOrEqual text a = compound_longest 62 61 delimiters.GreaterOrEqual (compounds.Delimiter delimiters.GreaterOrEqual) text refl refl refl

-- a token of a text, before what doesn't go on with it
pub stands : (kind : TokenKind) (element old text : List ℕ) → IsToken kind element old → Apart (symbol_of kind) text → StandsBefore kind element text
stands (kinds.Identifier name) element old text (named, is, free) apart = record { longest = word_stands element text named.shape apart; token = (named, is, free) }
stands (kinds.Word word) element old text (named, is) apart = record { longest = word_stands element text named.shape apart; token = (named, is) }
stands (kinds.Number z) element old text (number, is) apart = record {
  longest = numeral_stands element text number.shape apart.0;
  token = (record { shape = number.shape; underlines = number.underlines; in_range = number.in_range; apart = apart.1 }, is);
}
stands (kinds.Label inner) element old text (label, is) apart = record {
  longest = subst (λ s. IsLongest s text) (sym is) (string_longest inner text (weaker is_label_character is_string_character label_is_string inner label.characters));
  token = (label, is);
}
stands (kinds.Delimiter d) element old text is apart = record { longest = subst (λ s. IsLongest s text) (sym is) (delimiter_stands d text apart); token = is }

-- the characters that are written after any token: a line feed, a space, and those of delimiters that no space precedes
pub data Separates : ℕ → Type 0 where
  LineFeed : Separates 10
  Space : Separates 32
  Parenthesis : Separates 41
  Comma : Separates 44
  Semicolon : Separates 59
  Apostrophe : Separates 39

separated_delimiter : {c : ℕ} (text : List ℕ) → Separates c → (d : Delimiter) → Apart (symbols.Delimiter d) (c ∷ text)
separated_delimiter text LineFeed delimiters.LeftParenthesis = (refl, refl)
separated_delimiter text LineFeed _ = (refl, refl)
separated_delimiter text Space delimiters.LeftParenthesis = (refl, refl)
separated_delimiter text Space _ = (refl, refl)
separated_delimiter text Parenthesis delimiters.LeftParenthesis = (refl, refl)
separated_delimiter text Parenthesis _ = (refl, refl)
separated_delimiter text Comma delimiters.LeftParenthesis = (refl, refl)
separated_delimiter text Comma _ = (refl, refl)
separated_delimiter text Semicolon delimiters.LeftParenthesis = (refl, refl)
separated_delimiter text Semicolon _ = (refl, refl)
separated_delimiter text Apostrophe delimiters.LeftParenthesis = (refl, refl)
separated_delimiter text Apostrophe _ = (refl, refl)

pub separated : (symbol : Symbol) {c : ℕ} (text : List ℕ) → Separates c → Apart symbol (c ∷ text)
separated symbols.Identifier text LineFeed = refl
separated symbols.Identifier text _ = refl
separated (symbols.Word word) text LineFeed = refl
separated (symbols.Word word) text _ = refl
separated symbols.Number text LineFeed = (refl, refl)
separated symbols.Number text _ = (refl, refl)
separated symbols.Label text LineFeed = refl
separated symbols.Label text _ = refl
separated (symbols.Delimiter d) text s = separated_delimiter text s d

-- the first character of a token
abbrev pub StartsWith : Symbol → ℕ → Type 0
StartsWith symbols.Identifier c = is_ascii_alphabetic c ≡ true
StartsWith (symbols.Word word) c = is_ascii_alphabetic c ≡ true
StartsWith symbols.Number c = is_ascii_digit c ≡ true
StartsWith symbols.Label c = c ≡ c
StartsWith (symbols.Delimiter d) c = get_or (delimiter_text d) 0 0 ≡ c

pub record TokenFront (kind : TokenKind) (element : List ℕ) : Type 0 where
  pub first : ℕ
  pub others : List ℕ
  pub is : element ≡ first ∷ others
  pub starts : StartsWith (symbol_of kind) first

word_first : (test : ℕ → Bool) (text : List ℕ) → begins test text ≡ true → (c : ℕ) × (others : List ℕ) × (text ≡ c ∷ others) × (test c ≡ true)
word_first test [] e = cc
word_first test (c ∷ text) e = (c, text, refl, e)

delimiter_first : (d : Delimiter) → (c : ℕ) × (others : List ℕ) × (delimiter_text d ≡ c ∷ others) × (get_or (delimiter_text d) 0 0 ≡ c)
delimiter_first delimiters.LeftParenthesis = (_, _, refl, refl)
delimiter_first _ = (_, _, refl, refl)

pub token_front : (kind : TokenKind) (element rest : List ℕ) → IsToken kind element rest → TokenFront kind element
token_front (kinds.Identifier name) element rest (named, is, free) =
    let f = word_first is_ascii_alphabetic element (and_left (begins is_ascii_alphabetic element) (list_all is_word_character element) named.shape) in
    record { first = f.0; others = f.1; is = f.2; starts = f.3 }
token_front (kinds.Word word) element rest (named, is) =
    let f = word_first is_ascii_alphabetic element (and_left (begins is_ascii_alphabetic element) (list_all is_word_character element) named.shape) in
    record { first = f.0; others = f.1; is = f.2; starts = f.3 }
token_front (kinds.Number z) element rest (number, is) =
    let f = word_first is_ascii_digit element (and_left (begins is_ascii_digit element) (list_all is_numeral_character element) number.shape) in
    record { first = f.0; others = f.1; is = f.2; starts = f.3 }
token_front (kinds.Label inner) element rest (label, is) = record { first = _; others = _; is = is; starts = refl }
token_front (kinds.Delimiter d) element rest is = let f = delimiter_first d in record { first = f.0; others = f.1; is = is ∙ f.2; starts = f.3 }

or_cases : (a b : Bool) → (a || b) ≡ true → (a ≡ true) ⊎ (b ≡ true)
or_cases true b e = inl refl
or_cases false b e = inr e

letter_no_dot : (c : ℕ) → is_ascii_alphabetic c ≡ true → compound_of 46 c ≡ None
letter_no_dot c letter = grind (arith, nat_tests)

letter_no_hyphen : (c : ℕ) → is_ascii_alphabetic c ≡ true → is_hyphen c ≡ false
letter_no_hyphen c letter = grind (arith, nat_tests)

digit_no_hyphen : (c : ℕ) → is_ascii_digit c ≡ true → is_hyphen c ≡ false
digit_no_hyphen c digit = grind (arith, nat_tests)

-- what no space precedes
joins_apart : (previous symbol : Symbol) (c : ℕ) (text : List ℕ) → StartsWith symbol c → joins_previous symbol ≡ true → Apart previous (c ∷ text)
joins_apart previous (symbols.Delimiter delimiters.RightParenthesis) c text starts joins = subst (λ d. Apart previous (d ∷ text)) starts (separated previous text Parenthesis)
joins_apart previous (symbols.Delimiter delimiters.Comma) c text starts joins = subst (λ d. Apart previous (d ∷ text)) starts (separated previous text Comma)
joins_apart previous (symbols.Delimiter delimiters.Semicolon) c text starts joins = subst (λ d. Apart previous (d ∷ text)) starts (separated previous text Semicolon)
joins_apart previous (symbols.Delimiter delimiters.Apostrophe) c text starts joins = subst (λ d. Apart previous (d ∷ text)) starts (separated previous text Apostrophe)
joins_apart previous symbol c text starts joins = cc

-- what no space follows
next_apart : (previous : Symbol) (c : ℕ) (text : List ℕ) → joins_next previous ≡ true → Apart previous (c ∷ text)
next_apart (symbols.Delimiter delimiters.LeftParenthesis) c text joins = (refl, refl)
next_apart (symbols.Delimiter delimiters.Apostrophe) c text joins = (refl, refl)
next_apart previous c text joins = cc

selector_apart : (symbol : Symbol) (c : ℕ) (text : List ℕ) → StartsWith symbol c → is_selector symbol ≡ true → Apart (symbols.Delimiter delimiters.Dot) (c ∷ text)
selector_apart symbols.Identifier c text starts selects = (letter_no_dot c starts, refl)
selector_apart (symbols.Word word) c text starts selects = (letter_no_dot c starts, refl)
selector_apart symbol c text starts selects = cc

dot_apart : (previous symbol : Symbol) (c : ℕ) (text : List ℕ) → StartsWith symbol c → is_dot previous ≡ true → is_selector symbol ≡ true → Apart previous (c ∷ text)
dot_apart (symbols.Delimiter delimiters.Dot) symbol c text starts dot selects = selector_apart symbol c text starts selects
dot_apart previous symbol c text starts dot selects = cc

before_dot : (previous : Symbol) (text : List ℕ) → is_prefix previous ≡ true → Apart previous (46 ∷ text)
before_dot symbols.Identifier text prefix = refl
before_dot (symbols.Delimiter delimiters.RightParenthesis) text prefix = (refl, refl)
before_dot previous text prefix = cc

prefix_apart : (previous symbol : Symbol) (c : ℕ) (text : List ℕ) → StartsWith symbol c → is_prefix previous ≡ true → is_dot symbol ≡ true → Apart previous (c ∷ text)
prefix_apart previous (symbols.Delimiter delimiters.Dot) c text starts prefix dot = subst (λ d. Apart previous (d ∷ text)) starts (before_dot previous text prefix)
prefix_apart previous symbol c text starts prefix dot = cc

operand_hyphen : (symbol : Symbol) (c : ℕ) → StartsWith symbol c → begins_operand symbol ≡ true → is_hyphen c ≡ false
operand_hyphen symbols.Identifier c starts operand = letter_no_hyphen c starts
operand_hyphen symbols.Number c starts operand = digit_no_hyphen c starts
operand_hyphen (symbols.Delimiter delimiters.LeftParenthesis) c starts operand = ap is_hyphen (sym starts)
operand_hyphen symbol c starts operand = cc

sign_apart : (previous symbol : Symbol) (c : ℕ) (text : List ℕ) → StartsWith symbol c → is_sign previous ≡ true → begins_operand symbol ≡ true → Apart previous (c ∷ text)
sign_apart (symbols.Delimiter delimiters.Plus) symbol c text starts sign operand = (refl, refl)
sign_apart (symbols.Delimiter delimiters.Minus) symbol c text starts sign operand = (refl, operand_hyphen symbol c starts operand)
sign_apart previous symbol c text starts sign operand = cc

-- two tokens with no space between them
pub joined : (unary : Bool) (previous symbol : Symbol) (c : ℕ) (text : List ℕ) → StartsWith symbol c → are_joined unary previous symbol ≡ true → Apart previous (c ∷ text)
joined unary previous symbol c text starts e = signed (or_cases (joins_previous symbol || joins_next previous || (is_dot previous && is_selector symbol) || (is_prefix previous && is_dot symbol)) (unary && is_sign previous && begins_operand symbol) e)
  where
    by_previous : (joins_previous symbol ≡ true) ⊎ (joins_next previous ≡ true) → Apart previous (c ∷ text)
    by_previous (inl f) = joins_apart previous symbol c text starts f
    by_previous (inr f) = next_apart previous c text f

    selected : ((joins_previous symbol || joins_next previous) ≡ true) ⊎ ((is_dot previous && is_selector symbol) ≡ true) → Apart previous (c ∷ text)
    selected (inl f) = by_previous (or_cases (joins_previous symbol) (joins_next previous) f)
    selected (inr f) = dot_apart previous symbol c text starts (and_left (is_dot previous) (is_selector symbol) f) (and_right (is_dot previous) (is_selector symbol) f)

    prefixed : ((joins_previous symbol || joins_next previous || (is_dot previous && is_selector symbol)) ≡ true) ⊎ ((is_prefix previous && is_dot symbol) ≡ true) → Apart previous (c ∷ text)
    prefixed (inl f) = selected (or_cases (joins_previous symbol || joins_next previous) (is_dot previous && is_selector symbol) f)
    prefixed (inr f) = prefix_apart previous symbol c text starts (and_left (is_prefix previous) (is_dot symbol) f) (and_right (is_prefix previous) (is_dot symbol) f)

    signed : ((joins_previous symbol || joins_next previous || (is_dot previous && is_selector symbol) || (is_prefix previous && is_dot symbol)) ≡ true) ⊎ ((unary && is_sign previous && begins_operand symbol) ≡ true) → Apart previous (c ∷ text)
    signed (inl f) = prefixed (or_cases (joins_previous symbol || joins_next previous || (is_dot previous && is_selector symbol)) (is_prefix previous && is_dot symbol) f)
    signed (inr f) =
        sign_apart previous symbol c text starts (and_right unary (is_sign previous) (and_left (unary && is_sign previous) (begins_operand symbol) f)) (and_right (unary && is_sign previous) (begins_operand symbol) f)
