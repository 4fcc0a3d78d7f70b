-- The identifiers and labels among the tokens of a text are names and labels, and its numbers have 64 bits.
use Rattle.std.proofs.Common.{◌≡◌, ◌<◌, ℕ, pos, Bool, true, false, not, ◌&&◌, ◌||◌, List, [], ◌∷◌, length, refl, sym, ap, ◌∙◌, subst, arith}
use Rattle.std.specs.Prelude.{◌^◌, bytes_eq, nat_eq, nat_le}
use Rattle.std.specs.Char.{is_ascii_alphabetic, to_ascii_uppercase}
use Rattle.std.specs.Cmp.Lexicographic.{bytes_decides}
use Rattle.std.specs.List.{list_all, list_any}
use Rattle.std.proofs.lemmas.Bool.{and_from, and_parts, le-leb, lt-ltb}
use Rattle.std.proofs.lemmas.Bool.Decides.{nat_tests}
use Rattle.std.proofs.lemmas.List.{length-map}
use Rattle.base.specs.Arithmetic.{is_in_base_range}
use Rattle.base.specs.Names.{is_digit, is_identifier, is_label, is_letter, is_name, is_reserved, is_rest}
use Rattle.base.specs.Names as names
use Rattle.base.specs.declared.limits.TheConstants.{LABEL_LIMIT, NAME_LIMIT}
use Rattle.lexer.specs.declared.token.Token.{Token}
use Rattle.lexer.specs.declared.token.TokenKind.{TokenKind}
use Rattle.lexer.specs.declared.token.TokenKind.TheVariants as kinds
use Rattle.lexer.specs.declared.word.Word.{Word}
use Rattle.lexer.specs.declared.word.Word.TheVariants as words
use Rattle.lexer.specs.Characters.{begins, is_underline, is_word_character}
use Rattle.lexer.specs.Elements.{IsLabel, IsName, IsToken, has_single_underlines, upper_case, value}
use Rattle.lexer.specs.Limits.{number_limit}
use Rattle.lexer.specs.Spelling.{Comment, Here, Lexeme, Row, White}
use Rattle.lexer.specs.Words.{spelling}

-- a token's name is a name, its label a label, and its number has 64 bits
abbrev pub IsKindSpelled : TokenKind → Type 0
IsKindSpelled (kinds.Identifier name) = is_name name ≡ true
IsKindSpelled (kinds.Label text) = is_label text ≡ true
IsKindSpelled (kinds.Number z) = is_in_base_range z ≡ true
IsKindSpelled k = Unit {0}

abbrev pub AreSpelled : List Token → Type 0
AreSpelled [] = Unit {0}
AreSpelled (t ∷ ts) = IsKindSpelled t.kind × AreSpelled ts

-- ---- characters in upper case

upper_first : (c : ℕ) → is_ascii_alphabetic c ≡ true → is_letter (to_ascii_uppercase c) ≡ true
upper_first c h = grind (arith, nat_tests)

upper_last : (c : ℕ) → is_word_character c ≡ true → (not (is_underline c) || false) ≡ true
    → (is_letter (to_ascii_uppercase c) || is_digit (to_ascii_uppercase c)) ≡ true
upper_last c h u = grind (arith, nat_tests)

upper_middle : (c d : ℕ) → is_word_character c ≡ true → (not (is_underline c) || not (is_underline d)) ≡ true
    → (is_letter (to_ascii_uppercase c) || is_digit (to_ascii_uppercase c) ||
    (nat_eq (to_ascii_uppercase c) 95 && not (nat_eq (to_ascii_uppercase d) 95))) ≡ true
upper_middle c d h u = grind (arith, nat_tests)

upper_rest : (cs : List ℕ) → list_all is_word_character cs ≡ true → has_single_underlines cs ≡ true → is_rest (upper_case cs) ≡ true
upper_rest [] h u = refl
upper_rest (c ∷ []) h u =
    upper_last c (and_parts (is_word_character c) _ h).0 (and_parts (not (is_underline c) || false) _ u).0
upper_rest (c ∷ d ∷ cs) h u =
    let own = and_parts (is_word_character c) (list_all is_word_character (d ∷ cs)) h in
    let single = and_parts (not (is_underline c) || not (is_underline d)) (has_single_underlines (d ∷ cs)) u in
    and_from _ (is_rest (upper_case (d ∷ cs))) (upper_middle c d own.0 single.0) (upper_rest (d ∷ cs) own.1 single.1)

upper_identifier : (text : List ℕ) → (begins is_ascii_alphabetic text && list_all is_word_character text) ≡ true → has_single_underlines text ≡ true
    → is_identifier (upper_case text) ≡ true
upper_identifier [] h u = cc
upper_identifier (c ∷ cs) h u =
    let shape = and_parts (is_ascii_alphabetic c) (list_all is_word_character (c ∷ cs)) h in
    let own = and_parts (is_word_character c) (list_all is_word_character cs) shape.1 in
    let single = and_parts (not (is_underline c) || begins (λ d. not (is_underline d)) cs) (has_single_underlines cs) u in
    and_from (is_letter (to_ascii_uppercase c)) (is_rest (upper_case cs)) (upper_first c shape.0) (upper_rest cs own.1 single.1)

-- ---- reserved words

all_words : List Word
all_words =
    words.Abort ∷ words.Abs ∷ words.Abstract ∷ words.Accept ∷ words.Access ∷ words.Aliased ∷ words.All ∷ words.And ∷ words.Array ∷ words.At ∷ words.Begin
    ∷ words.Body ∷ words.Case ∷ words.Constant ∷ words.Declare ∷ words.Delay ∷ words.Delta ∷ words.Digits ∷ words.Do ∷ words.Else ∷ words.Elsif ∷ words.End
    ∷ words.Entry ∷ words.Exception ∷ words.Exit ∷ words.For ∷ words.Function ∷ words.Generic ∷ words.Goto ∷ words.If ∷ words.In ∷ words.Interface ∷ words.Is
    ∷ words.Limited ∷ words.Loop ∷ words.Mod ∷ words.New ∷ words.Not ∷ words.Null ∷ words.Of ∷ words.Or ∷ words.Others ∷ words.Out ∷ words.Overriding
    ∷ words.Package ∷ words.Pragma ∷ words.Private ∷ words.Procedure ∷ words.Protected ∷ words.Raise ∷ words.Range ∷ words.Record ∷ words.Rem ∷ words.Renames
    ∷ words.Requeue ∷ words.Return ∷ words.Reverse ∷ words.Select ∷ words.Separate ∷ words.Some ∷ words.Subtype ∷ words.Synchronized ∷ words.Tagged
    ∷ words.Task ∷ words.Terminate ∷ words.Then ∷ words.Type ∷ words.Until ∷ words.Use ∷ words.When ∷ words.While ∷ words.With ∷ words.Xor ∷ []

reserved_by_words : (name : List ℕ) → is_reserved name ≡ list_any (λ w. bytes_eq (spelling w) name) all_words
unfolding all_words
reserved_by_words name = refl

not_spelled : (ws : List Word) (name : List ℕ) → ((w : Word) → spelling w ≡ name → ⊥) → list_any (λ w. bytes_eq (spelling w) name) ws ≡ false
not_spelled [] name none = refl
not_spelled (w ∷ ws) name none = by_test (bytes_eq (spelling w) name) refl (not_spelled ws name none)
  where
    by_test : (b : Bool) → bytes_eq (spelling w) name ≡ b → list_any (λ v. bytes_eq (spelling v) name) ws ≡ false
        → (b || list_any (λ v. bytes_eq (spelling v) name) ws) ≡ false
    by_test true e rest = absurd (none w ((bytes_decides (spelling w) name).0 e))
    by_test false e rest = rest

-- ---- names and labels

name_spelled : (element : List ℕ) → IsName element → ((w : Word) → spelling w ≡ upper_case element → ⊥) → is_name (upper_case element) ≡ true
name_spelled element is none =
    and_from (is_identifier (upper_case element)) _ (upper_identifier element is.shape is.underlines)
    (and_from (nat_le (length (upper_case element)) NAME_LIMIT) (not (is_reserved (upper_case element)))
    (le-leb (length (upper_case element)) NAME_LIMIT (let same = length-map element to_ascii_uppercase in let short = is.short in omega (arith, same, short)))
    (ap not (reserved_by_words (upper_case element) ∙ not_spelled all_words (upper_case element) none)))

label_spelled : (text : List ℕ) → IsLabel text → is_label text ≡ true
label_spelled text is =
    and_from (nat_le 1 (length text)) _ (le-leb 1 (length text) is.some)
    (and_from (nat_le (length text) LABEL_LIMIT) (list_all names.is_label_character text) (le-leb (length text) LABEL_LIMIT is.short) is.characters)

-- ---- literals

literal_fits : (n : ℕ) → n < number_limit → is_in_base_range (pos n) ≡ true
literal_fits n h = lt-ltb n (2 ^ 63) (omega (arith, h))

kind_spelled : (k : TokenKind) (element rest : List ℕ) → IsToken k element rest → IsKindSpelled k
kind_spelled (kinds.Identifier name) element rest is =
    subst (λ n. is_name n ≡ true) (sym is.1) (name_spelled element is.0 (λ w e. is.2 w (e ∙ sym is.1)))
kind_spelled (kinds.Label text) element rest is = label_spelled text is.0
kind_spelled (kinds.Number z) element rest is = ap is_in_base_range is.1 ∙ literal_fits (value element) is.0.in_range
kind_spelled k element rest is = tt

-- of a whole text
pub spelled_tokens : {place : ℕ} {left : List ℕ} {at : ℕ} {text : List ℕ} {tokens : List Token} → Row place left at text tokens → AreSpelled tokens
spelled_tokens Here = tt
spelled_tokens (White white row) = spelled_tokens row
spelled_tokens (Comment inner parts longest all row) = spelled_tokens row
spelled_tokens (Lexeme {rest = rest} element kind parts longest is row) = (kind_spelled kind element rest is, spelled_tokens row)
