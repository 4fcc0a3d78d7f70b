-- What is at the front of a text: white space, a token or a comment.
use Rattle.std.proofs.Common.{◌≡◌, ℕ, ◌+◌, ◌<◌, Bool, true, false, cond, List, [], ◌∷◌, ◌++◌, length, Some, None, refl, sym, ap, ◌∙◌, subst, arith, eq-eqb}
use Rattle.std.specs.List.{list_all, prefix_len}
use Rattle.std.specs.Char.{is_ascii_alphabetic, is_ascii_digit}
use Rattle.lexer.specs.declared.token.Token.{Token}
use Rattle.lexer.specs.declared.delimiter.Delimiter.{Delimiter}
use Rattle.lexer.specs.declared.delimiter.Delimiter.TheVariants as delimiters
use Rattle.lexer.specs.Characters.{is_white, is_word_character, is_numeral_character, stays_on_line, is_comment_character, begins}
use Rattle.lexer.specs.Delimiters.{delimiter_text, Excluded, DoubleStar, excluded_text}
use Rattle.lexer.specs.Elements.{comment, IsElement, WordElement, NumeralElement, StringElement, CommentElement, DelimiterElement, ExcludedElement}
use Rattle.lexer.specs.Spelling.{Row, Here, White, Comment, Lexeme}
use Rattle.lexer.proofs.CharacterTests.{letter_not_white, digit_not_white, comment_on_line}
use Rattle.lexer.proofs.Fronts.{and_left, front_ends, weaker}
use Rattle.lexer.proofs.Complete.{comment_stops}
use Rattle.lexer.proofs.Rows.{row_in_order}
use Rattle.printing.specs.Pieces.{first_kind, pieces_after, token_at, trimmed}

-- a text with a first character, which is not white
pub record HasFront (text : List ℕ) : Type 0 where
  pub first : ℕ
  pub others : List ℕ
  pub is : text ≡ first ∷ others
  pub dark : is_white first ≡ false

word_front : (test : ℕ → Bool) (text : List ℕ) → ((c : ℕ) → test c ≡ true → is_white c ≡ false) → begins test text ≡ true → HasFront text
word_front test [] dark e = cc
word_front test (c ∷ text) dark e = record { first = c; others = text; is = refl; dark = dark c e }

delimiter_front : (d : Delimiter) → HasFront (delimiter_text d)
delimiter_front delimiters.LeftParenthesis = record { first = _; others = _; is = refl; dark = refl }
delimiter_front _ = record { first = _; others = _; is = refl; dark = refl }

excluded_front : (e : Excluded) → HasFront (excluded_text e)
excluded_front DoubleStar = record { first = _; others = _; is = refl; dark = refl }
excluded_front _ = record { first = _; others = _; is = refl; dark = refl }

-- an element has one
pub element_front : (element : List ℕ) → IsElement element → HasFront element
element_front element (WordElement shape) = word_front is_ascii_alphabetic element letter_not_white (and_left (begins is_ascii_alphabetic element) (list_all is_word_character element) shape)
element_front element (NumeralElement shape) = word_front is_ascii_digit element digit_not_white (and_left (begins is_ascii_digit element) (list_all is_numeral_character element) shape)
element_front element (StringElement inner is all) = record { first = _; others = _; is = is; dark = refl }
element_front element (CommentElement inner is all) = record { first = _; others = _; is = is; dark = refl }
element_front element (DelimiterElement d is) = subst HasFront (sym is) (delimiter_front d)
element_front element (ExcludedElement e is) = subst HasFront (sym is) (excluded_front e)

-- the first character of a text is that of the element that begins it
pub first_is : (c : ℕ) (text element rest : List ℕ) → c ∷ text ≡ element ++ rest → (f : HasFront element) → c ≡ f.first
first_is c text element rest parts f = let whole : c ∷ text ≡ f.first ∷ (f.others ++ rest) = parts ∙ ap (λ s. s ++ rest) f.is in cc

-- no element begins with white space
no_white : (c : ℕ) (text element rest : List ℕ) → c ∷ text ≡ element ++ rest → IsElement element → is_white c ≡ true → ⊥
no_white c text element rest parts shape white =
    let f = element_front element shape in
    let dark : is_white c ≡ false = ap is_white (first_is c text element rest parts f) ∙ f.dark in
    cc

-- no element is part of an empty text
no_element : (element rest : List ℕ) → [] ≡ element ++ rest → IsElement element → ⊥
no_element element rest parts shape =
    let f = element_front element shape in
    let whole : [] ≡ f.first ∷ (f.others ++ rest) = parts ∙ ap (λ s. s ++ rest) f.is in
    cc

-- the row after white space
pub record AfterWhite {place at c : ℕ} {rest : List ℕ} {tokens : List Token} (row : Row place [] at (c ∷ rest) tokens) : Type 0 where
  pub onward : Row place [] (at + 1) rest tokens
  pub same : (white : List ℕ) → pieces_after white row ≡ pieces_after (white ++ c ∷ []) onward

pub after_white : {place at c : ℕ} {rest : List ℕ} {tokens : List Token} (row : Row place [] at (c ∷ rest) tokens) → is_white c ≡ true → AfterWhite row
after_white (White is row) white = record { onward = row; same = λ before. refl }
after_white {c = c} {rest = text} (Comment {rest = rest} inner parts longest all row) white = absurd (no_white c text (comment inner) rest parts longest.shape white)
after_white {c = c} {rest = text} (Lexeme {rest = rest} element kind parts longest is row) white = absurd (no_white c text element rest parts longest.shape white)

-- the row after a token
pub record AfterToken {place at : ℕ} {text : List ℕ} {token : Token} {tokens : List Token} (row : Row place [] at text (token ∷ tokens)) : Type 0 where
  pub element : List ℕ
  pub rest : List ℕ
  pub parts : text ≡ element ++ rest
  pub ends : token.end_ ≡ at + length element
  pub some : 0 < length element
  pub onward : Row place [] (at + length element) rest tokens
  pub same : (white : List ℕ)
      → pieces_after white row ≡ record { content = record { kind = Some token.kind; element = element }; white = white; next = first_kind tokens } ∷ pieces_after [] onward

pub after_token : {place at c : ℕ} {text : List ℕ} {token : Token} {tokens : List Token} (row : Row place [] at (c ∷ text) (token ∷ tokens)) → is_white c ≡ false → token.start ≡ at → AfterToken row
after_token (White is row) dark starts = absurd (cc)
after_token {place = place} {at = at} {token = token} {tokens = tokens} (Comment inner parts longest all row) dark starts =
    absurd (let order = row_in_order row in omega (arith, order.0, starts))
after_token (Lexeme {rest = rest} element kind parts longest is row) dark starts =
    let f = element_front element longest.shape in
    record {
      element = element;
      rest = rest;
      parts = parts;
      ends = refl;
      some = omega (arith, ap length f.is);
      onward = row;
      same = λ white. refl;
    }

-- the row after a comment
pub record AfterComment {place at : ℕ} {text : List ℕ} {tokens : List Token} (row : Row place [] at text tokens) : Type 0 where
  pub inner : List ℕ
  pub rest : List ℕ
  pub parts : text ≡ comment inner ++ rest
  pub size : prefix_len stays_on_line text ≡ length (comment inner)
  pub onward : Row place [] (at + length (comment inner)) rest tokens
  pub same : (white : List ℕ)
      → pieces_after white row ≡ record { content = record { kind = None; element = comment (trimmed inner) }; white = white; next = first_kind tokens } ∷ pieces_after [] onward

pub after_comment : {place at c : ℕ} {text : List ℕ} {tokens : List Token} (row : Row place [] at (c ∷ text) tokens) → is_white c ≡ false → token_at at tokens ≡ None → AfterComment row
after_comment (White is row) dark none = absurd (cc)
after_comment (Comment {rest = rest} inner parts longest all row) dark none =
    let online : list_all stays_on_line inner ≡ true = weaker is_comment_character stays_on_line comment_on_line inner all in
    record {
      inner = inner;
      rest = rest;
      parts = parts;
      size = ap (prefix_len stays_on_line) parts ∙ front_ends stays_on_line (comment inner) rest online (comment_stops inner rest longest online);
      onward = row;
      same = λ white. refl;
    }
after_comment {at = at} (Lexeme {tokens = tokens} element kind parts longest is row) dark none =
    let token : Token = record { kind = kind; start = at; end_ = at + length element } in
    let here : token_at at (token ∷ tokens) ≡ Some token = ap (λ b. cond b (Some token) None) (eq-eqb at at refl) in
    absurd (cc)

-- at the end of a text there is no piece
pub none_left : {place at : ℕ} {tokens : List Token} (row : Row place [] at [] tokens) (white : List ℕ) → pieces_after white row ≡ []
none_left Here white = refl
none_left (Comment {rest = rest} inner parts longest all row) white = absurd (no_element (comment inner) rest parts longest.shape)
none_left (Lexeme {rest = rest} element kind parts longest is row) white = absurd (no_element element rest parts longest.shape)
