-- Rows of white space, comments and tokens, and how a loop goes along one.
use Rattle.std.proofs.Common.{◌≡◌, ℕ, zero, suc, ◌+◌, ◌≤◌, ◌<◌, Bool, true, List, [], ◌∷◌, ◌++◌, length, drop, Option, Some, None, Ok, Err, refl, sym, ap, ◌∙◌, subst, arith, length-append, length-drop}
use Rattle.std.specs.List.{list_all}
use Rattle.std.specs.Char.{is_ascii_alphabetic, is_ascii_digit}
use Rattle.std.proofs.Math.Seq.{drop-append_seam}
use Rattle.lexer.specs.declared.token.Token.{Token}
use Rattle.lexer.specs.declared.token.TokenKind.{TokenKind}
use Rattle.lexer.specs.declared.delimiter.Delimiter.{Delimiter}
use Rattle.lexer.specs.declared.delimiter.Delimiter.TheVariants as delimiters
use Rattle.lexer.specs.declared.element.Element.{Element}
use Rattle.lexer.specs.Characters.{is_word_character, is_numeral_character, is_comment_character, stays_on_line, begins}
use Rattle.lexer.specs.Delimiters.{delimiter_text, Excluded, DoubleStar, LeftLabelBracket, RightLabelBracket, Box, excluded_text}
use Rattle.lexer.specs.Elements.{quoted, comment, IsElement, WordElement, NumeralElement, StringElement, CommentElement, DelimiterElement, ExcludedElement}
use Rattle.lexer.specs.Spelling.{Row, Here, White, Comment, Lexeme, Breaks, Stray, LeftOut, InComment, Identifier, Literal, Open, Label, AreInOrder}
use Rattle.lexer.specs.Reading.{Reading, element_at, token_list, tokens_of}
use Rattle.lexer.proofs.CharacterTests.{comment_on_line}
use Rattle.lexer.proofs.Fronts.{and_left, weaker}
use Rattle.lexer.proofs.Sound.{IsThere, IsRight, element_right}
use Rattle.lexer.proofs.Complete.{at_white, at_hyphens, comment_stops, comment_read, lexeme_read}
use Rattle.lexer.proofs.Broken.{breaks_read}

-- one row behind another
pub append : {end_ middle : ℕ} {last left : List ℕ} {at : ℕ} {text : List ℕ} {tokens others : List Token} → Row middle left at text tokens → Row end_ last middle left others → Row end_ last at text (tokens ++ others)
append Here second = second
append (White white row) second = White white (append row second)
append (Comment inner parts longest all row) second = Comment inner parts longest all (append row second)
append (Lexeme element kind parts longest is row) second = Lexeme element kind parts longest is (append row second)

-- a row takes the bytes between its ends
pub row_length : {place : ℕ} {left : List ℕ} {at : ℕ} {text : List ℕ} {tokens : List Token} → Row place left at text tokens → place + length left ≡ at + length text
row_length Here = refl
row_length (White white row) = omega (arith, row_length row)
row_length (Comment {rest = rest} inner parts longest all row) = omega (arith, row_length row, ap length parts, length-append (comment inner) rest)
row_length (Lexeme {rest = rest} element kind parts longest is row) = omega (arith, row_length row, ap length parts, length-append element rest)

begun : (test : ℕ → Bool) (text : List ℕ) → begins test text ≡ true → 0 < length text
begun test [] e = cc
begun test (c ∷ text) e = omega arith

-- what is broken is in the text
pub breaks_inside : {number offset : ℕ} {text : List ℕ} → Breaks number offset text → offset < length text
breaks_inside (Stray c rest white quotation none) = omega arith
breaks_inside (LeftOut DoubleStar rest) = omega arith
breaks_inside (LeftOut LeftLabelBracket rest) = omega arith
breaks_inside (LeftOut RightLabelBracket rest) = omega arith
breaks_inside (LeftOut Box rest) = omega arith
breaks_inside (InComment inner c rest all wrong online) = omega (arith, length-append (comment inner) (c ∷ rest))
breaks_inside (Identifier element rest longest shape wrong) = omega (arith, length-append element rest, begun is_ascii_alphabetic element (and_left (begins is_ascii_alphabetic element) (list_all is_word_character element) shape))
breaks_inside (Literal element rest longest shape wrong) = omega (arith, length-append element rest, begun is_ascii_digit element (and_left (begins is_ascii_digit element) (list_all is_numeral_character element) shape))
breaks_inside (Open inner rest all unclosed) = omega arith
breaks_inside (Label inner rest all wrong) = omega (arith, length-append (quoted inner) rest)

-- what is read at the front of a text that is not empty
pub right : (at : ℕ) (text : List ℕ) → 0 < length text → IsRight at text (element_at text)
right at [] some = absurd (omega (arith, some))
right at (c ∷ text) some = element_right at c text

pub there : (at : ℕ) (text : List ℕ) (e : Element) → 0 < length text → element_at text ≡ Ok e → IsThere at text e
there at text e some read = subst (IsRight at text) read (right at text some)

-- a row can't go on from what no element begins
abbrev pub Ends : List ℕ → Type 0
Ends last = (e : Element) → element_at last ≡ Ok e → ⊥

pub nothing_ends : Ends []
unfolding element_at
nothing_ends e read = cc

pub broken_ends : {number offset : ℕ} {last : List ℕ} → Breaks number offset last → Ends last
broken_ends breaks e read = let found = breaks_read breaks in cc

-- the first element of a row, which is what is read there, and the row behind it
pub record Next (end_ : ℕ) (last : List ℕ) (at : ℕ) (text : List ℕ) (tokens : List Token) (e : Element) : Type 0 where
  pub others : List Token
  pub first : tokens ≡ tokens_of at e ++ others
  pub row : Row end_ last (at + e.length) (drop e.length text) others

next_of : (end_ : ℕ) (last : List ℕ) (at n : ℕ) (text front rest : List ℕ) (tokens others : List Token) (kind : Option TokenKind) (e : Element) → text ≡ front ++ rest → n ≡ length front → element_at text ≡ Ok (record { kind = kind; length = n })
    → element_at text ≡ Ok e → tokens ≡ token_list kind at (at + n) ++ others → Row end_ last (at + length front) rest others → Next end_ last at text tokens e
next_of end_ last at n text front rest tokens others kind e parts size is read first row =
    let same : record { kind = kind; length = n } ≡ e = (let equal : Ok (record { kind = kind; length = n }) ≡ Ok e = sym is ∙ read in cc) in
    subst (Next end_ last at text tokens) same (record {
      others = others;
      first = first;
      row = subst (λ m. Row end_ last (at + m) (drop m text) others) (sym size) (subst (λ s. Row end_ last (at + length front) s others) (sym (ap (drop (length front)) parts ∙ drop-append_seam front rest)) row);
    })

pub next : (end_ : ℕ) (last : List ℕ) (at : ℕ) (text : List ℕ) (tokens : List Token) (e : Element) → Ends last → element_at text ≡ Ok e → Row end_ last at text tokens → Next end_ last at text tokens e
next end_ last at text tokens e ends read Here = absurd (ends e read)
next end_ last at text tokens e ends read (White {c = c} {rest = rest} white row) =
    next_of end_ last at 1 text (c ∷ []) rest tokens tokens None e refl refl (at_white c rest white) read refl row
next end_ last at text tokens e ends read (Comment {rest = rest} inner parts longest all row) =
    next_of end_ last at (length inner + 2) text (comment inner) rest tokens tokens None e parts (omega arith)
    (ap element_at parts ∙ (at_hyphens (inner ++ rest) ∙ comment_read inner rest all (comment_stops inner rest longest (weaker is_comment_character stays_on_line comment_on_line inner all)))) read refl row
next end_ last at text tokens e ends read (Lexeme {rest = rest} {tokens = others} element kind parts longest is row) =
    next_of end_ last at (length element) text element rest tokens others (Some kind) e parts refl (ap element_at parts ∙ lexeme_read kind element rest longest is) read refl row

-- where no element is read a row ends
pub record Stops (end_ : ℕ) (last : List ℕ) (at : ℕ) (text : List ℕ) (tokens : List Token) : Type 0 where
  pub place : at ≡ end_
  pub left : text ≡ last
  pub none : tokens ≡ []

pub stops : (end_ : ℕ) (last : List ℕ) (at : ℕ) (text : List ℕ) (tokens : List Token) → Ends text → Row end_ last at text tokens → Stops end_ last at text tokens
stops end_ last at text tokens ends Here = record { place = refl; left = refl; none = refl }
stops end_ last at text tokens ends (White {c = c} {rest = rest} white row) = absurd (ends (record { kind = None; length = 1 }) (at_white c rest white))
stops end_ last at text tokens ends (Comment {rest = rest} inner parts longest all row) =
    absurd (ends (record { kind = None; length = length inner + 2 }) (ap element_at parts ∙ (at_hyphens (inner ++ rest) ∙ comment_read inner rest all (comment_stops inner rest longest (weaker is_comment_character stays_on_line comment_on_line inner all)))))
stops end_ last at text tokens ends (Lexeme {rest = rest} element kind parts longest is row) =
    absurd (ends (record { kind = Some kind; length = length element }) (ap element_at parts ∙ lexeme_read kind element rest longest is))

-- two rows to the end of a text have the same tokens
pub one_row : (n end_ at : ℕ) (text : List ℕ) (tokens others : List Token) → length text ≤ n → Row end_ [] at text tokens → Row end_ [] at text others → tokens ≡ others
one_row n end_ at [] tokens others size first second = (stops end_ [] at [] tokens nothing_ends first).none ∙ sym (stops end_ [] at [] others nothing_ends second).none
one_row zero end_ at (c ∷ text) tokens others size first second = absurd (omega (arith, size))
one_row (suc n) end_ at (c ∷ text) tokens others size first second =
    go (λ at' text' tokens' others' size' first' second'. one_row n end_ at' text' tokens' others' size' first' second') (element_at (c ∷ text)) refl
  where
    go : ((at' : ℕ) (text' : List ℕ) (tokens' others' : List Token) → length text' ≤ n → Row end_ [] at' text' tokens' → Row end_ [] at' text' others' → tokens' ≡ others') → (r : Reading) → element_at (c ∷ text) ≡ r → tokens ≡ others
    go shorter_row (Err b) read =
        let ends : Ends (c ∷ text) = (λ e found. let differs : Ok e ≡ Err b = sym found ∙ read in cc) in
        (stops end_ [] at (c ∷ text) tokens ends first).none ∙ sym (stops end_ [] at (c ∷ text) others ends second).none
    go shorter_row (Ok e) read =
        let a = next end_ [] at (c ∷ text) tokens e nothing_ends read first in
        let b = next end_ [] at (c ∷ text) others e nothing_ends read second in
        let shorter : length (drop e.length (c ∷ text)) ≤ n = omega (arith, size, length-drop e.length (c ∷ text), (there at (c ∷ text) e (omega arith) read).some) in
        a.first ∙ (ap (λ l. tokens_of at e ++ l) (shorter_row (at + e.length) (drop e.length (c ∷ text)) a.others b.others shorter a.row b.row) ∙ sym b.first)

-- more room before
in_order_from : (from first to : ℕ) (tokens : List Token) → from ≤ first → AreInOrder first to tokens → AreInOrder from to tokens
in_order_from from first to [] earlier order = omega (arith, order)
in_order_from from first to (token ∷ tokens) earlier order = (omega (arith, order.0), order.1, order.2)

delimiter_some : (d : Delimiter) → 0 < length (delimiter_text d)
delimiter_some delimiters.LeftParenthesis = omega arith
delimiter_some _ = omega arith

excluded_some : (e : Excluded) → 0 < length (excluded_text e)
excluded_some DoubleStar = omega arith
excluded_some _ = omega arith

-- an element has a character
element_some : (element : List ℕ) → IsElement element → 0 < length element
element_some element (WordElement shape) = begun is_ascii_alphabetic element (and_left (begins is_ascii_alphabetic element) (list_all is_word_character element) shape)
element_some element (NumeralElement shape) = begun is_ascii_digit element (and_left (begins is_ascii_digit element) (list_all is_numeral_character element) shape)
element_some element (StringElement inner is all) = omega (arith, ap length is)
element_some element (CommentElement inner is all) = omega (arith, ap length is)
element_some element (DelimiterElement d is) = omega (arith, ap length is, delimiter_some d)
element_some element (ExcludedElement e is) = omega (arith, ap length is, excluded_some e)

-- the tokens of a row stand behind one another
pub row_in_order : {place : ℕ} {left : List ℕ} {at : ℕ} {text : List ℕ} {tokens : List Token} → Row place left at text tokens → AreInOrder at place tokens
row_in_order Here = omega arith
row_in_order {place = place} (White {at = at} {tokens = tokens} white row) = in_order_from at (at + 1) place tokens (omega arith) (row_in_order row)
row_in_order {place = place} (Comment {at = at} {tokens = tokens} inner parts longest all row) = in_order_from at (at + length (comment inner)) place tokens (omega arith) (row_in_order row)
row_in_order (Lexeme {at = at} {rest = rest} element kind parts longest is row) = (omega arith, omega (arith, element_some element longest.shape), row_in_order row)

-- a row goes on, or stays where it is
pub row_forward : {place : ℕ} {left : List ℕ} {at : ℕ} {text : List ℕ} {tokens : List Token} → Row place left at text tokens → at ≤ place
row_forward Here = omega arith
row_forward (White white row) = omega (arith, row_forward row)
row_forward (Comment inner parts longest all row) = omega (arith, row_forward row)
row_forward (Lexeme element kind parts longest is row) = omega (arith, row_forward row)
