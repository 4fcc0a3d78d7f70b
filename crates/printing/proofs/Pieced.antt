-- The pieces of a text, read element by element: a text has no others.
use Rattle.std.proofs.Common.{◌≡◌, ℕ, zero, suc, ◌+◌, ◌≤◌, true, false, List, [], ◌∷◌, ◌++◌, length, take, drop, Option, Some, None, Ok, Err, refl, sym, ap, ◌∙◌, subst, arith, length-append}
use Rattle.std.proofs.Math.Seq.{take-append_seam, drop-append_seam}
use Rattle.lexer.specs.declared.token.Token.{Token}
use Rattle.lexer.specs.declared.token.TokenKind.{TokenKind}
use Rattle.lexer.specs.Characters.{is_white, stays_on_line, is_comment_character}
use Rattle.lexer.specs.Elements.{comment}
use Rattle.lexer.specs.Reading.{Reading, element_at}
use Rattle.lexer.specs.Spelling.{Row, Here, White, Comment, Lexeme}
use Rattle.lexer.proofs.CharacterTests.{comment_on_line}
use Rattle.lexer.proofs.Fronts.{weaker}
use Rattle.lexer.proofs.Complete.{at_hyphens, comment_read, comment_stops, lexeme_read}
use Rattle.printing.specs.Pieces.{TextPiece, first_kind, pieces_after, trimmed}
use Rattle.printing.proofs.Reading.{HasFront, element_front}
use Rattle.printing.proofs.Trimmed.{trimmed_comment}

-- the first token among these pieces, and after them
abbrev pub next_of : List TextPiece → Option TokenKind
next_of [] = None
next_of (piece ∷ rest) = elim piece.content.kind [ None ↦ piece.next | Some kind ↦ Some kind ]

abbrev pub piece : (white element : List ℕ) → Option TokenKind → List TextPiece → List TextPiece
piece white element kind rest = record { content = record { kind = kind; element = element }; white = white; next = next_of rest } ∷ rest

-- what is written of a token, or of a comment
abbrev pub written : Option TokenKind → List ℕ → List ℕ
written None text = trimmed text
written (Some kind) text = text

-- the pieces of a text after white space, n characters and pieces at most
unfoldable pub read_pieces : ℕ → (white text : List ℕ) → List TextPiece
read_pieces zero white text = []
read_pieces (suc n) white [] = []
read_pieces (suc n) white (c ∷ text) = elim (is_white c) [
  | true ↦ read_pieces n (white ++ c ∷ []) text
  | false ↦ elim (element_at (c ∷ text)) [
    | Ok e ↦ piece white (written e.kind (take e.length (c ∷ text))) e.kind (read_pieces n [] (drop e.length (c ∷ text)))
    | Err b ↦ []
  ]
]

-- what is made of what is read at the front of a text
abbrev found : ℕ → (white text : List ℕ) → Reading → List TextPiece
found n white text reading = elim reading [ Ok e ↦ piece white (written e.kind (take e.length text)) e.kind (read_pieces n [] (drop e.length text)) | Err b ↦ [] ]

dark_read : (n c : ℕ) (white text : List ℕ) → is_white c ≡ false → read_pieces (suc n) white (c ∷ text) ≡ found n white (c ∷ text) (element_at (c ∷ text))
unfolding read_pieces
dark_read n c white text dark = ap (λ b. elim b [ true ↦ read_pieces n (white ++ c ∷ []) text | false ↦ found n white (c ∷ text) (element_at (c ∷ text)) ]) dark

white_read : (n c : ℕ) (white text : List ℕ) → is_white c ≡ true → read_pieces (suc n) white (c ∷ text) ≡ read_pieces n (white ++ c ∷ []) text
unfolding read_pieces
white_read n c white text is = ap (λ b. elim b [ true ↦ read_pieces n (white ++ c ∷ []) text | false ↦ found n white (c ∷ text) (element_at (c ∷ text)) ]) is

element_read : (n size : ℕ) (white text element rest : List ℕ) (kind : Option TokenKind) → text ≡ element ++ rest → HasFront element → size ≡ length element → element_at (element ++ rest) ≡ Ok (record { kind = kind; length = size })
    → read_pieces (suc n) white text ≡ piece white (written kind element) kind (read_pieces n [] rest)
element_read n size white text element rest kind parts f size_is is =
    let whole : element ++ rest ≡ f.first ∷ (f.others ++ rest) = ap (λ s. s ++ rest) f.is in
    let read : read_pieces (suc n) white (element ++ rest) ≡ found n white (element ++ rest) (element_at (element ++ rest)) =
    subst (λ s. read_pieces (suc n) white s ≡ found n white s (element_at s)) (sym whole) (dark_read n f.first white (f.others ++ rest) f.dark) in
    ap (read_pieces (suc n) white) parts ∙ (read ∙ (ap (found n white (element ++ rest)) is
    ∙ (ap (λ m. piece white (written kind (take m (element ++ rest))) kind (read_pieces n [] (drop m (element ++ rest)))) size_is
    ∙ (ap (λ s. piece white (written kind s) kind (read_pieces n [] (drop (length element) (element ++ rest)))) (take-append_seam element rest) ∙ ap (λ s. piece white (written kind element) kind (read_pieces n [] s)) (drop-append_seam element rest)))))

pub next_is : {place at : ℕ} {text : List ℕ} {tokens : List Token} (row : Row place [] at text tokens) (white : List ℕ) → next_of (pieces_after white row) ≡ first_kind tokens
next_is Here white = refl
next_is (White {c = c} is row) white = next_is row (white ++ c ∷ [])
next_is (Comment inner parts longest all row) white = refl
next_is (Lexeme element kind parts longest is row) white = refl

with_next : (white element : List ℕ) (kind : Option TokenKind) (next : Option TokenKind) (rest : List TextPiece) → next_of rest ≡ next → record { content = record { kind = kind; element = element }; white = white; next = next } ∷ rest ≡ piece white element kind rest
with_next white element kind next rest is = ap (λ t. record { content = record { kind = kind; element = element }; white = white; next = t } ∷ rest) (sym is)

-- what a row has is read
pub pieces_read : {place at : ℕ} {text : List ℕ} {tokens : List Token} (row : Row place [] at text tokens) (n : ℕ) (white : List ℕ) → length text ≤ n → pieces_after white row ≡ read_pieces n white text
unfolding read_pieces
pieces_read Here zero white short = refl
pieces_read Here (suc n) white short = refl
pieces_read (White is row) zero white short = absurd (omega (arith, short))
pieces_read (White {c = c} {rest = rest} is row) (suc n) white short = pieces_read row n (white ++ c ∷ []) (omega (arith, short)) ∙ sym (white_read n c white rest is)
pieces_read (Comment {rest = rest} inner parts longest all row) zero white short = absurd (omega (arith, short, ap length parts))
pieces_read {text = text} (Comment {rest = rest} {tokens = tokens} inner parts longest all row) (suc n) white short =
    let stop = comment_stops inner rest longest (weaker is_comment_character stays_on_line comment_on_line inner all) in
    let later = pieces_read row n [] (omega (arith, short, ap length parts, length-append (comment inner) rest)) in
    with_next white (comment (trimmed inner)) None (first_kind tokens) (pieces_after [] row) (next_is row [])
    ∙ (ap (piece white (comment (trimmed inner)) None) later
    ∙ (ap (λ s. piece white s None (read_pieces n [] rest)) (sym (trimmed_comment inner))
    ∙ sym (element_read n (length inner + 2) white text (comment inner) rest None parts (element_front (comment inner) longest.shape) (omega arith) (at_hyphens (inner ++ rest) ∙ comment_read inner rest all stop))))
pieces_read {text = text} (Lexeme {rest = rest} element kind parts longest is row) zero white short =
    let f = element_front element longest.shape in absurd (omega (arith, short, ap length parts, length-append element rest, ap length f.is))
pieces_read {text = text} (Lexeme {rest = rest} {tokens = tokens} element kind parts longest is row) (suc n) white short =
    let f = element_front element longest.shape in
    let later = pieces_read row n [] (omega (arith, short, ap length parts, length-append element rest, ap length f.is)) in
    with_next white element (Some kind) (first_kind tokens) (pieces_after [] row) (next_is row [])
    ∙ (ap (piece white element (Some kind)) later ∙ sym (element_read n (length element) white text element rest (Some kind) parts f refl (lexeme_read kind element rest longest is)))
