-- The layout of a text, read again.
use Rattle.std.proofs.Common.{◌≡◌, ℕ, zero, suc, ◌+◌, Bool, true, false, List, [], ◌∷◌, ◌++◌, length, map, replicate, Option, Some, None, refl, sym, ap, ◌∙◌, subst, arith, append_assoc}
use Rattle.std.specs.Prelude.{min, max}
use Rattle.std.specs.List.{list_all}
use Rattle.std.proofs.lemmas.List.{append-nil}
use Rattle.lexer.specs.declared.token.Token.{Token}
use Rattle.lexer.specs.declared.token.TokenKind.{TokenKind}
use Rattle.lexer.specs.Characters.{line_feed, is_white, stays_on_line, is_comment_character, begins}
use Rattle.lexer.specs.Elements.{comment, IsLongest, IsToken}
use Rattle.lexer.specs.Spelling.{Row, Here, White, Comment, Lexeme, Spells}
use Rattle.lexer.proofs.CharacterTests.{comment_on_line}
use Rattle.lexer.proofs.Fronts.{weaker}
use Rattle.lexer.proofs.Complete.{comment_stops}
use Rattle.lexer.proofs.Longest.{comment_longest}
use Rattle.lexer.proofs.Rows.{row_length}
use Rattle.printing.specs.Pieces.{Content, TextPiece, contents, first_kind, line_feeds, pieces, pieces_after, trimmed}
use Rattle.printing.specs.Constructs.{symbol_of}
use Rattle.printing.specs.Spacing.{spaces_between}
use Rattle.printing.specs.Layout.{Progress, after_comment, after_token, comment_columns, ending, formatted, gap, laid_out, nothing_read, symbol_in, token_columns}
use Rattle.printing.specs.Laws.{HasContents, IsStable, KeepsContents}
use Rattle.printing.proofs.Apart.{stands}
use Rattle.printing.proofs.Gaps.{ends_line, follows}
use Rattle.printing.proofs.Pieced.{next_is, next_of, pieces_read}
use Rattle.printing.proofs.Trimmed.{trimmed_again, trimmed_all}
use Rattle.printing.proofs.Settled.{laid_again, settled, settled_contents, settled_next}

-- a row over a text, whose pieces are these after white space
pub record Remade (place at : ℕ) (text : List ℕ) (ps : List ℕ → List TextPiece) : Type 0 where
  pub tokens : List Token
  pub row : Row place [] at text tokens
  pub laid : (white : List ℕ) → pieces_after white row ≡ ps white

abbrev pub RemadeFrom : ℕ → List ℕ → (List ℕ → List TextPiece) → Type 0
RemadeFrom at text ps = (place : ℕ) × Remade place at text ps

white_before : (c : ℕ) → is_white c ≡ true → (n : ℕ) (text : List ℕ) (ps : List ℕ → List TextPiece) → ((at : ℕ) → RemadeFrom at text ps) → (at : ℕ) → RemadeFrom at (replicate n c ++ text) (λ white. ps (white ++ replicate n c))
white_before c is zero text ps rest at =
    let r = rest at in
    (r.0, record { tokens = r.1.tokens; row = r.1.row; laid = λ white. r.1.laid white ∙ ap ps (sym (append-nil white)) })
white_before c is (suc n) text ps rest at =
    let r = white_before c is n text ps rest (at + 1) in
    (r.0, record { tokens = r.1.tokens; row = White is r.1.row; laid = λ white. r.1.laid (white ++ c ∷ []) ∙ ap ps (append_assoc white (c ∷ []) (replicate n c)) })

-- the same, of other pieces that are equal
with_pieces : (at : ℕ) (text : List ℕ) (ps qs : List ℕ → List TextPiece) → ((white : List ℕ) → ps white ≡ qs white) → RemadeFrom at text ps → RemadeFrom at text qs
with_pieces at text ps qs same r = (r.0, record { tokens = r.1.tokens; row = r.1.row; laid = λ white. r.1.laid white ∙ same white })

gap_remade : (begun : Bool) (lines spaces columns : ℕ) (text : List ℕ) (ps : List ℕ → List TextPiece) → ((at : ℕ) → RemadeFrom at text ps) → (at : ℕ)
    → RemadeFrom at (gap begun lines spaces columns ++ text) (λ white. ps (white ++ gap begun lines spaces columns))
gap_remade false lines spaces columns text ps rest at = with_pieces at text ps (λ white. ps (white ++ [])) (λ white. ap ps (sym (append-nil white))) (rest at)
gap_remade true zero spaces columns text ps rest at = white_before 32 refl spaces text ps rest at
gap_remade true (suc n) spaces columns text ps rest at =
    let feeds = replicate (min (suc n) 2) line_feed in
    let blanks = replicate columns 32 in
    subst (λ s. RemadeFrom at s (λ white. ps (white ++ (feeds ++ blanks)))) (sym (append_assoc feeds blanks text))
    (with_pieces at (feeds ++ (blanks ++ text)) (λ white. ps ((white ++ feeds) ++ blanks)) (λ white. ps (white ++ (feeds ++ blanks))) (λ white. ap ps (append_assoc white feeds blanks))
    (white_before line_feed refl (min (suc n) 2) (blanks ++ text) (λ white. ps (white ++ blanks)) (white_before 32 refl columns text ps rest) at))

-- the first token of a row, by its pieces
first_is : (place at : ℕ) (text : List ℕ) (ps : List ℕ → List TextPiece) (r : Remade place at text ps) (next : Option TokenKind) → next_of (ps []) ≡ next → first_kind r.tokens ≡ next
first_is place at text ps r next is = sym (next_is r.row []) ∙ (ap next_of (r.laid []) ∙ is)

comment_remade : (inner text : List ℕ) (ps : List ℕ → List TextPiece) (next : Option TokenKind) → trimmed inner ≡ inner → IsLongest (comment inner) text → list_all is_comment_character inner ≡ true → next_of (ps []) ≡ next
    → ((at : ℕ) → RemadeFrom at text ps) → (at : ℕ) → RemadeFrom at (comment inner ++ text) (λ white. record { content = record { kind = None; element = comment inner }; white = white; next = next } ∷ ps [])
comment_remade inner text ps next short longest all is rest at =
    let r = rest (at + length (comment inner)) in
    let first = first_is r.0 (at + length (comment inner)) text ps r.1 next is in (
      r.0,
      record {
        tokens = r.1.tokens;
        row = Comment inner refl longest all r.1.row;
        laid = λ white. λ j. record { content = record { kind = None; element = comment (short j) }; white = white; next = first j } ∷ r.1.laid [] j;
      },
    )

token_remade : (kind : TokenKind) (element text : List ℕ) (ps : List ℕ → List TextPiece) (next : Option TokenKind) → IsLongest element text → IsToken kind element text → next_of (ps []) ≡ next → ((at : ℕ) → RemadeFrom at text ps) → (at : ℕ)
    → RemadeFrom at (element ++ text) (λ white. record { content = record { kind = Some kind; element = element }; white = white; next = next } ∷ ps [])
token_remade kind element text ps next longest token is rest at =
    let r = rest (at + length element) in
    let first = first_is r.0 (at + length element) text ps r.1 next is in (
      r.0,
      record {
        tokens = record { kind = kind; start = at; end_ = at + length element } ∷ r.1.tokens;
        row = Lexeme element kind refl longest token r.1.row;
        laid = λ white. λ j. record { content = record { kind = Some kind; element = element }; white = white; next = first j } ∷ r.1.laid [] j;
      },
    )

ending_remade : (begun : Bool) (at : ℕ) → RemadeFrom at (ending begun) (λ white. [])
ending_remade false at = (at, record { tokens = []; row = Here; laid = λ white. refl })
ending_remade true at = (at + 1, record { tokens = []; row = White refl Here; laid = λ white. refl })

-- the layout of a row, read again
remade : {place at : ℕ} {text : List ℕ} {tokens : List Token} (row : Row place [] at text tokens) (p : Progress) (white : List ℕ) (from : ℕ) → RemadeFrom from (laid_out p (pieces_after white row)) (λ before. settled before p (pieces_after white row))
remade Here p white from = ending_remade p.begun from
remade (White {c = c} is row) p white from = remade row p (white ++ c ∷ []) from
remade (Comment {rest = rest} {tokens = tokens} inner parts longest all row) p white from =
    let online : list_all stays_on_line inner ≡ true = weaker is_comment_character stays_on_line comment_on_line inner all in
    let next = after_comment p in
    let text = laid_out next (pieces_after [] row) in
    let ps : List ℕ → List TextPiece = λ before. settled before next (pieces_after [] row) in
    let stop : begins stays_on_line text ≡ false = ends_line row p.constructs p.phrase p.previous p.unary (comment_stops inner rest longest online) in
    let first : next_of (ps []) ≡ first_kind tokens = settled_next [] next (pieces_after [] row) ∙ next_is row [] in
    gap_remade p.begun (line_feeds white) (max 1 (length white)) (comment_columns p (symbol_in (first_kind tokens))) (comment (trimmed inner) ++ text)
    (λ before. record { content = record { kind = None; element = comment (trimmed inner) }; white = before; next = first_kind tokens } ∷ ps [])
    (comment_remade (trimmed inner) text ps (first_kind tokens) (trimmed_again inner) (comment_longest (trimmed inner) text (trimmed_all stays_on_line inner online) stop) (trimmed_all is_comment_character inner all) first (λ at. remade row next [] at)) from
remade (Lexeme {rest = rest} {tokens = tokens} element kind parts longest is row) p white from =
    let next = after_token p (symbol_of kind) in
    let text = laid_out next (pieces_after [] row) in
    let ps : List ℕ → List TextPiece = λ before. settled before next (pieces_after [] row) in
    let s = stands kind element rest text is (follows row (symbol_of kind) next.constructs next.phrase next.unary []) in
    let first : next_of (ps []) ≡ first_kind tokens = settled_next [] next (pieces_after [] row) ∙ next_is row [] in
    gap_remade p.begun (line_feeds white) (spaces_between p.unary p.previous (symbol_of kind) (length white)) (token_columns p (symbol_of kind)) (element ++ text)
    (λ before. record { content = record { kind = Some kind; element = element }; white = before; next = first_kind tokens } ∷ ps [])
    (token_remade kind element text ps (first_kind tokens) s.longest s.token first (λ at. remade row next [] at)) from

contents_are : {place at : ℕ} {text : List ℕ} {tokens : List Token} (row : Row place [] at text tokens) (white : List ℕ) → contents row ≡ map (λ piece. piece.content) (pieces_after white row)
contents_are Here white = refl
contents_are (White {c = c} is row) white = contents_are row (white ++ c ∷ [])
contents_are (Comment inner parts longest all row) white = ap (λ cs. record { kind = None; element = comment (trimmed inner) } ∷ cs) (contents_are row [])
contents_are (Lexeme element kind parts longest is row) white = ap (λ cs. record { kind = Some kind; element = element } ∷ cs) (contents_are row [])

-- the kinds of the tokens among these
kinds_in : List Content → List TokenKind
kinds_in [] = []
kinds_in (c ∷ cs) = elim c.kind [ None ↦ kinds_in cs | Some kind ↦ kind ∷ kinds_in cs ]

kinds_are : {place at : ℕ} {text : List ℕ} {tokens : List Token} (row : Row place [] at text tokens) → kinds_in (contents row) ≡ map (λ token. token.kind) tokens
unfolding kinds_in
kinds_are Here = refl
kinds_are (White is row) = kinds_are row
kinds_are (Comment inner parts longest all row) = kinds_are row
kinds_are (Lexeme element kind parts longest is row) = ap (λ ks. kind ∷ ks) (kinds_are row)

has_contents : (text : List ℕ) (tokens : List Token) (spells : Spells text tokens) (other : List ℕ) (others : List Token) (respelled : Spells other others) → contents respelled.row ≡ contents spells.row → HasContents spells other
has_contents text tokens spells other others respelled same =
    record { others = others; respelled = respelled; same = same; kinds = sym (kinds_are respelled.row) ∙ (ap kinds_in same ∙ kinds_are spells.row) }

-- the layout of a text, read again up to its end
laid_row : (text : List ℕ) (tokens : List Token) (spells : Spells text tokens) → Remade (length (formatted spells)) 0 (formatted spells) (λ before. settled before nothing_read (pieces spells))
laid_row text tokens spells =
    let r = remade spells.row nothing_read [] 0 in
    subst (λ n. Remade n 0 (formatted spells) (λ before. settled before nothing_read (pieces spells))) (let place : r.0 ≡ length (formatted spells) = omega (arith, row_length r.1.row) in place) r.1

pub kept : KeepsContents
kept text tokens spells short =
    let r = laid_row text tokens spells in
    has_contents text tokens spells (formatted spells) r.tokens (record { short = short; row = r.row })
    (contents_are r.row [] ∙ (ap (map (λ piece. piece.content)) (r.laid []) ∙ (settled_contents [] nothing_read (pieces spells) ∙ sym (contents_are spells.row []))))

pub stable : IsStable
stable text tokens spells others respelled =
    let r = laid_row text tokens spells in
    let n = length (formatted spells) in
    let read : pieces respelled ≡ settled [] nothing_read (pieces spells) = pieces_read respelled.row n [] (omega arith) ∙ (sym (pieces_read r.row n [] (omega arith)) ∙ r.laid []) in
    ap (laid_out nothing_read) read ∙ laid_again nothing_read (pieces spells)
