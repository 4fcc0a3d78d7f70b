-- The layout of a text.
use Rattle.std.specs.Prelude.{◌≡◌, ⊤, ℕ, suc, zero, ◌+◌, ◌<◌, ◌≤◌, min, max, Bool, true, false, ◌&&◌, List, [], ◌∷◌, ◌++◌, length, replicate, Option, Some, None, Result, Ok, Err}
use Rattle.std.specs.Global.{Vec}
use Rattle.base.specs.declared.limits.TheConstants.{TEXT_LIMIT}
use Rattle.lexer.specs.declared.token.Token.{Token}
use Rattle.lexer.specs.declared.token.TokenKind.{TokenKind}
use Rattle.lexer.specs.Characters.{line_feed}
use Rattle.lexer.specs.Spelling.{Spells}
use Rattle.printing.specs.declared.symbol.Symbol.{Symbol}
use Rattle.printing.specs.declared.symbol.Symbol.TheVariants as symbols
use Rattle.printing.specs.declared.construct.Construct.{Construct}
use Rattle.printing.specs.declared.construct.Phrase.{Phrase}
use Rattle.printing.specs.declared.construct.Phrase.TheVariants as phrases
use Rattle.printing.specs.declared.refusal.Refusal.{Refusal}
use Rattle.printing.specs.declared.refusal.Refusal.TheVariants as refusals
use Rattle.lexer.specs.declared.word.Word.TheVariants as words
use Rattle.printing.specs.Pieces.{TextPiece, pieces, line_feeds}
use Rattle.printing.specs.Constructs.{symbol_of, innermost, opened, closed, phrase_after, columns_within, without, with_opened, continued}
use Rattle.printing.specs.Spacing.{is_sign, precedes_sign, spaces_between}

-- what decides how the rest of a text is laid out
pub record Progress : Type 0 where
  -- what is open, the innermost last
  pub constructs : List Construct
  -- how far a statement or declaration is read
  pub phrase : Phrase
  -- the last token
  pub previous : Option Symbol
  -- it is a unary sign
  pub unary : Bool
  -- there was a piece
  pub begun : Bool

abbrev pub nothing_read : Progress
nothing_read = record { constructs = []; phrase = phrases.Start; previous = None; unary = false; begun = false }

-- what a token opens
abbrev pub opened_by : Progress → Symbol → Option Construct
opened_by p symbol = opened (innermost p.constructs) p.phrase p.previous symbol

-- what stays open around a token, which closes what it does
abbrev pub constructs_around : Progress → Symbol → List Construct
constructs_around p symbol = without (closed (innermost p.constructs) p.phrase symbol) p.constructs

abbrev pub after_token : Progress → Symbol → Progress
after_token p symbol = record {
  constructs = with_opened (opened_by p symbol) (constructs_around p symbol);
  phrase = phrase_after (innermost p.constructs) p.phrase p.previous symbol;
  previous = Some symbol;
  unary = is_sign symbol && precedes_sign p.previous;
  begun = true;
}

abbrev pub after_comment : Progress → Progress
after_comment p = record p { begun = true }

-- the columns before a token that is the first of its line
abbrev pub token_columns : Progress → Symbol → ℕ
token_columns p symbol = columns_within (constructs_around p symbol) + continued (opened_by p symbol) p.phrase

-- the columns before a comment on a line of its own: within what is open, but before a `when` those of its line
abbrev pub comment_columns : Progress → (next : Option Symbol) → ℕ
comment_columns p (Some (symbols.Word words.When)) = token_columns p (symbols.Word words.When)
comment_columns p next = columns_within p.constructs + continued None p.phrase

-- what is before a piece: line breaks, of which two leave a blank line, and the columns of its line; or, on the line of the last one, spaces
abbrev pub gap : (begun : Bool) → (lines spaces columns : ℕ) → List ℕ
gap false lines spaces columns = []
gap true zero spaces columns = replicate spaces 32
gap true (suc n) spaces columns = replicate (min (suc n) 2) line_feed ++ replicate columns 32

abbrev pub token_gap : Progress → (white : List ℕ) → Symbol → List ℕ
token_gap p white symbol = gap p.begun (line_feeds white) (spaces_between p.unary p.previous symbol (length white)) (token_columns p symbol)

abbrev pub comment_gap : Progress → (white : List ℕ) → (next : Option Symbol) → List ℕ
comment_gap p white next = gap p.begun (line_feeds white) (max 1 (length white)) (comment_columns p next)

abbrev pub symbol_in : Option TokenKind → Option Symbol
symbol_in None = None
symbol_in (Some kind) = Some (symbol_of kind)

-- what is written before a piece
abbrev pub gap_before : Progress → TextPiece → List ℕ
gap_before p piece = elim piece.content.kind [ None ↦ comment_gap p piece.white (symbol_in piece.next) | Some kind ↦ token_gap p piece.white (symbol_of kind) ]

abbrev pub after : Progress → TextPiece → Progress
after p piece = elim piece.content.kind [ None ↦ after_comment p | Some kind ↦ after_token p (symbol_of kind) ]

-- the last line ends
abbrev pub ending : (begun : Bool) → List ℕ
ending false = []
ending true = line_feed ∷ []

-- the pieces as they are laid out
abbrev pub laid_out : Progress → List TextPiece → List ℕ
laid_out p [] = ending p.begun
laid_out p (piece ∷ rest) = gap_before p piece ++ (piece.content.element ++ laid_out (after p piece) rest)

-- the layout of a text that these tokens spell
abbrev pub formatted : {text : List ℕ} {tokens : List Token} → Spells text tokens → List ℕ
formatted spells = laid_out nothing_read (pieces spells)

-- This text is given, where it is no longer than a text may be, unless memory is refused.
abbrev pub GivesText : Result (Vec ℕ) Refusal → List ℕ → Type 0
GivesText (Ok given) text = (given.items ≡ text) × (length text ≤ TEXT_LIMIT)
GivesText (Err refusals.TooLong) text = TEXT_LIMIT < length text
GivesText (Err refusals.Memory) text = ⊤
