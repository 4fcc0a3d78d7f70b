-- The pieces of a layout, with the white space that is written before them.
use Rattle.std.proofs.Common.{◌≡◌, ℕ, zero, suc, ◌<◌, ◌≤◌, Bool, true, false, cond, List, [], ◌∷◌, ◌++◌, length, map, replicate, Option, Some, None, refl, ap, ◌∙◌, arith}
use Rattle.std.specs.Prelude.{min, max}
use Rattle.std.proofs.lemmas.List.{length-replicate}
use Rattle.lexer.specs.declared.token.TokenKind.{TokenKind}
use Rattle.lexer.specs.Characters.{line_feed}
use Rattle.printing.specs.declared.symbol.Symbol.{Symbol}
use Rattle.printing.specs.Pieces.{TextPiece, line_feeds}
use Rattle.printing.specs.Constructs.{symbol_of}
use Rattle.printing.specs.Spacing.{are_joined, keeps_columns, spaces_between}
use Rattle.printing.specs.Layout.{Progress, after, comment_columns, gap, gap_before, laid_out, symbol_in, token_columns}
use Rattle.printing.proofs.Pieced.{next_of}

abbrev pub settled : List ℕ → Progress → List TextPiece → List TextPiece
settled before p [] = []
settled before p (piece ∷ rest) = record piece { white = before ++ gap_before p piece } ∷ settled [] (after p piece) rest

pub settled_next : (before : List ℕ) (p : Progress) (ps : List TextPiece) → next_of (settled before p ps) ≡ next_of ps
settled_next before p [] = refl
settled_next before p (piece ∷ rest) = refl

pub settled_contents : (before : List ℕ) (p : Progress) (ps : List TextPiece) → map (λ piece. piece.content) (settled before p ps) ≡ map (λ piece. piece.content) ps
settled_contents before p [] = refl
settled_contents before p (piece ∷ rest) = ap (λ cs. piece.content ∷ cs) (settled_contents [] (after p piece) rest)

no_feeds : (n : ℕ) → line_feeds (replicate n 32) ≡ 0
no_feeds zero = refl
no_feeds (suc n) = no_feeds n

feeds : (n columns : ℕ) → line_feeds (replicate n line_feed ++ replicate columns 32) ≡ n
feeds zero columns = no_feeds columns
feeds (suc n) columns = ap suc (feeds n columns)

few_lines : (n spaces columns : ℕ) → 0 < n → n ≤ 2 → gap true n spaces columns ≡ replicate n line_feed ++ replicate columns 32
few_lines zero spaces columns some few = absurd (omega (arith, some))
few_lines (suc n) spaces columns some few = ap (λ m. replicate m line_feed ++ replicate columns 32) (let e : min (suc n) 2 ≡ suc n = omega (arith, few) in e)

-- what is before a piece stays, where its spaces do
gap_again : (begun : Bool) (lines : ℕ) (spaces : ℕ → ℕ) (n columns : ℕ) → spaces (spaces n) ≡ spaces n
    → gap begun (line_feeds (gap begun lines (spaces n) columns)) (spaces (length (gap begun lines (spaces n) columns))) columns ≡ gap begun lines (spaces n) columns
gap_again false lines spaces n columns same = refl
gap_again true zero spaces n columns same =
    ap (λ m. gap true m (spaces (length {A = ℕ} (replicate (spaces n) 32))) columns) (no_feeds (spaces n))
    ∙ (ap (λ m. replicate (spaces m) 32) (length-replicate (spaces n) 32) ∙ ap (λ m. replicate m 32) same)
gap_again true (suc k) spaces n columns same =
    let m = min (suc k) 2 in
    let s = spaces (length {A = ℕ} (replicate m line_feed ++ replicate columns 32)) in
    ap (λ l. gap true l s columns) (feeds m columns) ∙ few_lines m s columns (omega arith) (omega arith)

two_tests : (joined kept : Bool) (n : ℕ) → cond joined 0 (cond kept (max 1 (cond joined 0 (cond kept (max 1 n) 1))) 1) ≡ cond joined 0 (cond kept (max 1 n) 1)
two_tests true kept n = refl
two_tests false true n = omega arith
two_tests false false n = refl

spaces_again : (unary : Bool) (previous : Option Symbol) (symbol : Symbol) (n : ℕ) → spaces_between unary previous symbol (spaces_between unary previous symbol n) ≡ spaces_between unary previous symbol n
spaces_again unary None symbol n = refl
spaces_again unary (Some previous) symbol n = two_tests (are_joined unary previous symbol) (keeps_columns symbol) n

comment_spaces : (n : ℕ) → max 1 (max 1 n) ≡ max 1 n
comment_spaces n = omega arith

before_again : (p : Progress) (kind : Option TokenKind) (element white : List ℕ) (next : Option TokenKind)
    → gap_before p (record {
      content = record { kind = kind; element = element };
      white = gap_before p (record { content = record { kind = kind; element = element }; white = white; next = next });
      next = next;
    })
    ≡ gap_before p (record { content = record { kind = kind; element = element }; white = white; next = next })
before_again p None element white next = gap_again p.begun (line_feeds white) (max 1) (length white) (comment_columns p (symbol_in next)) (comment_spaces (length white))
before_again p (Some kind) element white next =
    gap_again p.begun (line_feeds white) (spaces_between p.unary p.previous (symbol_of kind)) (length white) (token_columns p (symbol_of kind)) (spaces_again p.unary p.previous (symbol_of kind) (length white))

pub laid_again : (p : Progress) (ps : List TextPiece) → laid_out p (settled [] p ps) ≡ laid_out p ps
laid_again p [] = refl
laid_again p (piece ∷ rest) =
    ap (λ g. g ++ (piece.content.element ++ laid_out (after p piece) (settled [] (after p piece) rest))) (before_again p piece.content.kind piece.content.element piece.white piece.next)
    ∙ ap (λ s. gap_before p piece ++ (piece.content.element ++ s)) (laid_again (after p piece) rest)
