-- What is written before a piece, as what follows the piece before it.
use Rattle.std.proofs.Common.{◌≡◌, ℕ, zero, suc, ◌<◌, Bool, true, false, cond, List, [], ◌∷◌, ◌++◌, length, replicate, Option, Some, refl, sym, ap, ◌∙◌, subst, arith, not, append_assoc}
use Rattle.std.specs.Prelude.{◌==◌, min, max}
use Rattle.std.proofs.lemmas.Bool.Decides.{Decides-eqb, nat_tests}
use Rattle.std.proofs.Math.Nat.{le-max_left}
use Rattle.lexer.specs.declared.token.Token.{Token}
use Rattle.lexer.specs.Characters.{line_feed, is_white, stays_on_line, begins}
use Rattle.lexer.specs.Elements.{comment, IsElement}
use Rattle.lexer.specs.Spelling.{Row, Here, White, Comment, Lexeme}
use Rattle.printing.specs.declared.symbol.Symbol.{Symbol}
use Rattle.printing.specs.declared.construct.Construct.{Construct}
use Rattle.printing.specs.declared.construct.Phrase.{Phrase}
use Rattle.printing.specs.Pieces.{first_kind, line_feeds, pieces_after, trimmed}
use Rattle.printing.specs.Constructs.{symbol_of}
use Rattle.printing.specs.Spacing.{are_joined, keeps_columns, spaces_between}
use Rattle.printing.specs.Layout.{Progress, after_comment, after_token, comment_columns, gap, laid_out, symbol_in, token_columns}
use Rattle.printing.proofs.Reading.{element_front}
use Rattle.printing.proofs.Apart.{Apart, LineFeed, Space, joined, separated, token_front}

abbrev pub progress : List Construct → Phrase → Option Symbol → Bool → Progress
progress cs phrase previous unary = record { constructs = cs; phrase = phrase; previous = previous; unary = unary; begun = true }

-- a line feed, or a space, follows any token
feeds_apart : (symbol : Symbol) (n : ℕ) (text : List ℕ) → 0 < n → Apart symbol (replicate n line_feed ++ text)
feeds_apart symbol zero text some = absurd (omega (arith, some))
feeds_apart symbol (suc n) text some = separated symbol (replicate n line_feed ++ text) LineFeed

spaces_apart : (symbol : Symbol) (n : ℕ) (text : List ℕ) → 0 < n → Apart symbol (replicate n 32 ++ text)
spaces_apart symbol zero text some = absurd (omega (arith, some))
spaces_apart symbol (suc n) text some = separated symbol (replicate n 32 ++ text) Space

feeds_then : (n columns : ℕ) (text : List ℕ) → (replicate n line_feed ++ replicate columns 32) ++ text ≡ replicate n line_feed ++ (replicate columns 32 ++ text)
feeds_then n columns text = append_assoc (replicate n line_feed) (replicate columns 32) text

some_feeds : (n : ℕ) → 0 < min (suc n) 2
some_feeds n = omega arith

line_apart : (symbol : Symbol) (n columns : ℕ) (text : List ℕ) → Apart symbol ((replicate (min (suc n) 2) line_feed ++ replicate columns 32) ++ text)
line_apart symbol n columns text = subst (Apart symbol) (sym (feeds_then (min (suc n) 2) columns text)) (feeds_apart symbol (min (suc n) 2) (replicate columns 32 ++ text) (some_feeds n))

-- what is before a piece that isn't joined to a token
gap_apart : (symbol : Symbol) (lines spaces columns : ℕ) (text : List ℕ) → 0 < spaces → Apart symbol (gap true lines spaces columns ++ text)
gap_apart symbol zero spaces columns text some = spaces_apart symbol spaces text some
gap_apart symbol (suc n) spaces columns text some = line_apart symbol n columns text

-- a piece that is joined to it
joined_gap : (symbol : Symbol) (lines spaces columns : ℕ) (text : List ℕ) → spaces ≡ 0 → Apart symbol text → Apart symbol (gap true lines spaces columns ++ text)
joined_gap symbol zero spaces columns text none apart = subst (λ n. Apart symbol (replicate n 32 ++ text)) (sym none) apart
joined_gap symbol (suc n) spaces columns text none apart = line_apart symbol n columns text

some_spaces : (b : Bool) (n : ℕ) → 0 < cond b (max 1 n) 1
some_spaces true n = le-max_left 1 n
some_spaces false n = omega arith

-- a token after a token
token_apart : (unary : Bool) (previous symbol : Symbol) (lines spaces columns : ℕ) (text : List ℕ) → (are_joined unary previous symbol ≡ true → Apart previous text)
    → Apart previous (gap true lines (spaces_between unary (Some previous) symbol spaces) columns ++ text)
token_apart unary previous symbol lines spaces columns text apart = go (are_joined unary previous symbol) refl
  where
    go : (b : Bool) → are_joined unary previous symbol ≡ b → Apart previous (gap true lines (spaces_between unary (Some previous) symbol spaces) columns ++ text)
    go true e = joined_gap previous lines (spaces_between unary (Some previous) symbol spaces) columns text (ap (λ b. cond b 0 (cond (keeps_columns symbol) (max 1 spaces) 1)) e) (apart e)
    go false e =
        subst (λ n. Apart previous (gap true lines n columns ++ text)) (sym (ap (λ b. cond b 0 (cond (keeps_columns symbol) (max 1 spaces) 1)) e))
        (gap_apart previous lines (cond (keeps_columns symbol) (max 1 spaces) 1) columns text (some_spaces (keeps_columns symbol) spaces))

-- what follows a token in the layout
pub follows : {place at : ℕ} {text : List ℕ} {tokens : List Token} (row : Row place [] at text tokens) (symbol : Symbol) (cs : List Construct) (phrase : Phrase) (unary : Bool) (white : List ℕ)
    → Apart symbol (laid_out (progress cs phrase (Some symbol) unary) (pieces_after white row))
follows Here symbol cs phrase unary white = separated symbol [] LineFeed
follows (White {c = c} is row) symbol cs phrase unary white = follows row symbol cs phrase unary (white ++ c ∷ [])
follows (Comment {tokens = tokens} inner parts longest all row) symbol cs phrase unary white =
    let p = progress cs phrase (Some symbol) unary in
    let text = laid_out (after_comment p) (pieces_after [] row) in
    gap_apart symbol (line_feeds white) (max 1 (length white)) (comment_columns p (symbol_in (first_kind tokens))) (comment (trimmed inner) ++ text) (le-max_left 1 (length white))
follows (Lexeme {rest = rest} element kind parts longest is row) symbol cs phrase unary white =
    let f = token_front kind element rest is in
    let p = progress cs phrase (Some symbol) unary in
    let text = laid_out (after_token p (symbol_of kind)) (pieces_after [] row) in
    token_apart unary symbol (symbol_of kind) (line_feeds white) (length white) (token_columns p (symbol_of kind)) (element ++ text)
    (λ e. subst (λ s. Apart symbol (s ++ text)) (sym f.is) (joined unary symbol (symbol_of kind) f.first (f.others ++ text) f.starts e))

-- a line feed that follows a comment
line_first : (n columns : ℕ) (text : List ℕ) → begins stays_on_line ((replicate (min (suc n) 2) line_feed ++ replicate columns 32) ++ text) ≡ false
line_first n columns text = subst (λ s. begins stays_on_line s ≡ false) (sym (feeds_then (min (suc n) 2) columns text)) (go (min (suc n) 2) (some_feeds n))
  where
    go : (m : ℕ) → 0 < m → begins stays_on_line (replicate m line_feed ++ (replicate columns 32 ++ text)) ≡ false
    go zero some = absurd (omega (arith, some))
    go (suc m) some = refl

after_feed : {place at : ℕ} {text : List ℕ} {tokens : List Token} (row : Row place [] at text tokens) (cs : List Construct) (phrase : Phrase) (previous : Option Symbol) (unary : Bool) (white : List ℕ)
    → begins stays_on_line (laid_out (progress cs phrase previous unary) (pieces_after (line_feed ∷ white) row)) ≡ false
after_feed Here cs phrase previous unary white = refl
after_feed (White {c = c} is row) cs phrase previous unary white = after_feed row cs phrase previous unary (white ++ c ∷ [])
after_feed (Comment inner parts longest all row) cs phrase previous unary white = line_first (line_feeds white) _ _
after_feed (Lexeme element kind parts longest is row) cs phrase previous unary white = line_first (line_feeds white) _ _

feed_is : (c : ℕ) → stays_on_line c ≡ false → c ≡ line_feed
feed_is c e = (Decides-eqb c line_feed).0 (not_false (c == line_feed) e)
  where
    not_false : (b : Bool) → not b ≡ false → b ≡ true
    not_false true f = refl
    not_false false f = sym f

dark_stays : (c : ℕ) → is_white c ≡ false → stays_on_line c ≡ true
dark_stays c e = grind (arith, nat_tests)

-- an element begins no line's end
no_end : (text element rest : List ℕ) → text ≡ element ++ rest → IsElement element → begins stays_on_line text ≡ false → ⊥
no_end text element rest parts shape e =
    let f = element_front element shape in
    let whole : text ≡ f.first ∷ (f.others ++ rest) = parts ∙ ap (λ s. s ++ rest) f.is in
    let stays : begins stays_on_line text ≡ true = ap (begins stays_on_line) whole ∙ dark_stays f.first f.dark in
    let differs : true ≡ false = sym stays ∙ e in
    cc

-- what follows a comment in the layout begins with the end of its line
pub ends_line : {place at : ℕ} {text : List ℕ} {tokens : List Token} (row : Row place [] at text tokens) (cs : List Construct) (phrase : Phrase) (previous : Option Symbol) (unary : Bool) → begins stays_on_line text ≡ false
    → begins stays_on_line (laid_out (progress cs phrase previous unary) (pieces_after [] row)) ≡ false
ends_line Here cs phrase previous unary e = refl
ends_line (White {c = c} is row) cs phrase previous unary e =
    subst (λ d. begins stays_on_line (laid_out (progress cs phrase previous unary) (pieces_after (d ∷ []) row)) ≡ false) (sym (feed_is c e)) (after_feed row cs phrase previous unary [])
ends_line {text = text} (Comment {rest = rest} inner parts longest all row) cs phrase previous unary e = absurd (no_end text (comment inner) rest parts longest.shape e)
ends_line {text = text} (Lexeme {rest = rest} element kind parts longest is row) cs phrase previous unary e = absurd (no_end text element rest parts longest.shape e)
